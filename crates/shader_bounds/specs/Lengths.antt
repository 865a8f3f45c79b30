-- Lengths: the number of items that an index may select.
use Rattle.std.specs.Prelude.{ℕ, List, slice_get, Option, Some, None, Result, Ok, Err, IsOk, All}
use Rattle.shader_ir.specs.Alignments.{vector_count}
use Rattle.shader_ir.specs.Key.{inner_of}
use Rattle.shader_ir.specs.KnownNumbers.{override_size}
use Rattle.shader_ir.specs.declared.«module».GlobalCtx.{GlobalCtx}
use Rattle.shader_ir.specs.declared.«module».Module.{Module}
use Rattle.shader_ir.specs.declared.proc.known_numbers.ResolveArraySizeError.{ResolveArraySizeError}
use Rattle.shader_ir.specs.declared.proc.type_resolution.TypeResolution.{TypeResolution}
use Rattle.shader_ir.specs.declared.types.«Type».{«Type»}
use Rattle.shader_ir.specs.declared.types.ArraySize.{ArraySize}
use Rattle.shader_ir.specs.declared.types.ArraySize.TheVariants as size
use Rattle.shader_ir.specs.declared.types.TypeInner.{TypeInner}
use Rattle.shader_ir.specs.declared.types.TypeInner.TheVariants.{Vector, Matrix, Array, BindingArray, Pointer, ValuePointer}
use Rattle.shader_bounds.specs.declared.error.IndexableLengthError.{IndexableLengthError}
use Rattle.shader_bounds.specs.declared.error.IndexableLengthError.TheVariants as refusal
use Rattle.shader_bounds.specs.declared.lengths.IndexableLength.{IndexableLength}
use Rattle.shader_bounds.specs.declared.lengths.IndexableLength.TheVariants.{Known, Dynamic}

abbrev pub Answer : Type 0
Answer = Result IndexableLength IndexableLengthError

-- the length of an array of this size: pending if an override gives it
abbrev pub length_of_size : ArraySize → Answer
length_of_size (size.Constant count) = Ok (Known count)
length_of_size (size.Pending sizer) = Err (refusal.Pending (size.Pending sizer))
length_of_size size.Dynamic = Ok Dynamic

-- the length of a type that contains its items itself: the components of a vector, the columns of a matrix, the elements of an array
abbrev pub own_length : TypeInner → Answer
own_length (Vector count scalar) = Ok (Known (vector_count count))
own_length (Matrix columns rows scalar) = Ok (Known (vector_count columns))
own_length (Array base count stride) = length_of_size count
own_length (BindingArray base count) = length_of_size count
own_length _ = Err refusal.TypeNotIndexable

abbrev pub found_length : Option «Type» → Answer
found_length (Some type) = own_length type.inner
found_length None = Err refusal.TypeNotIndexable

-- the length of the type at a handle
abbrev pub pointed_length : List «Type» → ℕ → Answer
pointed_length types base = found_length (slice_get types base)

-- a pointer has the length of its pointee, looking through one pointer only; a value pointer has that of its vector
abbrev pub indexable_length : List «Type» → TypeInner → Answer
indexable_length types (Pointer base space) = pointed_length types base
indexable_length types (ValuePointer (Some count) scalar space) = Ok (Known (vector_count count))
indexable_length types inner = own_length inner

-- a pending length counts as dynamic
abbrev pub dynamic_if_pending : Answer → Answer
dynamic_if_pending (Err (refusal.Pending count)) = Ok Dynamic
dynamic_if_pending length = length

-- the length before the overrides have values
abbrev pub pending_length : List «Type» → TypeInner → Answer
pending_length types inner = dynamic_if_pending (indexable_length types inner)

-- the context in which the numbers of a module are determined; the addresses of the arenas don't matter
abbrev pub globals_of : Module → GlobalCtx
globals_of checked =
    record {
      types = record { ref_ptr = (0, 0); now = checked.types };
      constants = record { ref_ptr = (0, 0); now = checked.constants };
      overrides = record { ref_ptr = (0, 0); now = checked.overrides };
      global_expressions = record { ref_ptr = (0, 0); now = checked.global_expressions };
    }

abbrev pub sized_length : Result ℕ ResolveArraySizeError → Answer
sized_length (Ok count) = Ok (Known count)
sized_length (Err error) = Err (refusal.ResolveArraySizeError error)

module _ (checked : Module) where
  -- the length of an array of this size, given by the override's value if there is one
  abbrev pub resolved_size : ArraySize → Answer
  resolved_size (size.Constant count) = Ok (Known count)
  resolved_size (size.Pending sizer) = sized_length (override_size (globals_of checked) sizer)
  resolved_size size.Dynamic = Ok Dynamic

  -- a pending length is looked up
  abbrev pub resolved : Answer → Answer
  resolved (Err (refusal.Pending count)) = resolved_size count
  resolved length = length

  -- the length once the overrides have values
  abbrev pub resolved_length : TypeInner → Answer
  resolved_length inner = resolved (indexable_length checked.types inner)

  abbrev pub inner_length : Option TypeInner → Answer
  inner_length (Some inner) = resolved_length inner
  inner_length None = Err refusal.TypeNotIndexable

  -- the length of an indexed type
  abbrev pub base_length : TypeResolution → Answer
  base_length base = inner_length (inner_of checked.types base)

  -- the size isn't given by an override, or the override's value is a valid size
  abbrev pub IsKnownSize : ArraySize → Type 0
  IsKnownSize (size.Pending sizer) = IsOk (override_size (globals_of checked) sizer)
  IsKnownSize _ = Unit {0}

  abbrev pub HasKnownSize : TypeInner → Type 0
  HasKnownSize (Array base count stride) = IsKnownSize count
  HasKnownSize (BindingArray base count) = IsKnownSize count
  HasKnownSize _ = Unit {0}

  -- every pending size of an array or a binding array among the types resolves
  abbrev pub AreSizesKnown : Type 0
  AreSizesKnown = All (λ (type : «Type»). HasKnownSize type.inner) checked.types
