-- The override that keeps lengths from being known.
use Rattle.std.specs.Prelude.{ℕ, List, [], ◌∷◌, Option, Some, None, Ok, Err}
use Rattle.std.specs.Option.{option_or}
use Rattle.shader_bounds.specs.Lengths.{Answer, resolved_length}
use Rattle.shader_ir.specs.declared.«module».Module.{Module}
use Rattle.shader_ir.specs.declared.types.«Type».{«Type»}
use Rattle.shader_ir.specs.declared.types.ArraySize.{ArraySize}
use Rattle.shader_ir.specs.declared.types.ArraySize.TheVariants as size
use Rattle.shader_ir.specs.declared.types.TypeInner.{TypeInner}
use Rattle.shader_ir.specs.declared.types.TypeInner.TheVariants.{Array, BindingArray}

abbrev pub override_in : ArraySize → Option ℕ
override_in (size.Pending handle) = Some handle
override_in _ = None

-- the override that sizes an array or a binding array
abbrev pub pending_override : TypeInner → Option ℕ
pending_override (Array base count stride) = override_in count
pending_override (BindingArray base count) = override_in count
pending_override _ = None

abbrev pub unless_resolved : Answer → Option ℕ → Option ℕ
unless_resolved (Ok length) handle = None
unless_resolved (Err error) handle = handle

module _ (checked : Module) where
  -- the override that sizes the type, if it gives no size
  abbrev pub unresolved : TypeInner → Option ℕ
  unresolved inner = unless_resolved (resolved_length checked inner) (pending_override inner)

  abbrev pub first_among : List «Type» → Option ℕ
  first_among [] = None
  first_among (type ∷ types) = option_or (unresolved type.inner) (first_among types)

  -- that of the first type that has one
  abbrev pub first_unsized : Option ℕ
  first_unsized = first_among checked.types
