-- Consequences of known sizes.
use Rattle.std.proofs.Common.{◌≡◌, ◌↔◌, ◌⊎◌, ℕ, ◌+◌, ◌<◌, All, List, [], ◌∷◌, length, slice_get, Option}
use Rattle.std.proofs.Common.{Some, None, Result, Ok, Err, IsOk, arith, inl, inr, refl, subst, sym}
use Rattle.std.specs.List.{enumerate_from}
use Rattle.std.proofs.lemmas.Option.{get_or_from_slice_get, slice_get_within}
use Rattle.std.proofs.lemmas.List.Elements.{All-cons, All-head, All-tail}
use Rattle.shader_ir.specs.KnownNumbers.{override_size}
use Rattle.shader_ir.specs.declared.«module».Module.{Module}
use Rattle.shader_ir.specs.declared.proc.known_numbers.ResolveArraySizeError.{ResolveArraySizeError}
use Rattle.shader_ir.specs.declared.types.«Type».{«Type»}
use Rattle.shader_ir.specs.declared.types.ArraySize.{ArraySize}
use Rattle.shader_ir.specs.declared.types.ArraySize.TheVariants as size
use Rattle.shader_ir.specs.declared.types.TypeInner.{TypeInner}
use Rattle.shader_ir.specs.declared.types.TypeInner.TheVariants.{Vector, Matrix, Array, BindingArray, Pointer, ValuePointer}
use Rattle.shader_bounds.specs.LengthLaws.{KnownSizesGiveLengths}
use Rattle.shader_bounds.specs.Lengths.{found_length, globals_of, indexable_length, length_of_size, own_length, pointed_length}
use Rattle.shader_bounds.specs.Lengths.{resolved, resolved_length, sized_length, AreSizesKnown, HasKnownSize, IsKnownSize}
use Rattle.shader_bounds.specs.declared.error.IndexableLengthError.TheVariants.{TypeNotIndexable}

module _ (checked : Module) where
  -- each type has a known size
  abbrev pub AreKnown : List (ℕ × «Type») → Type 0
  AreKnown [] = Unit {0}
  AreKnown (entry ∷ rest) = HasKnownSize checked (entry.1).inner × AreKnown rest

  abbrev IsKnown : «Type» → Type 0
  IsKnown type = HasKnownSize checked type.inner

  -- the property of all types
  pub known_listed : (first : ℕ) (types : List «Type») → AreKnown (enumerate_from first types) ↔ All IsKnown types
  known_listed first [] = ((λ _ k d lt. absurd (omega arith)), (λ _. tt))
  known_listed first (type ∷ types) =
      let rest = known_listed (first + 1) types in (
        (λ known. All-cons IsKnown type types known.0 (rest.0 known.1)),
        (λ all. (All-head IsKnown type types all, rest.1 (All-tail IsKnown type types all))),
      )

  -- the property of one of the types
  known_at : (types : List «Type») (position : ℕ) (type : «Type») → All IsKnown types → slice_get types position ≡ Some type → IsKnown type
  known_at types position type all found = subst IsKnown (get_or_from_slice_get types position type type found)
      (all position type (slice_get_within types position type found))

  sized : (found : Result ℕ ResolveArraySizeError) → IsOk found → IsOk (sized_length found)
  sized (Ok count) known = refl
  sized (Err error) known = absurd (cc)

  size_resolves : (count : ArraySize) → IsKnownSize checked count → IsOk (resolved checked (length_of_size count))
  size_resolves (size.Constant count) known = refl
  size_resolves (size.Pending handle) known = sized (override_size (globals_of checked) handle) known
  size_resolves size.Dynamic known = refl

  own_resolves : (inner : TypeInner) → HasKnownSize checked inner →
      IsOk (resolved checked (own_length inner)) ⊎ (own_length inner ≡ Err TypeNotIndexable)
  own_resolves (Vector count scalar) known = inl refl
  own_resolves (Matrix columns rows scalar) known = inl refl
  own_resolves (Array base count stride) known = inl (size_resolves count known)
  own_resolves (BindingArray base count) known = inl (size_resolves count known)
  own_resolves _ known = inr refl

  pointed_resolves : (base : ℕ) → AreSizesKnown checked →
      IsOk (resolved checked (pointed_length checked.types base)) ⊎ (pointed_length checked.types base ≡ Err TypeNotIndexable)
  pointed_resolves base all = by (slice_get checked.types base) refl
    where
      by : (found : Option «Type») → slice_get checked.types base ≡ found →
          IsOk (resolved checked (found_length found)) ⊎ (found_length found ≡ Err TypeNotIndexable)
      by None e = inr refl
      by (Some type) e = own_resolves type.inner (known_at checked.types base type all e)

  resolves : (inner : TypeInner) → AreSizesKnown checked → HasKnownSize checked inner →
      IsOk (resolved_length checked inner) ⊎ (indexable_length checked.types inner ≡ Err TypeNotIndexable)
  resolves (Pointer base space) all known = pointed_resolves base all
  resolves (ValuePointer (Some count) scalar space) all known = inl refl
  resolves inner all known = own_resolves inner known

-- if sizes are known, a type has a length or isn't indexable
pub known_sizes_give_lengths : KnownSizesGiveLengths
known_sizes_give_lengths checked inner all known = resolves checked inner all known
