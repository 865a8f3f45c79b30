-- Overrides that give no size.
use Rattle.std.proofs.Common.{◌≡◌, ◌∙◌, ◌↔◌, refl, sym, subst, All, IsNone, IsOk, List, [], ◌∷◌, Option, Some, None, Result, Ok, Err}
use Rattle.std.proofs.Common.{arith, ℕ}
use Rattle.std.specs.Option.{option_or}
use Rattle.std.proofs.lemmas.List.Elements.{All-cons, All-head, All-tail}
use Rattle.shader_bounds.specs.Lengths.{Answer, AreSizesKnown, HasKnownSize, IsKnownSize, globals_of, length_of_size}
use Rattle.shader_bounds.specs.Lengths.{resolved, resolved_length, sized_length}
use Rattle.shader_ir.specs.KnownNumbers.{override_size}
use Rattle.shader_ir.specs.declared.«module».Module.{Module}
use Rattle.shader_ir.specs.declared.proc.known_numbers.ResolveArraySizeError.{ResolveArraySizeError}
use Rattle.shader_ir.specs.declared.types.«Type».{«Type»}
use Rattle.shader_ir.specs.declared.types.ArraySize.{ArraySize}
use Rattle.shader_ir.specs.declared.types.ArraySize.TheVariants as size
use Rattle.shader_ir.specs.declared.types.TypeInner.{TypeInner}
use Rattle.shader_ir.specs.declared.types.TypeInner.TheVariants.{Array, BindingArray}
use Rattle.shader_report_bounds.specs.Sizes.{first_among, first_unsized, override_in, unless_resolved, unresolved}

none_left : (answer : Answer) → unless_resolved answer None ≡ None
none_left (Ok length) = refl
none_left (Err error) = refl

module _ (checked : Module) where
  -- the override has a size, or is left
  sized_where : (handle : ℕ) (found : Result ℕ ResolveArraySizeError) →
      (unless_resolved (sized_length found) (Some handle) ≡ None) ↔ IsOk found
  sized_where handle (Ok count) = ((λ _. refl), (λ _. refl))
  sized_where handle (Err error) = ((λ left. absurd (cc)), (λ known. absurd (cc)))

  size_where : (count : ArraySize) →
      (unless_resolved (resolved checked (length_of_size count)) (override_in count) ≡ None) ↔ IsKnownSize checked count
  size_where (size.Constant count) = ((λ _. tt), (λ _. refl))
  size_where (size.Pending handle) = sized_where handle (override_size (globals_of checked) handle)
  size_where size.Dynamic = ((λ _. tt), (λ _. refl))

  type_where : (inner : TypeInner) → (unresolved checked inner ≡ None) ↔ HasKnownSize checked inner
  type_where (Array base count stride) = size_where count
  type_where (BindingArray base count) = size_where count
  type_where inner = ((λ _. tt), (λ _. none_left (resolved_length checked inner)))

  both_none : (first rest : Option ℕ) → option_or first rest ≡ None → (first ≡ None) × (rest ≡ None)
  both_none None rest none = (refl, none)
  both_none (Some handle) rest none = absurd (cc)

  none_from : (first rest : Option ℕ) → first ≡ None → rest ≡ None → option_or first rest ≡ None
  none_from None rest none others = others
  none_from (Some handle) rest none others = absurd (cc)

  abbrev IsSized : «Type» → Type 0
  IsSized type = HasKnownSize checked type.inner

  all_where : (types : List «Type») → (first_among checked types ≡ None) ↔ All IsSized types
  all_where [] = ((λ _ k d lt. absurd (omega arith)), (λ _. refl))
  all_where (type ∷ types) =
      let one = type_where type.inner in
      let rest = all_where types in (
        (λ none. let both = both_none (unresolved checked type.inner) (first_among checked types) none in
            All-cons IsSized type types (one.0 both.0) (rest.0 both.1)),
        (λ all. none_from (unresolved checked type.inner) (first_among checked types) (one.1 (All-head IsSized type types all))
            (rest.1 (All-tail IsSized type types all))),
      )

  is_none : (o : Option ℕ) → IsNone o ↔ (o ≡ None)
  is_none None = ((λ _. refl), (λ _. refl))
  is_none (Some handle) = ((λ none. absurd (cc)), (λ none. absurd (cc)))

  -- no override is left exactly if sizes are known
  pub none_where : (o : Option ℕ) → o ≡ first_unsized checked → IsNone o ↔ AreSizesKnown checked
  none_where o is =
      let all = all_where checked.types in (
        (λ none. all.0 (sym is ∙ (is_none o).0 none)),
        (λ known. (is_none o).1 (is ∙ all.1 known)),
      )
