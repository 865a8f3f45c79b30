-- Positions in ascending order.
use Rattle.std.proofs.Common.{◌≡◌, ◌∙◌, ◌↔◌, refl, sym, ap, subst, ℕ, List, [], ◌∷◌, map}
use Rattle.std.specs.BTreeSet.{BTreeSet, IsFromIterResult}
use Rattle.std.specs.List.{Contains}
use Rattle.std.specs.List.Sorted.{IsStrictlyIncreasing}
use Rattle.std.specs.Ordering.{nat_cmp}
use Rattle.std.proofs.lemmas.Cmp.{nat_cmp_total}
use Rattle.std.proofs.lemmas.Map.Keys.{IsStrictlyIncreasing-from_sorted}
use Rattle.std.proofs.lemmas.Map.Lookups.{exact_unsigned}
use Rattle.std.proofs.lemmas.Map.Views.{btree_set_contains_from_list, btree_set_contains_iff}
use Rattle.shader_analysis_spec.specs.Program.{Function, Module}
use Rattle.shader_bounds.specs.Locals.{IsOutOfBoundsType}
use Rattle.shader_bounds.specs.Typed.{Records}
use Rattle.shader_bounds.specs.declared.policies.BoundsCheckPolicies.{BoundsCheckPolicies}
use Rattle.shader_info.specs.declared.info.FunctionInfo.{FunctionInfo}
use Rattle.shader_report_bounds.specs.Bounds.{AreLocalTypes}

same_numbers : (numbers : List ℕ) → map (λ (n : ℕ). n) numbers ≡ numbers
same_numbers [] = refl
same_numbers (n ∷ numbers) = ap (λ rest. n ∷ rest) (same_numbers numbers)

-- a set built from the types that are found has these types, in ascending order
pub types_listed : (m : Module) (f : Function) (info : FunctionInfo) (policies : BoundsCheckPolicies) (found : List ℕ) (set : BTreeSet ℕ)
    (types : List ℕ) →
    ((ty : ℕ) → Contains found ty ↔ IsOutOfBoundsType m f (Records info) policies ty) →
    IsFromIterResult nat_cmp (map (λ (n : ℕ). n) found) set → types ≡ set.keys → AreLocalTypes m f info policies types
types_listed m f info policies found set types are built is = subst (AreLocalTypes m f info policies) (sym is) (record {
  ascending = IsStrictlyIncreasing-from_sorted set.keys built.1;
  members = λ ty.
      let numbers = map (λ (n : ℕ). n) found in
      let among = btree_set_contains_from_list nat_cmp_total exact_unsigned numbers set built ty in
      let stored = btree_set_contains_iff nat_cmp_total exact_unsigned set ty in
      let same = same_numbers found in (
        λ h. (are ty).0 (subst (λ v. Contains v ty) same (among.0 (stored.1 h))),
        λ h. stored.0 (among.1 (subst (λ v. Contains v ty) (sym same) ((are ty).1 h))),
      );
})
