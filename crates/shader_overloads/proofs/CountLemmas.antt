-- The numbers of arguments of the rules of a set.
use Rattle.std.proofs.Common.{◌≡◌, ◌≢◌, ◌∙◌, ℕ, zero, suc, List, [], ◌∷◌, ◌++◌, length, map, refl, ap, arith, subst, Some, slice_get}
use Rattle.std.specs.List.{flat_map}
use Rattle.std.proofs.lemmas.List.{length-replicate}
use Rattle.shader_ir.specs.declared.scalar.Scalar.{Scalar}
use Rattle.shader_ir.specs.declared.proc.type_resolution.TypeResolution.TheVariants as resolutions
use Rattle.shader_overloads.specs.declared.constructor_set.ConstructorSize.{ConstructorSize}
use Rattle.shader_overloads.specs.declared.mask.Mask.{Mask}
use Rattle.shader_overloads.specs.declared.regular.ConclusionRule.{ConclusionRule}
use Rattle.shader_overloads.specs.declared.regular.RegularTable.{RegularTable}
use Rattle.shader_overloads.specs.declared.rule.Rule.{Rule}
use Rattle.shader_ir.specs.Scalars.{named_scalars}
use Rattle.shader_overloads.specs.Constructors.{all_constructors, to_inner}
use Rattle.shader_overloads.specs.Counts.{IsCount, IsLeastCount, IsGreatestCount}
use Rattle.shader_overloads.specs.Masks.{has_position, rules_at}
use Rattle.shader_overloads.specs.Regular.{all_rules}
use Rattle.shader_overloads.specs.Rules.{regular_rules, rule_for}
use Rattle.shader_overloads.proofs.ListCountLemmas.{position_of}

-- a property of an element of a list whose elements are built by f from two components
element_of : {X Y Z : Type 0} (P : Z → Type 0) (f : X → Y → Z) → ((x : X) (y : Y) → P (f x y)) → (x : X) (ys : List Y) (rest : List Z) →
    ((k : ℕ) (z : Z) → slice_get rest k ≡ Some z → P z) → (k : ℕ) (z : Z) → slice_get (map (f x) ys ++ rest) k ≡ Some z → P z
element_of P f each x [] rest later k z at = later k z at
element_of P f each x (y ∷ ys) rest later zero z at = let same : f x y ≡ z = cc in subst P same (each x y)
element_of P f each x (y ∷ ys) rest later (suc k) z at = element_of P f each x ys rest later k z at

element : {X Y Z : Type 0} (P : Z → Type 0) (f : X → Y → Z) → ((x : X) (y : Y) → P (f x y)) → (xs : List X) (ys : List Y) (k : ℕ) (z : Z) →
    slice_get (flat_map (λ x. map (f x) ys) xs) k ≡ Some z → P z
element P f each [] ys k z at = absurd (cc)
element P f each (x ∷ xs) ys k z at = element_of P f each x ys (flat_map (λ v. map (f v) ys) xs) (element P f each xs ys) k z at

rule_for-count : (arity : ℕ) (conclude : ConclusionRule) (size : ConstructorSize) (s : Scalar) →
    length (rule_for arity conclude size s).arguments ≡ arity
rule_for-count arity conclude size s = length-replicate arity (resolutions.Value (to_inner size s))

-- each rule of a regular set has its arity
count_of : (arity : ℕ) (conclude : ConclusionRule) (all : List ConstructorSize) (scalars : List Scalar) (k : ℕ) (rule : Rule) →
    slice_get (regular_rules arity conclude all scalars) k ≡ Some rule → length rule.arguments ≡ arity
unfolding regular_rules
count_of arity conclude all scalars = element (λ (rule : Rule). length rule.arguments ≡ arity) (rule_for arity conclude)
    (rule_for-count arity conclude) all scalars

some_first : (rules : List Rule) → rules ≢ [] → (rule : Rule) × (slice_get rules 0 ≡ Some rule)
some_first [] some = absurd (some refl)
some_first (rule ∷ rules) some = (rule, refl)

module _ (table : RegularTable) (mask : Mask) (rules : List Rule) (is : rules_at mask (all_rules table) ≡ rules) where
  -- each rule whose number is in a mask has the arity
  bound : (k : ℕ) (rule : Rule) → slice_get rules k ≡ Some rule → length rule.arguments ≡ table.arity
  bound k rule at =
      let r = position_of (has_position mask) (all_rules table) rule k (ap (λ list. slice_get list k) is ∙ at) in
      count_of table.arity table.conclude all_constructors named_scalars r.position rule r.at

  reached : rules ≢ [] → IsCount table.arity rules
  reached some =
      let first = some_first rules some in
      (0, first.0, first.1, bound 0 first.0 first.1)

  pub least_count : rules ≢ [] → IsLeastCount table.arity rules
  least_count some = record {
    reached = reached some;
    bound = λ k rule at. let count = bound k rule at in omega arith;
  }

  pub greatest_count : rules ≢ [] → IsGreatestCount table.arity rules
  greatest_count some = record {
    reached = reached some;
    bound = λ k rule at. let count = bound k rule at in omega arith;
  }
