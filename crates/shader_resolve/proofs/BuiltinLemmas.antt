-- The remaining rules of a built-in function, what they read of types, and their conclusions.
use Rattle.std.proofs.Common.{◌≡◌, ◌∙◌, ap, sym, refl, ℕ, Bool, true, false, ◌&&◌, List}
use Rattle.std.proofs.Common.{[], ◌∷◌, map, Option, Some, None, IfSome, All}
use Rattle.std.specs.List.{filter, flat_map, list_all}
use Rattle.std.proofs.lemmas.List.Elements.{All-nil, All-append, All-cons, All-filter, All-head, filter_agree}
use Rattle.std.proofs.lemmas.List.Sums.{AllPass-from_list_all}
use Rattle.std.proofs.lemmas.Map.Entries.{All-lookup}
use Rattle.shader_ir.specs.declared.«module».PredeclaredType.{PredeclaredType}
use Rattle.shader_ir.specs.declared.«module».SpecialTypes.{SpecialTypes}
use Rattle.shader_ir.specs.declared.operators.MathFunction.{MathFunction}
use Rattle.shader_ir.specs.declared.operators.MathFunction.TheVariants as f
use Rattle.shader_ir.specs.declared.scalar.Scalar.{Scalar}
use Rattle.shader_ir.specs.declared.types.«Type».{«Type»}
use Rattle.shader_ir.specs.declared.types.TypeInner.{TypeInner}
use Rattle.shader_ir.specs.declared.types.TypeInner.TheVariants as type
use Rattle.shader_ir.specs.declared.proc.type_resolution.TypeResolution.{TypeResolution}
use Rattle.shader_ir.specs.declared.proc.type_resolution.TypeResolution.TheVariants as resolutions
use Rattle.shader_ir.specs.Key.{canonical}
use Rattle.shader_overloads.specs.declared.constructor_set.ConstructorSize.{ConstructorSize}
use Rattle.shader_overloads.specs.declared.constructor_set.ConstructorSize.TheVariants as sizes
use Rattle.shader_overloads.specs.declared.overload_set.SetCall.TheVariants.{Arg}
use Rattle.shader_overloads.specs.declared.regular.ConclusionRule.{ConclusionRule}
use Rattle.shader_overloads.specs.declared.regular.ConclusionRule.TheVariants as gives
use Rattle.shader_overloads.specs.declared.rule.Conclusion.{Conclusion}
use Rattle.shader_overloads.specs.declared.rule.Conclusion.TheVariants.{Value, Predeclared}
use Rattle.shader_overloads.specs.declared.rule.Rule.{Rule}
use Rattle.shader_overloads.specs.Builtins.{acceptance_of, rules_of, ldexp_rules, outer_rules, refract_rules}
use Rattle.shader_overloads.specs.Builtins.{transpose_rules, extract_bits_rules, insert_bits_rules, mix_rules}
use Rattle.shader_overloads.specs.Remaining.{remaining}
use Rattle.shader_overloads.specs.Resolutions.{registered, resolution_of, same_predeclared}
use Rattle.shader_overloads.specs.Rules.{conclusion_of, regular_rules, rule_for}
use Rattle.shader_overloads.proofs.AcceptanceLemmas.{accepts-canonical, list_accepts-canonical}
use Rattle.shader_overloads.proofs.NarrowLemmas.{filter-filter}
use Rattle.shader_resolve.specs.Builtins.{concluded, first_conclusion, rules_after_one, rules_after_two}
use Rattle.shader_resolve.specs.Outcome.{Outcome, Given, Refused}

-- ---- remaining rules

and-true : (b : Bool) → b ≡ (b && true)
and-true true = refl
and-true false = refl

and-more : (a b : Bool) → ((a && true) && b) ≡ (a && (b && true))
and-more true b = and-true b
and-more false b = refl

module _ (accepting : List «Type» → ℕ → TypeInner → Rule → Bool) (types : List «Type») (first : TypeInner) (rules : List Rule) where
  pub after_one-is : filter (accepting types 0 first) rules ≡ remaining accepting types (Arg 0 first ∷ []) rules
  after_one-is = filter_agree _ _ (λ rule. and-true (accepting types 0 first rule)) rules

  pub after_two-is : (second : TypeInner) → filter (accepting types 1 second) (remaining accepting types (Arg 0 first ∷ []) rules)
      ≡ remaining accepting types (Arg 0 first ∷ Arg 1 second ∷ []) rules
  after_two-is second =
      filter-filter (accepting types 1 second) _ rules
      ∙ filter_agree _ _ (λ rule. and-more (accepting types 0 first rule) (accepting types 1 second rule)) rules

-- ---- canonical forms

-- a type and its canonical form are accepted by the same rules of a built-in function
acceptance-canonical : (fun : MathFunction) (types : List «Type») (i : ℕ) (ty : TypeInner) (rule : Rule) →
    acceptance_of fun types i (canonical types ty) rule ≡ acceptance_of fun types i ty rule
acceptance-canonical f.Ldexp types i ty rule = list_accepts-canonical types i ty rule
acceptance-canonical f.Outer types i ty rule = list_accepts-canonical types i ty rule
acceptance-canonical f.Refract types i ty rule = list_accepts-canonical types i ty rule
acceptance-canonical f.Transpose types i ty rule = list_accepts-canonical types i ty rule
acceptance-canonical f.ExtractBits types i ty rule = list_accepts-canonical types i ty rule
acceptance-canonical f.InsertBits types i ty rule = list_accepts-canonical types i ty rule
acceptance-canonical f.Mix types i ty rule = list_accepts-canonical types i ty rule
acceptance-canonical fun types i ty rule = accepts-canonical types i ty rule

module _ (types : List «Type») (fun : MathFunction) where
  pub one-canonical : (first : TypeInner) → rules_after_one types fun first ≡ rules_after_one types fun (canonical types first)
  one-canonical first = filter_agree _ _ (λ rule. ap (λ b. b && true) (sym (acceptance-canonical fun types 0 first rule))) (rules_of fun)

  pub first-canonical : (first second : TypeInner) → rules_after_two types fun first second
      ≡ rules_after_two types fun (canonical types first) second
  first-canonical first second = filter_agree _ _ (λ rule. ap (λ b. b && (acceptance_of fun types 1 second rule && true))
      (sym (acceptance-canonical fun types 0 first rule))) (rules_of fun)

  pub second-canonical : (first second : TypeInner) → rules_after_two types fun first second
      ≡ rules_after_two types fun first (canonical types second)
  second-canonical first second = filter_agree _ _ (λ rule. ap (λ b. acceptance_of fun types 0 first rule && (b && true))
      (sym (acceptance-canonical fun types 1 second rule))) (rules_of fun)

-- ---- conclusions

-- the conclusion is a type without handles, or one that a module registers
abbrev pub is_plain_inner : TypeInner → Bool
is_plain_inner (type.Scalar scalar) = true
is_plain_inner (type.Vector size scalar) = true
is_plain_inner (type.Matrix columns rows scalar) = true
is_plain_inner _ = false

abbrev is_plain : Conclusion → Bool
is_plain (Value inner) = is_plain_inner inner
is_plain (Predeclared predeclared) = true

abbrev concludes_plainly : Rule → Bool
concludes_plainly rule = is_plain rule.conclusion

abbrev ArePlain : List Rule → Type 0
ArePlain rules = All (λ rule. concludes_plainly rule ≡ true) rules

conclusion-plain : (conclude : ConclusionRule) (size : ConstructorSize) (s : Scalar) → is_plain (conclusion_of conclude size s) ≡ true
conclusion-plain gives.ArgumentType sizes.Scalar s = refl
conclusion-plain gives.ArgumentType (sizes.Vector size) s = refl
conclusion-plain gives.ArgumentType (sizes.Matrix columns rows) s = refl
conclusion-plain conclude size s = refl

module _ (arity : ℕ) (conclude : ConclusionRule) where
  size-plain : (size : ConstructorSize) (scalars : List Scalar) → ArePlain (map (rule_for arity conclude size) scalars)
  size-plain size [] = All-nil (λ rule. concludes_plainly rule ≡ true)
  size-plain size (s ∷ scalars) = All-cons (λ rule. concludes_plainly rule ≡ true) _ _ (conclusion-plain conclude size s)
      (size-plain size scalars)

  sizes-plain : (sizes : List ConstructorSize) (scalars : List Scalar) →
      ArePlain (flat_map (λ size. map (rule_for arity conclude size) scalars) sizes)
  sizes-plain [] scalars = All-nil (λ rule. concludes_plainly rule ≡ true)
  sizes-plain (size ∷ sizes) scalars = All-append (λ rule. concludes_plainly rule ≡ true) _ _ (size-plain size scalars)
      (sizes-plain sizes scalars)

  regular-plain : (sizes : List ConstructorSize) (scalars : List Scalar) → ArePlain (regular_rules arity conclude sizes scalars)
  unfolding regular_rules
  regular-plain sizes scalars = sizes-plain sizes scalars

ldexp-plain : list_all concludes_plainly ldexp_rules ≡ true
unfolding ldexp_rules
ldexp-plain = refl

outer-plain : list_all concludes_plainly outer_rules ≡ true
unfolding outer_rules
outer-plain = refl

refract-plain : list_all concludes_plainly refract_rules ≡ true
unfolding refract_rules
refract-plain = refl

transpose-plain : list_all concludes_plainly transpose_rules ≡ true
unfolding transpose_rules
transpose-plain = refl

extract_bits-plain : list_all concludes_plainly extract_bits_rules ≡ true
unfolding extract_bits_rules
extract_bits-plain = refl

insert_bits-plain : list_all concludes_plainly insert_bits_rules ≡ true
unfolding insert_bits_rules
insert_bits-plain = refl

mix-plain : list_all concludes_plainly mix_rules ≡ true
unfolding mix_rules
mix-plain = refl

listed-plain : (rules : List Rule) → list_all concludes_plainly rules ≡ true → ArePlain rules
listed-plain rules e = AllPass-from_list_all concludes_plainly rules e

rules-plain : (fun : MathFunction) → ArePlain (rules_of fun)
rules-plain f.Ldexp = listed-plain ldexp_rules ldexp-plain
rules-plain f.Outer = listed-plain outer_rules outer-plain
rules-plain f.Refract = listed-plain refract_rules refract-plain
rules-plain f.Transpose = listed-plain transpose_rules transpose-plain
rules-plain f.ExtractBits = listed-plain extract_bits_rules extract_bits-plain
rules-plain f.InsertBits = listed-plain insert_bits_rules insert_bits-plain
rules-plain f.Mix = listed-plain mix_rules mix-plain
rules-plain fun = regular-plain _ _ _ _

-- a property of resolutions that those of plain types have, and those that a module registers
module _ (Fits : TypeResolution → Type 0) (plain-fits : (inner : TypeInner) → is_plain_inner inner ≡ true → Fits (resolutions.Value inner))
    (special : SpecialTypes)
    (stored : All (λ (entry : PredeclaredType × ℕ). Fits (resolutions.Handle entry.1)) special.predeclared_types) where
  abbrev AnswerFits : Outcome → Type 0
  AnswerFits (Given resolution) = Fits resolution
  AnswerFits (Refused refusal) = Unit {0}

  registered-fits : (predeclared : PredeclaredType) (found : Option ℕ) → IfSome found (λ ty. Fits (resolutions.Handle ty)) →
      registered special predeclared ≡ found → AnswerFits (concluded (resolution_of special (Predeclared predeclared)))
  registered-fits predeclared (Some handle) fits e = rw e fits
  registered-fits predeclared None fits e = rw e tt

  concluded-fits : (conclusion : Conclusion) → is_plain conclusion ≡ true → AnswerFits (concluded (resolution_of special conclusion))
  concluded-fits (Value inner) e = plain-fits inner e
  concluded-fits (Predeclared predeclared) e =
      registered-fits predeclared (registered special predeclared)
      (All-lookup (λ ty. Fits (resolutions.Handle ty)) (same_predeclared predeclared) special.predeclared_types stored) refl

  -- the first of such rules concludes a type that has it
  pub first-fits : (p : Rule → Bool) (fun : MathFunction) → AnswerFits (first_conclusion special (filter p (rules_of fun)))
  first-fits p fun = at_first (filter p (rules_of fun)) (All-filter p (λ rule. concludes_plainly rule ≡ true) (rules_of fun)
      (rules-plain fun))
    where
      at_first : (rules : List Rule) → ArePlain rules → AnswerFits (first_conclusion special rules)
      at_first [] plain = tt
      at_first (rule ∷ rules) plain = concluded-fits rule.conclusion (All-head (λ rule. concludes_plainly rule ≡ true) rule rules plain)
