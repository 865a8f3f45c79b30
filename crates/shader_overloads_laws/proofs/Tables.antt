-- Checks of the rules of all built-in functions, by computation.
use Rattle.std.proofs.Common.{◌≡◌, ◌∙◌, ◌==◌, ap, refl, Bool, true, false, ◌&&◌, List, [], ◌∷◌, length, Option, Some, None}
use Rattle.std.specs.List.{list_all}
use Rattle.std.proofs.lemmas.Bool.{and_from, and_parts}
use Rattle.shader_ir.specs.declared.operators.MathFunction.{MathFunction}
use Rattle.shader_ir.specs.declared.operators.MathFunction.TheVariants as f
use Rattle.shader_ir.specs.declared.scalar.VectorSize.{VectorSize}
use Rattle.shader_ir.specs.declared.types.TypeInner.{TypeInner}
use Rattle.shader_ir.specs.declared.types.TypeInner.TheVariants.{Scalar, Vector, Matrix}
use Rattle.shader_ir.specs.declared.«module».PredeclaredType.{PredeclaredType}
use Rattle.shader_ir.specs.declared.«module».PredeclaredType.TheVariants.{FrexpResult, ModfResult}
use Rattle.shader_ir.specs.Conversion.{same_size}
use Rattle.shader_ir.specs.Scalars.{named_scalars, same_scalar}
use Rattle.shader_overloads.specs.declared.rule.Conclusion.{Conclusion}
use Rattle.shader_overloads.specs.declared.rule.Conclusion.TheVariants.{Value, Predeclared}
use Rattle.shader_overloads.specs.declared.rule.Rule.{Rule}
use Rattle.shader_overloads.specs.Builtins.{extract_bits_rules, insert_bits_rules, ldexp_rules, mix_rules}
use Rattle.shader_overloads.specs.Builtins.{outer_rules, refract_rules, rules_of, transpose_rules}
use Rattle.shader_overloads.specs.Rules.{regular_rules}
use Rattle.shader_overloads.proofs.AgreementLemmas.{same_scalar_reported}
use Rattle.shader_overloads.proofs.BuiltinLemmas.{is_named_inner}
use Rattle.shader_overloads.proofs.SetLemmas.{same_scalar_self, same_size_self}
use Rattle.shader_overloads_laws.proofs.Arguments.{constructor_of, found_first, inners, leaf, same_built}
use Rattle.shader_overloads_laws.proofs.Arguments.{same_built_reported, same_parts, same_size_reported}

-- ---- equal arguments, equal conclusions

abbrev pub same_inner : TypeInner → TypeInner → Bool
same_inner a b = same_built a b && same_scalar (leaf a) (leaf b)

abbrev pub same_inners : List TypeInner → List TypeInner → Bool
same_inners [] [] = true
same_inners (a ∷ more) (b ∷ others) = same_inner a b && same_inners more others
same_inners _ _ = false

abbrev pub same_option : Option VectorSize → Option VectorSize → Bool
same_option None None = true
same_option (Some m) (Some n) = same_size m n
same_option _ _ = false

abbrev pub same_result : PredeclaredType → PredeclaredType → Bool
same_result (FrexpResult m a) (FrexpResult n b) = same_option m n && same_scalar a b
same_result (ModfResult m a) (ModfResult n b) = same_option m n && same_scalar a b
same_result _ _ = false

abbrev pub same_conclusion : Conclusion → Conclusion → Bool
same_conclusion (Value a) (Value b) = same_inner a b
same_conclusion (Predeclared a) (Predeclared b) = same_result a b
same_conclusion _ _ = false

abbrev pub concludes_if : Bool → Rule → Rule → Bool
concludes_if true rule other = same_conclusion rule.conclusion other.conclusion
concludes_if false rule other = true

-- the rules have equally many arguments, and equal conclusions if the arguments are equal
abbrev pub agree : Rule → Rule → Bool
agree rule other = (length rule.arguments == length other.arguments) && concludes_if (same_inners (inners rule) (inners other)) rule other

pub rules_agree : (function : MathFunction) → list_all (λ rule. list_all (agree rule) (rules_of function)) (rules_of function) ≡ true
unfolding regular_rules named_scalars ldexp_rules outer_rules refract_rules transpose_rules extract_bits_rules insert_bits_rules mix_rules
rules_agree f.Ldexp = refl
rules_agree _ = refl

same_option_reported : (m n : Option VectorSize) → same_option m n ≡ true → m ≡ n
same_option_reported None None e = refl
same_option_reported (Some m) (Some n) e = ap Some (same_size_reported m n e)
same_option_reported None (Some n) e = cc
same_option_reported (Some m) None e = cc

same_result_reported : (a b : PredeclaredType) → same_result a b ≡ true → a ≡ b
same_result_reported (FrexpResult m a) (FrexpResult n b) e =
    let parts = and_parts (same_option m n) (same_scalar a b) e in
    ap (λ x. FrexpResult x a) (same_option_reported m n parts.0) ∙ ap (FrexpResult n) (same_scalar_reported a b parts.1)
same_result_reported (ModfResult m a) (ModfResult n b) e =
    let parts = and_parts (same_option m n) (same_scalar a b) e in
    ap (λ x. ModfResult x a) (same_option_reported m n parts.0) ∙ ap (ModfResult n) (same_scalar_reported a b parts.1)
same_result_reported _ _ e = cc

same_inner_reported : (a b : TypeInner) → same_inner a b ≡ true → a ≡ b
same_inner_reported a b e =
    let parts = and_parts (same_built a b) (same_scalar (leaf a) (leaf b)) e in
    same_parts a b (found_first (constructor_of a) (constructor_of b) parts.0) (same_built_reported a b parts.0)
    (same_scalar_reported (leaf a) (leaf b) parts.1)

pub same_conclusion_reported : (a b : Conclusion) → same_conclusion a b ≡ true → a ≡ b
same_conclusion_reported (Value a) (Value b) e = ap Value (same_inner_reported a b e)
same_conclusion_reported (Predeclared a) (Predeclared b) e = ap Predeclared (same_result_reported a b e)
same_conclusion_reported (Value a) (Predeclared b) e = cc
same_conclusion_reported (Predeclared a) (Value b) e = cc

same_inner_self : (a : TypeInner) → is_named_inner a ≡ true → same_inner a a ≡ true
same_inner_self (Scalar s) named = same_scalar_self s
same_inner_self (Vector n s) named = and_from _ _ (same_size_self n) (same_scalar_self s)
same_inner_self (Matrix m n s) named = and_from _ _ (and_from _ _ (same_size_self m) (same_size_self n)) (same_scalar_self s)
same_inner_self _ named = cc

pub same_inners_self : (all : List TypeInner) → list_all is_named_inner all ≡ true → same_inners all all ≡ true
same_inners_self [] named = refl
same_inners_self (a ∷ all) named =
    let parts = and_parts (is_named_inner a) (list_all is_named_inner all) named in
    and_from _ _ (same_inner_self a parts.0) (same_inners_self all parts.1)

pub concludes_so : (same : Bool) (rule other : Rule) → concludes_if same rule other ≡ true → same ≡ true →
    rule.conclusion ≡ other.conclusion
concludes_so true rule other e h = same_conclusion_reported rule.conclusion other.conclusion e
concludes_so false rule other e h = cc
