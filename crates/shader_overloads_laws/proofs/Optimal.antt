-- Of the rules of some shapes with the scalars of a set that can arise none beats the first, and so none of the remaining rules does.
use Rattle.std.proofs.Common.{◌≡◌, ◌∙◌, ap, sym, refl, inl, inr, ℕ, zero, suc, ◌≤◌, Bool, true, false, not, ◌&&◌}
use Rattle.std.proofs.Common.{List, [], ◌∷◌, Option, Some, None, slice_get, nat_lt, arith}
use Rattle.std.specs.List.{filter, list_all, list_any}
use Rattle.std.specs.Option.{option_and_then}
use Rattle.std.proofs.lemmas.Bool.{and_from, and_parts, both_ways, cases_Bool, le-ltb, ltb-false}
use Rattle.std.proofs.lemmas.Bool.{not-true, not_from_false, or_cases, or_left, or_right}
use Rattle.shader_ir.specs.declared.operators.MathFunction.{MathFunction}
use Rattle.shader_ir.specs.declared.operators.MathFunction.TheVariants as f
use Rattle.shader_ir.specs.declared.scalar.Scalar as s
use Rattle.shader_ir.specs.declared.types.TypeInner.{TypeInner}
use Rattle.shader_ir.specs.declared.types.TypeInner.TheVariants.{Scalar, Vector, Matrix}
use Rattle.shader_ir.specs.Scalars.{named_scalars}
use Rattle.shader_overloads.specs.declared.overload_set.SetCall.{SetCall}
use Rattle.shader_overloads.specs.declared.overload_set.SetCall.TheVariants.{Arg, ConcreteOnly}
use Rattle.shader_overloads.specs.declared.rule.Rule.{Rule}
use Rattle.shader_overloads.specs.Builtins.{extract_bits_rules, insert_bits_rules, ldexp_rules, mix_rules}
use Rattle.shader_overloads.specs.Builtins.{outer_rules, refract_rules, rules_of, transpose_rules}
use Rattle.shader_overloads.specs.Rank.{conversion_rank, leaf_rank}
use Rattle.shader_overloads.specs.Remaining.{leaf_scalar}
use Rattle.shader_overloads.specs.Rules.{regular_rules}
use Rattle.shader_overloads.proofs.AgreementLemmas.{all_at, has_all}
use Rattle.shader_overloads.proofs.BuiltinLemmas.{is_named_inner, is_named_rule, rules_named}
use Rattle.shader_overloads_laws.specs.Optimality.{PreferredIsUnbeaten}
use Rattle.shader_overloads_laws.specs.ScalarSets.{FirstRulesAreBest, arising_sets, is_built_alike, is_some_built_alike}
use Rattle.shader_overloads_laws.proofs.Arguments.{argument_is, constructor_of, inners, inners_named, leaf, same_built_reported, same_found}
use Rattle.shader_overloads_laws.proofs.Filters.{each_fine, filter_preserves, first_of_left, first_split}
use Rattle.shader_overloads_laws.proofs.Scalars.{source_named}
use Rattle.shader_overloads_laws.proofs.Sets.{contains_among, has_all_sets}
use Rattle.shader_overloads_laws.proofs.Shapes.{alike_is, first_in, fits, of_shape_is, scalar_sets_arise}

-- ---- the test

abbrev pub is_smaller : Option ℕ → Option ℕ → Bool
is_smaller (Some m) (Some n) = nat_lt m n
is_smaller _ _ = false

-- no scalar has a smaller rank to the second than to the first
abbrev pub is_no_better : s.Scalar → s.Scalar → Bool
is_no_better a b = list_all (λ source. not (is_smaller (conversion_rank source b) (conversion_rank source a))) named_scalars

abbrev pub are_no_better : List TypeInner → List TypeInner → Bool
are_no_better [] gs = true
are_no_better (a ∷ fs) [] = true
are_no_better (a ∷ fs) (b ∷ gs) = is_no_better (leaf a) (leaf b) && are_no_better fs gs

abbrev pub same_shape : List TypeInner → List TypeInner → Bool
same_shape [] [] = true
same_shape (a ∷ fs) (b ∷ gs) = is_built_alike a b && same_shape fs gs
same_shape _ _ = false

abbrev pub no_better_unless : Bool → Rule → Rule → Bool
no_better_unless true rule other = true
no_better_unless false rule other = are_no_better (inners rule) (inners other)

-- whether there is a rule of the same shape before
abbrev pub is_seen : List Rule → Rule → Bool
is_seen before rule = list_any (λ earlier. same_shape (inners earlier) (inners rule)) before

-- a later rule has no smaller rank than one that is the first of its shape
abbrev pub is_fine : List Rule → Rule → Rule → Bool
is_fine before rule other = no_better_unless (is_seen before rule) rule other

abbrev pub all_fine : List Rule → List Rule → Bool
all_fine before [] = true
all_fine before (rule ∷ rules) = list_all (is_fine before rule) rules && all_fine (rule ∷ before) rules

sets_fine : (function : MathFunction) →
    list_all (λ set. all_fine [] (filter (λ rule. first_in set (inners rule)) (rules_of function))) arising_sets ≡ true
unfolding regular_rules named_scalars ldexp_rules outer_rules refract_rules transpose_rules extract_bits_rules insert_bits_rules mix_rules
sets_fine f.Ldexp = refl
sets_fine _ = refl

-- ---- rules of one shape

alike_same : (ty a b : TypeInner) → is_built_alike a b ≡ true → is_built_alike ty a ≡ is_built_alike ty b
alike_same ty a b e =
    sym (alike_is ty a) ∙ ap (same_found (constructor_of ty)) (same_built_reported a b (alike_is a b ∙ e)) ∙ alike_is ty b

alike_at : (ty : TypeInner) (fs gs : List TypeInner) (i : ℕ) → same_shape fs gs ≡ true →
    is_some_built_alike ty (slice_get fs i) ≡ is_some_built_alike ty (slice_get gs i)
alike_at ty [] [] i e = refl
alike_at ty [] (b ∷ gs) i e = cc
alike_at ty (a ∷ fs) [] i e = cc
alike_at ty (a ∷ fs) (b ∷ gs) zero e = alike_same ty a b (and_parts (is_built_alike a b) (same_shape fs gs) e).0
alike_at ty (a ∷ fs) (b ∷ gs) (suc i) e = alike_at ty fs gs i (and_parts (is_built_alike a b) (same_shape fs gs) e).1

fits_alike : (call : SetCall) (rule other : Rule) → same_shape (inners rule) (inners other) ≡ true → fits rule call ≡ fits other call
fits_alike (Arg i ty) rule other e = alike_at ty (inners rule) (inners other) i e
fits_alike ConcreteOnly rule other e = refl

abbrev pub fits_all : List SetCall → Rule → Bool
fits_all calls rule = list_all (fits rule) calls

fit_alike : (calls : List SetCall) (rule other : Rule) → same_shape (inners rule) (inners other) ≡ true →
    fits_all calls rule ≡ fits_all calls other
fit_alike [] rule other e = refl
fit_alike (call ∷ calls) rule other e =
    ap (λ b. b && fits_all calls rule) (fits_alike call rule other e) ∙ ap (λ b. fits other call && b) (fit_alike calls rule other e)

-- ---- the first rule of some shapes

abbrev pub unbeaten : Rule → Rule → Bool
unbeaten rule other = are_no_better (inners rule) (inners other)

same_rank : (rank : Option ℕ) → is_smaller rank rank ≡ false
same_rank None = refl
same_rank (Some n) = le-ltb n n (omega arith)

itself_no_better : (a : s.Scalar) (sources : List s.Scalar) →
    list_all (λ source. not (is_smaller (conversion_rank source a) (conversion_rank source a))) sources ≡ true
itself_no_better a [] = refl
itself_no_better a (source ∷ sources) =
    and_from _ _ (not_from_false _ (same_rank (conversion_rank source a))) (itself_no_better a sources)

all_no_better : (fs : List TypeInner) → are_no_better fs fs ≡ true
all_no_better [] = refl
all_no_better (a ∷ fs) = and_from _ _ (itself_no_better (leaf a) named_scalars) (all_no_better fs)

unbeaten_self : (rule : Rule) → unbeaten rule rule ≡ true
unbeaten_self rule = all_no_better (inners rule)

module _ (calls : List SetCall) where
  seen_fits : (before : List Rule) (rule : Rule) → is_seen before rule ≡ true →
      fits_all calls rule ≡ true → list_any (fits_all calls) before ≡ true
  seen_fits [] rule seen here = cc
  seen_fits (earlier ∷ before) rule seen here =
      elim (or_cases (same_shape (inners earlier) (inners rule)) (is_seen before rule) seen) [
        | inl same ↦ or_left _ _ (fit_alike calls earlier rule same ∙ here)
        | inr later ↦ or_right _ _ (seen_fits before rule later here)
      ]

  fine_is_good : (before : List Rule) (rule other : Rule) → is_fine before rule other ≡ true → fits_all calls rule ≡ true →
      fits_all calls other ≡ true → list_any (fits_all calls) before ≡ false → unbeaten rule other ≡ true
  fine_is_good before rule other fine here there none =
      elim (cases_Bool (is_seen before rule)) [
        | inl seen ↦ absurd (both_ways (list_any (fits_all calls) before) none (seen_fits before rule seen here))
        | inr new ↦ ap (λ b. no_better_unless b rule other) (sym new) ∙ fine
      ]

  each : (before rules : List Rule) → all_fine before rules ≡ true →
      each_fine (fits_all calls) unbeaten is_fine unbeaten_self fine_is_good before rules ≡ true
  each before [] fine = refl
  each before (rule ∷ rules) fine =
      let parts = and_parts (list_all (is_fine before rule) rules) (all_fine (rule ∷ before) rules) fine in
      and_from _ _ parts.0 (each (rule ∷ before) rules parts.1)

  first_unbeaten : (rules : List Rule) → all_fine [] rules ≡ true → (first : Rule) (later : List Rule) →
      filter (fits_all calls) rules ≡ first ∷ later → list_all (unbeaten first) (first ∷ later) ≡ true
  first_unbeaten rules fine first later e =
      first_of_left (fits_all calls) unbeaten is_fine unbeaten_self fine_is_good [] rules (each [] rules fine) refl first later e

-- ---- ranks

leaf_is : (a : TypeInner) → is_named_inner a ≡ true → leaf_scalar a ≡ Some (leaf a)
leaf_is (Scalar a) named = refl
leaf_is (Vector n a) named = refl
leaf_is (Matrix m n a) named = refl
leaf_is _ named = cc

module _ (source : s.Scalar) (rank other_rank : ℕ) where
  no_less : (a b : s.Scalar) → is_no_better a b ≡ true → conversion_rank source a ≡ Some rank → conversion_rank source b ≡ Some other_rank →
      rank ≤ other_rank
  no_less a b best is_rank is_other =
      let here = has_all (λ from. not (is_smaller (conversion_rank from b) (conversion_rank from a))) source named_scalars
      (source_named source a rank is_rank) best in
      ltb-false other_rank rank
      (sym (ap (λ o. is_smaller o (conversion_rank source a)) is_other ∙ ap (is_smaller (Some other_rank)) is_rank) ∙ not-true _ here)

  no_less_at : (fs gs : List TypeInner) (i : ℕ) → are_no_better fs gs ≡ true → list_all is_named_inner fs ≡ true →
      list_all is_named_inner gs ≡ true → leaf_rank (Some source) (option_and_then leaf_scalar (slice_get fs i)) ≡ Some rank →
      leaf_rank (Some source) (option_and_then leaf_scalar (slice_get gs i)) ≡ Some other_rank → rank ≤ other_rank
  no_less_at [] gs i best nf ng is_rank is_other = cc
  no_less_at (a ∷ fs) [] i best nf ng is_rank is_other = cc
  no_less_at (a ∷ fs) (b ∷ gs) zero best nf ng is_rank is_other =
      no_less (leaf a) (leaf b) (and_parts (is_no_better (leaf a) (leaf b)) (are_no_better fs gs) best).0
      (sym (ap (leaf_rank (Some source)) (leaf_is a (and_parts (is_named_inner a) (list_all is_named_inner fs) nf).0)) ∙ is_rank)
      (sym (ap (leaf_rank (Some source)) (leaf_is b (and_parts (is_named_inner b) (list_all is_named_inner gs) ng).0)) ∙ is_other)
  no_less_at (a ∷ fs) (b ∷ gs) (suc i) best nf ng is_rank is_other =
      no_less_at fs gs i (and_parts (is_no_better (leaf a) (leaf b)) (are_no_better fs gs) best).1
      (and_parts (is_named_inner a) (list_all is_named_inner fs) nf).1 (and_parts (is_named_inner b) (list_all is_named_inner gs) ng).1
      is_rank is_other

no_less_from : (found : Option s.Scalar) (fs gs : List TypeInner) (i rank other_rank : ℕ) → are_no_better fs gs ≡ true →
    list_all is_named_inner fs ≡ true → list_all is_named_inner gs ≡ true →
    leaf_rank found (option_and_then leaf_scalar (slice_get fs i)) ≡ Some rank →
    leaf_rank found (option_and_then leaf_scalar (slice_get gs i)) ≡ Some other_rank → rank ≤ other_rank
no_less_from (Some source) fs gs i rank other_rank best nf ng is_rank is_other =
    no_less_at source rank other_rank fs gs i best nf ng is_rank is_other
no_less_from None fs gs i rank other_rank best nf ng is_rank is_other = cc

-- ---- the laws

pub first_rules_are_best : FirstRulesAreBest
first_rules_are_best function types calls set first other position i rank other_rank ty arises at_first at_other is_rank is_other =
    let rules : List Rule = filter (λ rule. first_in set (inners rule)) (rules_of function) in
    let retained : List Rule = filter (fits_all calls) rules in
    let is = of_shape_is function types calls set in
    let here : slice_get retained 0 ≡ Some first = sym (ap (λ (left : List Rule). slice_get left 0) is) ∙ at_first in
    let there : slice_get retained position ≡ Some other = sym (ap (λ (left : List Rule). slice_get left position) is) ∙ at_other in
    let split = first_split retained first here in
    let fine = has_all_sets (λ v. all_fine [] (filter (λ rule. first_in v (inners rule)) (rules_of function))) arising_sets set
    (sets_fine function) (contains_among arising_sets set arises) in
    let all : list_all (unbeaten first) retained ≡ true =
    ap (list_all (unbeaten first)) split.1 ∙ first_unbeaten calls rules fine first split.0 split.1 in
    let named = filter_preserves (fits_all calls) is_named_rule rules
    (filter_preserves (λ rule. first_in set (inners rule)) is_named_rule (rules_of function) (rules_named function)) in
    let named_first = all_at is_named_rule retained 0 first named here in
    let named_other = all_at is_named_rule retained position other named there in
    let rank_of : Option TypeInner → Option ℕ = λ found. leaf_rank (leaf_scalar ty) (option_and_then leaf_scalar found) in
    no_less_from (leaf_scalar ty) (inners first) (inners other) i rank other_rank
    (all_at (unbeaten first) retained position other all there)
    (inners_named first.arguments named_first) (inners_named other.arguments named_other)
    (sym (ap rank_of (argument_is types first i named_first)) ∙ is_rank)
    (sym (ap rank_of (argument_is types other i named_other)) ∙ is_other)

-- what remains are such rules, so that no remaining rule beats the first
pub preferred_is_unbeaten : PreferredIsUnbeaten
preferred_is_unbeaten function types calls first rule position at_first at_rule beats =
    let left = scalar_sets_arise function types calls in
    let here = sym (ap (λ (rules : List Rule). slice_get rules 0) left.2) ∙ at_first in
    let there = sym (ap (λ (rules : List Rule). slice_get rules position) left.2) ∙ at_rule in
    let no_less = first_rules_are_best function types calls left.0 first rule position beats.i beats.other_rank beats.rank beats.ty left.1
    here there beats.other_has_rank beats.has_rank in
    omega (arith, no_less, beats.smaller)
