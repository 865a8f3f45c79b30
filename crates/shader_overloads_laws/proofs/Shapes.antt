-- What calls leave of any built-in function: the rules of fitting shapes whose scalars are in one set that can arise.
use Rattle.std.proofs.Common.{◌≡◌, ◌∙◌, ap, sym, refl, inl, inr, ℕ, zero, suc, Bool, true, false, ◌&&◌}
use Rattle.std.proofs.Common.{List, [], ◌∷◌, Option, Some, None, slice_get}
use Rattle.std.specs.List.{filter, list_all, list_any}
use Rattle.std.specs.Option.{option_and_then}
use Rattle.std.proofs.lemmas.Bool.{and_from, and_parts, cases_Bool}
use Rattle.shader_ir.specs.declared.operators.MathFunction.{MathFunction}
use Rattle.shader_ir.specs.declared.operators.MathFunction.TheVariants as f
use Rattle.shader_ir.specs.declared.scalar.Scalar as s
use Rattle.shader_ir.specs.declared.types.«Type».{«Type»}
use Rattle.shader_ir.specs.declared.types.TypeInner.{TypeInner}
use Rattle.shader_ir.specs.declared.types.TypeInner.TheVariants.{Scalar, Vector, Matrix}
use Rattle.shader_ir.specs.Conversion.{scalar_converts}
use Rattle.shader_ir.specs.Scalars.{named_scalars, same_scalar}
use Rattle.shader_overloads.specs.declared.overload_set.SetCall.{SetCall}
use Rattle.shader_overloads.specs.declared.overload_set.SetCall.TheVariants.{Arg, ConcreteOnly}
use Rattle.shader_overloads.specs.declared.rule.Rule.{Rule}
use Rattle.shader_overloads.specs.AcceptanceLaws.{is_named, is_named_or_none}
use Rattle.shader_overloads.specs.BuiltinGroups.{is_listed}
use Rattle.shader_overloads.specs.Builtins.{extract_bits_rules, insert_bits_rules, ldexp_rules, mix_rules}
use Rattle.shader_overloads.specs.Builtins.{outer_rules, refract_rules, rules_of, transpose_rules}
use Rattle.shader_overloads.specs.Remaining.{leaf_scalar}
use Rattle.shader_overloads.specs.Rules.{regular_rules}
use Rattle.shader_overloads.proofs.AgreementLemmas.{all_at, has_all}
use Rattle.shader_overloads.proofs.BuiltinLemmas.{is_named_inner, is_named_rule, rules_named}
use Rattle.shader_overloads_laws.specs.ScalarSets.{ScalarSetsArise, arising_sets, concrete, first_scalar, has_shape, is_built_alike}
use Rattle.shader_overloads_laws.specs.ScalarSets.{is_in, is_some_built_alike, is_some_in, meet, of_shape, rules_with, targets}
use Rattle.shader_overloads_laws.proofs.Accepted.{allows, are_concrete, pass, remaining_is, some_taken, stays}
use Rattle.shader_overloads_laws.proofs.Arguments.{argument_is, inners, inners_named, is_leaf_named, leaf, leafs_named, same_built}
use Rattle.shader_overloads_laws.proofs.Filters.{and_false, filter_each, filter_preserves, filter_twice, regrouped}
use Rattle.shader_overloads_laws.proofs.Scalars.{ConvertsLike, like_itself, like_one, same_bool, same_bool_reported, sources_of}
use Rattle.shader_overloads_laws.proofs.Sets.{all_arise, among_contains, concrete_arises, empty_arises, has_all_sets, is_among}
use Rattle.shader_overloads_laws.proofs.Sets.{is_in_meet, meet_arises, some_set, targets_arise}

-- ---- the test

-- whether the leaf scalar of the first of some arguments is in a set
abbrev pub first_in : List s.Scalar → List TypeInner → Bool
first_in set [] = false
first_in set (f ∷ fs) = is_in set (leaf f)

-- a scalar converts to that of an argument exactly if the first argument's is in the set
abbrev pub picks : List s.Scalar → s.Scalar → Option TypeInner → List TypeInner → Bool
picks set source None fs = true
picks set source (Some f) fs = same_bool (scalar_converts source (leaf f)) (first_in set fs)

-- sets that may be what is left by an argument of this scalar
abbrev pub candidates : s.Scalar → List (List s.Scalar)
candidates source = targets source ∷ [] ∷ concrete named_scalars ∷ named_scalars ∷ []

-- the same of argument i of a rule, if it has one
abbrev pub picks_at : ℕ → s.Scalar → List s.Scalar → Rule → Bool
picks_at i source set rule = picks set source (slice_get (inners rule) i) (inners rule)

-- what argument i leaves of the rules is one of the candidates, whatever its scalar
abbrev pub is_split : List s.Scalar → List Rule → ℕ → Bool
is_split among rules i = list_all (λ source. list_any (λ set. list_all (picks_at i source set) rules) (candidates source)) among

-- whether there are at most four arguments
abbrev pub is_short : List TypeInner → Bool
is_short (a ∷ b ∷ c ∷ d ∷ e ∷ more) = false
is_short _ = true

-- a rule has one to four arguments, the first of a named scalar, which is concrete exactly if all are
abbrev pub is_plain : Rule → Bool
is_plain rule = is_short (inners rule) && first_in named_scalars (inners rule)
    && same_bool (are_concrete (inners rule)) (first_in (concrete named_scalars) (inners rule))

-- ---- the tables

rules_plain : (function : MathFunction) → list_all is_plain (rules_of function) ≡ true
unfolding regular_rules named_scalars ldexp_rules outer_rules refract_rules transpose_rules extract_bits_rules insert_bits_rules mix_rules
rules_plain f.Ldexp = refl
rules_plain _ = refl

rules_split : (function : MathFunction) →
    list_all (is_split (sources_of (is_listed function)) (rules_of function)) (0 ∷ 1 ∷ 2 ∷ 3 ∷ []) ≡ true
unfolding regular_rules named_scalars ldexp_rules outer_rules refract_rules transpose_rules extract_bits_rules insert_bits_rules mix_rules
rules_split f.Ldexp = refl
rules_split _ = refl

-- ---- types

pub alike_is : (a b : TypeInner) → same_built a b ≡ is_built_alike a b
alike_is (Scalar a) (Scalar b) = refl
alike_is (Vector m a) (Vector n b) = refl
alike_is (Matrix c r a) (Matrix m n b) = refl
alike_is (Scalar a) (Vector n b) = refl
alike_is (Scalar a) (Matrix m n b) = refl
alike_is (Vector n a) (Scalar b) = refl
alike_is (Vector n a) (Matrix p q b) = refl
alike_is (Matrix m n a) (Scalar b) = refl
alike_is (Matrix m n a) (Vector p b) = refl
alike_is (Scalar a) _ = refl
alike_is (Vector n a) _ = refl
alike_is (Matrix m n a) _ = refl
alike_is _ _ = refl

named_leaf : (ty : TypeInner) → is_named_or_none (leaf_scalar ty) ≡ true → is_named (leaf ty) ≡ true
unfolding named_scalars
named_leaf (Scalar a) named = named
named_leaf (Vector n a) named = named
named_leaf (Matrix m n a) named = named
named_leaf _ named = refl

like_of : (listed : Bool) (ty : TypeInner) → allows listed ty ≡ true → (like : s.Scalar) × ConvertsLike (sources_of listed) (leaf ty) like
like_of true ty allowed = like_one (leaf ty)
like_of false ty allowed = like_itself (leaf ty) (named_leaf ty allowed)

-- the scalar of a rule, as the law and as the test know it
first_is : (set : List s.Scalar) (fs : List TypeInner) → list_all is_named_inner fs ≡ true →
    is_some_in set (option_and_then leaf_scalar (slice_get fs 0)) ≡ first_in set fs
first_is set [] named = refl
first_is set (Scalar a ∷ fs) named = refl
first_is set (Vector n a ∷ fs) named = refl
first_is set (Matrix m n a ∷ fs) named = refl
first_is set (_ ∷ fs) named = cc

first_in_none : (fs : List TypeInner) → first_in [] fs ≡ false
first_in_none [] = refl
first_in_none (f ∷ fs) = refl

first_in_meet : (base set : List s.Scalar) (fs : List TypeInner) → first_in (meet base set) fs ≡ (first_in set fs && first_in base fs)
first_in_meet base set [] = refl
first_in_meet base set (f ∷ fs) = is_in_meet base set (leaf f)

no_fourth : (fs : List TypeInner) (i : ℕ) → is_short fs ≡ true → slice_get fs (suc (suc (suc (suc i)))) ≡ None
no_fourth [] i short = refl
no_fourth (a ∷ []) i short = refl
no_fourth (a ∷ b ∷ []) i short = refl
no_fourth (a ∷ b ∷ c ∷ []) i short = refl
no_fourth (a ∷ b ∷ c ∷ d ∷ []) i short = refl
no_fourth (a ∷ b ∷ c ∷ d ∷ e ∷ more) i short = cc

-- whether a rule has the argument that a call supplies
abbrev pub fits : Rule → SetCall → Bool
fits rule (Arg i ty) = is_some_built_alike ty (slice_get (inners rule) i)
fits rule ConcreteOnly = true

-- ---- one call on some rules

module _ (listed : Bool) (rules : List Rule) (named : list_all is_named_rule rules ≡ true) (plain : list_all is_plain rules ≡ true)
    (split : list_all (is_split (sources_of listed) rules) (0 ∷ 1 ∷ 2 ∷ 3 ∷ []) ≡ true) where
  -- the rules that pass are those of fitting shapes with scalars of a set that can arise
  abbrev Leaves : (Rule → Bool) → (Rule → Bool) → Type 0
  Leaves passing fitting =
      (set : List s.Scalar) × (is_among arising_sets set ≡ true)
      × ((k : ℕ) (rule : Rule) → slice_get rules k ≡ Some rule → passing rule ≡ (fitting rule && first_in set (inners rule)))

  plain_at : (k : ℕ) (rule : Rule) → slice_get rules k ≡ Some rule → is_plain rule ≡ true
  plain_at k rule at = all_at is_plain rules k rule plain at

  -- what a source leaves by argument i
  abbrev Picked : ℕ → s.Scalar → Type 0
  Picked i source =
      (set : List s.Scalar) × (is_among arising_sets set ≡ true)
      × ((k : ℕ) (rule : Rule) → slice_get rules k ≡ Some rule → picks_at i source set rule ≡ true)

  candidate_arises : (source : s.Scalar) → list_all (is_among arising_sets) (candidates source) ≡ true
  candidate_arises source =
      and_from _ _ (targets_arise source) (and_from _ _ empty_arises (and_from _ _ concrete_arises (and_from _ _ all_arise
      refl)))

  picked : (i : ℕ) (source : s.Scalar) → list_any (λ set. list_all (picks_at i source set) rules) (candidates source) ≡ true →
      Picked i source
  picked i source some =
      let found = some_set (λ set. list_all (picks_at i source set) rules) (candidates source) some in (
        found.0,
        has_all_sets (is_among arising_sets) (candidates source) found.0 (candidate_arises source) found.2,
        λ k rule at. all_at (picks_at i source found.0) rules k rule found.1 at,
      )

  picked_at : (i : ℕ) (source : s.Scalar) → list_any (same_scalar source) (sources_of listed) ≡ true →
      is_split (sources_of listed) rules i ≡ true → Picked i source
  picked_at i source some each = picked i source
      (has_all (λ t. list_any (λ set. list_all (picks_at i t set) rules) (candidates t)) source (sources_of listed) some each)

  picks_by : (i : ℕ) (source : s.Scalar) → list_any (same_scalar source) (sources_of listed) ≡ true → Picked i source
  picks_by zero source some = picked_at 0 source some (all_at (is_split (sources_of listed) rules) (0 ∷ 1 ∷ 2 ∷ 3 ∷ []) 0 0 split refl)
  picks_by (suc zero) source some = picked_at 1 source some
      (all_at (is_split (sources_of listed) rules) (0 ∷ 1 ∷ 2 ∷ 3 ∷ []) 1 1 split refl)
  picks_by (suc (suc zero)) source some = picked_at 2 source some
      (all_at (is_split (sources_of listed) rules) (0 ∷ 1 ∷ 2 ∷ 3 ∷ []) 2 2 split refl)
  picks_by (suc (suc (suc zero))) source some = picked_at 3 source some
      (all_at (is_split (sources_of listed) rules) (0 ∷ 1 ∷ 2 ∷ 3 ∷ []) 3 3 split refl)
  picks_by (suc (suc (suc (suc i)))) source some = (
    [],
    empty_arises,
    λ k rule at. ap (λ found. picks [] source found (inners rule)) (no_fourth (inners rule) i
        (and_parts (is_short (inners rule)) _ (and_parts (is_short (inners rule) && first_in named_scalars (inners rule)) _
        (plain_at k rule at)).0).0),
  )

  taken_is : (ty : TypeInner) (like : s.Scalar) (set : List s.Scalar) (fs : List TypeInner) (i : ℕ) (found : Option TypeInner) →
      ConvertsLike (sources_of listed) (leaf ty) like → list_all is_leaf_named fs ≡ true → slice_get fs i ≡ found →
      picks set like found fs ≡ true → some_taken ty found ≡ (is_some_built_alike ty found && first_in set fs)
  taken_is ty like set fs i None likes all at same = refl
  taken_is ty like set fs i (Some f) likes all at same =
      ap (λ b. b && scalar_converts (leaf ty) (leaf f)) (alike_is ty f)
      ∙ ap (λ b. is_built_alike ty f && b) (likes.converts (leaf f) (all_at is_leaf_named fs i f all at)
      ∙ same_bool_reported (scalar_converts like (leaf f)) (first_in set fs) same)

  leafs : (k : ℕ) (rule : Rule) → slice_get rules k ≡ Some rule → list_all is_leaf_named (inners rule) ≡ true
  leafs k rule at = leafs_named (inners rule) (inners_named rule.arguments (all_at is_named_rule rules k rule named at))

  call_leaves : (call : SetCall) → Leaves (λ rule. pass listed rule call) (λ rule. fits rule call)
  call_leaves (Arg i ty) = elim (cases_Bool (allows listed ty)) [
    | inl allowed ↦
        let like = like_of listed ty allowed in
        let found = picks_by i like.0 like.1.listed in (
          found.0,
          found.1,
          λ k rule at. ap (λ b. b && some_taken ty (slice_get (inners rule) i)) allowed
              ∙ taken_is ty like.0 found.0 (inners rule) i (slice_get (inners rule) i) like.1 (leafs k rule at) refl (found.2 k rule at),
        )
    | inr refused ↦ (
      [],
      empty_arises,
      λ k rule at. ap (λ b. b && some_taken ty (slice_get (inners rule) i)) refused
          ∙ sym (ap (λ b. fits rule (Arg i ty) && b) (first_in_none (inners rule)) ∙ and_false (fits rule (Arg i ty))),
    )
  ]
  call_leaves ConcreteOnly = (
    concrete named_scalars,
    concrete_arises,
    λ k rule at. same_bool_reported (are_concrete (inners rule)) (first_in (concrete named_scalars) (inners rule))
        (and_parts (is_short (inners rule) && first_in named_scalars (inners rule)) _ (plain_at k rule at)).1,
  )

  -- ---- all calls

  calls_leave : (calls : List SetCall) → Leaves (stays listed calls) (λ rule. list_all (fits rule) calls)
  calls_leave [] = (
    named_scalars,
    all_arise,
    λ k rule at. sym (and_parts (is_short (inners rule)) _ (and_parts (is_short (inners rule) && first_in named_scalars (inners rule)) _
        (plain_at k rule at)).0).1,
  )
  calls_leave (call ∷ calls) =
      let here = call_leaves call in
      let later = calls_leave calls in (
        meet later.0 here.0,
        meet_arises later.0 here.0 later.1 here.1,
        λ k rule at. ap (λ b. b && stays listed calls rule) (here.2 k rule at)
            ∙ ap (λ b. (fits rule call && first_in here.0 (inners rule)) && b) (later.2 k rule at)
            ∙ regrouped (fits rule call) (first_in here.0 (inners rule)) (list_all (fits rule) calls) (first_in later.0 (inners rule))
            ∙ ap (λ b. (fits rule call && list_all (fits rule) calls) && b) (sym (first_in_meet later.0 here.0 (inners rule))),
      )

-- ---- the remaining rules

shape_is : (types : List «Type») (rule : Rule) (call : SetCall) → is_named_rule rule ≡ true → has_shape types rule call ≡ fits rule call
shape_is types rule (Arg i ty) named = ap (is_some_built_alike ty) (argument_is types rule i named)
shape_is types rule ConcreteOnly named = refl

pub shapes_are : (types : List «Type») (rule : Rule) (calls : List SetCall) → is_named_rule rule ≡ true →
    list_all (has_shape types rule) calls ≡ list_all (fits rule) calls
shapes_are types rule [] named = refl
shapes_are types rule (call ∷ calls) named =
    ap (λ b. b && list_all (has_shape types rule) calls) (shape_is types rule call named)
    ∙ ap (λ b. fits rule call && b) (shapes_are types rule calls named)

scalar_is : (types : List «Type») (set : List s.Scalar) (rule : Rule) → is_named_rule rule ≡ true →
    is_some_in set (first_scalar types rule) ≡ first_in set (inners rule)
scalar_is types set rule named =
    ap (λ found. is_some_in set (option_and_then leaf_scalar found)) (argument_is types rule 0 named)
    ∙ first_is set (inners rule) (inners_named rule.arguments named)

rules_with_is : (function : MathFunction) (types : List «Type») (set : List s.Scalar) →
    rules_with function types set ≡ filter (λ rule. first_in set (inners rule)) (rules_of function)
rules_with_is function types set =
    filter_each (λ rule. is_some_in set (first_scalar types rule)) (λ rule. first_in set (inners rule)) (rules_of function)
    (λ k rule at. scalar_is types set rule (all_at is_named_rule (rules_of function) k rule (rules_named function) at))

-- the rules of some shapes with the scalars of a set
pub of_shape_is : (function : MathFunction) (types : List «Type») (calls : List SetCall) (set : List s.Scalar) →
    of_shape types calls (rules_with function types set)
    ≡ filter (λ rule. list_all (fits rule) calls) (filter (λ rule. first_in set (inners rule)) (rules_of function))
of_shape_is function types calls set =
    let with_scalars : List Rule = filter (λ rule. first_in set (inners rule)) (rules_of function) in
    let named = filter_preserves (λ rule. first_in set (inners rule)) is_named_rule (rules_of function) (rules_named function) in
    ap (of_shape types calls) (rules_with_is function types set)
    ∙ filter_each (λ rule. list_all (has_shape types rule) calls) (λ rule. list_all (fits rule) calls) with_scalars
    (λ k rule at. shapes_are types rule calls (all_at is_named_rule with_scalars k rule named at))

pub scalar_sets_arise : ScalarSetsArise
scalar_sets_arise function types calls =
    let listed = is_listed function in
    let rules = rules_of function in
    let left = calls_leave listed rules (rules_named function) (rules_plain function) (rules_split function) calls in
    let set : List s.Scalar = left.0 in (
      set,
      among_contains arising_sets set left.1,
      remaining_is function types calls
          ∙ filter_each (stays listed calls) (λ rule. list_all (fits rule) calls && first_in set (inners rule)) rules left.2
          ∙ sym (filter_twice (λ rule. list_all (fits rule) calls) (λ rule. first_in set (inners rule)) rules)
          ∙ sym (of_shape_is function types calls set),
    )
