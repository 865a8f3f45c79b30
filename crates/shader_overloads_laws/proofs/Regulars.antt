-- What calls leave of a regular set: it is regular, and its scalars are a set that can arise.
use Rattle.std.proofs.Common.{◌≡◌, ◌∙◌, ap, sym, refl, inl, inr, ℕ, zero, suc, ◌<◌, ◌≤◌, Bool, true, false, cond, ◌&&◌}
use Rattle.std.proofs.Common.{List, [], ◌∷◌, ◌++◌, map, nat_lt, Option, Some, None, replicate, slice_get, arith}
use Rattle.std.specs.List.{filter, flat_map, list_all}
use Rattle.std.specs.Option.{option_and_then}
use Rattle.std.proofs.lemmas.Bool.{cases_Bool, cases_lt, le-ltb, lt-ltb}
use Rattle.std.proofs.lemmas.List.Elements.{filter-append}
use Rattle.shader_ir.specs.declared.scalar.Scalar as s
use Rattle.shader_ir.specs.declared.types.«Type».{«Type»}
use Rattle.shader_ir.specs.declared.types.TypeInner.{TypeInner}
use Rattle.shader_ir.specs.declared.types.TypeInner.TheVariants as types
use Rattle.shader_ir.specs.declared.proc.type_resolution.TypeResolution.TheVariants.{Value}
use Rattle.shader_ir.specs.Key.{inner_of}
use Rattle.shader_ir.specs.Scalars.{is_convertible, named_scalars}
use Rattle.shader_overloads.specs.declared.constructor_set.ConstructorSize.{ConstructorSize}
use Rattle.shader_overloads.specs.declared.constructor_set.ConstructorSize.TheVariants as sizes
use Rattle.shader_overloads.specs.declared.overload_set.SetCall.{SetCall}
use Rattle.shader_overloads.specs.declared.overload_set.SetCall.TheVariants.{Arg, ConcreteOnly}
use Rattle.shader_overloads.specs.declared.regular.ConclusionRule.{ConclusionRule}
use Rattle.shader_overloads.specs.declared.rule.Rule.{Rule}
use Rattle.shader_overloads.specs.AcceptanceLaws.{is_named}
use Rattle.shader_overloads.specs.Constructors.{is_built_by, to_inner}
use Rattle.shader_overloads.specs.Remaining.{accepts, is_concrete, leaf_scalar, passes, some_takes, takes}
use Rattle.shader_overloads.specs.Rules.{regular_rules, rule_for}
use Rattle.shader_overloads.specs.ScalarSets.{is_concrete_scalar}
use Rattle.shader_overloads.proofs.AgreementLemmas.{all_at}
use Rattle.shader_overloads_laws.specs.ScalarSets.{RegularScalarsArise, RegularSetsStayRegular, arising_sets, concrete, constructors_left}
use Rattle.shader_overloads_laws.specs.ScalarSets.{is_in, leaf_converts, leaves_constructor, leaves_scalar, meet, scalars_left, targets}
use Rattle.shader_overloads_laws.proofs.Filters.{filter_each, regrouped}
use Rattle.shader_overloads_laws.proofs.Sets.{all_arise, among_contains, concrete_arises, empty_arises, is_among, is_in_meet}
use Rattle.shader_overloads_laws.proofs.Sets.{is_in_passing, meet_arises, targets_arise}

-- ---- the scalars

-- the set of scalars that a call leaves of all
abbrev set_by_leaf : Option s.Scalar → List s.Scalar
set_by_leaf (Some source) = targets source
set_by_leaf None = []

abbrev set_by : SetCall → List s.Scalar
set_by (Arg i ty) = set_by_leaf (leaf_scalar ty)
set_by ConcreteOnly = concrete named_scalars

abbrev set_by_all : List SetCall → List s.Scalar
set_by_all [] = named_scalars
set_by_all (call ∷ calls) = meet (set_by_all calls) (set_by call)

leaf_arises : (found : Option s.Scalar) → is_among arising_sets (set_by_leaf found) ≡ true
leaf_arises (Some source) = targets_arise source
leaf_arises None = empty_arises

call_arises : (call : SetCall) → is_among arising_sets (set_by call) ≡ true
call_arises (Arg i ty) = leaf_arises (leaf_scalar ty)
call_arises ConcreteOnly = concrete_arises

all_calls_arise : (calls : List SetCall) → is_among arising_sets (set_by_all calls) ≡ true
all_calls_arise [] = all_arise
all_calls_arise (call ∷ calls) = meet_arises (set_by_all calls) (set_by call) (all_calls_arise calls) (call_arises call)

leaf_leaves : (found : Option s.Scalar) (scalar : s.Scalar) → is_named scalar ≡ true →
    leaf_converts found scalar ≡ is_in (set_by_leaf found) scalar
leaf_leaves (Some source) scalar named = sym (is_in_passing (is_convertible source) scalar named)
leaf_leaves None scalar named = refl

call_leaves : (call : SetCall) (scalar : s.Scalar) → is_named scalar ≡ true → leaves_scalar scalar call ≡ is_in (set_by call) scalar
call_leaves (Arg i ty) scalar named = leaf_leaves (leaf_scalar ty) scalar named
call_leaves ConcreteOnly scalar named = sym (is_in_passing is_concrete_scalar scalar named)

calls_leave : (calls : List SetCall) (scalar : s.Scalar) → is_named scalar ≡ true →
    list_all (leaves_scalar scalar) calls ≡ is_in (set_by_all calls) scalar
calls_leave [] scalar named = sym named
calls_leave (call ∷ calls) scalar named =
    ap (λ b. b && list_all (leaves_scalar scalar) calls) (call_leaves call scalar named)
    ∙ ap (λ b. is_in (set_by call) scalar && b) (calls_leave calls scalar named)
    ∙ sym (is_in_meet (set_by_all calls) (set_by call) scalar)

pub regular_scalars_arise : RegularScalarsArise
regular_scalars_arise calls base named = (
  set_by_all calls,
  among_contains arising_sets (set_by_all calls) (all_calls_arise calls),
  filter_each (λ scalar. list_all (leaves_scalar scalar) calls) (is_in (set_by_all calls)) base
      (λ k scalar at. calls_leave calls scalar (all_at is_named base k scalar named at)),
)

-- ---- one rule

takes_parts : (ty : TypeInner) (size : ConstructorSize) (scalar : s.Scalar) →
    takes ty (to_inner size scalar) ≡ (is_built_by ty size && leaf_converts (leaf_scalar ty) scalar)
takes_parts (types.Scalar t) sizes.Scalar scalar = refl
takes_parts (types.Scalar t) (sizes.Vector n) scalar = refl
takes_parts (types.Scalar t) (sizes.Matrix m n) scalar = refl
takes_parts (types.Vector k t) sizes.Scalar scalar = refl
takes_parts (types.Vector k t) (sizes.Vector n) scalar = refl
takes_parts (types.Vector k t) (sizes.Matrix m n) scalar = refl
takes_parts (types.Matrix c r t) sizes.Scalar scalar = refl
takes_parts (types.Matrix c r t) (sizes.Vector n) scalar = refl
takes_parts (types.Matrix c r t) (sizes.Matrix m n) scalar = refl
takes_parts _ size scalar = refl

copy_at : {X : Type 0} (n i : ℕ) (x : X) → slice_get (replicate n x) i ≡ cond (nat_lt i n) (Some x) None
copy_at n i x = elim (cases_lt i n) [
  | inl h ↦ within n i h ∙ sym (ap (λ b. cond b (Some x) None) (lt-ltb i n h))
  | inr h ↦ past n i h ∙ sym (ap (λ b. cond b (Some x) None) (le-ltb i n h))
]
  where
    within : (n i : ℕ) → i < n → slice_get (replicate n x) i ≡ Some x
    within zero i h = absurd (omega arith)
    within (suc n) zero h = refl
    within (suc n) (suc i) h = within n i (omega arith)

    past : (n i : ℕ) → n ≤ i → slice_get (replicate n x) i ≡ None
    past zero i h = refl
    past (suc n) zero h = absurd (omega arith)
    past (suc n) (suc i) h = past n i (omega arith)

copy_passes : {X : Type 0} (p : X → Bool) (n : ℕ) (x : X) → 0 < n → list_all p (replicate n x) ≡ p x
copy_passes p zero x h = absurd (omega arith)
copy_passes p (suc zero) x h = elim (p x) as (λ b. (b && true) ≡ b) [ true ↦ refl | false ↦ refl ]
copy_passes p (suc (suc n)) x h =
    ap (λ b. p x && b) (copy_passes p (suc n) x (omega arith)) ∙ elim (p x) as (λ b. (b && b) ≡ b) [ true ↦ refl | false ↦ refl ]

found_takes : (all : List «Type») (ty inner : TypeInner) (found : Bool) →
    some_takes ty (option_and_then (inner_of all) (cond found (Some (Value inner)) None)) ≡ (found && takes ty inner)
found_takes all ty inner true = refl
found_takes all ty inner false = refl

concrete_built : (all : List «Type») (size : ConstructorSize) (scalar : s.Scalar) →
    is_concrete all (Some (to_inner size scalar)) ≡ is_concrete_scalar scalar
concrete_built all sizes.Scalar scalar = refl
concrete_built all (sizes.Vector n) scalar = refl
concrete_built all (sizes.Matrix m n) scalar = refl

and_assoc : (a b c : Bool) → (a && (b && c)) ≡ ((a && b) && c)
and_assoc true b c = refl
and_assoc false b c = refl

module _ (all : List «Type») (arity : ℕ) (conclude : ConclusionRule) (some : 0 < arity) where
  abbrev one : ConstructorSize → s.Scalar → Rule
  one size scalar = rule_for arity conclude size scalar

  -- a rule passes a call where its constructor and its scalar do
  call_passes : (call : SetCall) (size : ConstructorSize) (scalar : s.Scalar) →
      passes accepts all (one size scalar) call ≡ (leaves_constructor arity size call && leaves_scalar scalar call)
  call_passes (Arg i ty) size scalar =
      ap (λ found. some_takes ty (option_and_then (inner_of all) found)) (copy_at arity i (Value (to_inner size scalar)))
      ∙ found_takes all ty (to_inner size scalar) (nat_lt i arity)
      ∙ ap (λ b. nat_lt i arity && b) (takes_parts ty size scalar)
      ∙ and_assoc (nat_lt i arity) (is_built_by ty size) (leaf_converts (leaf_scalar ty) scalar)
  call_passes ConcreteOnly size scalar =
      copy_passes (λ argument. is_concrete all (inner_of all argument)) arity (Value (to_inner size scalar)) some
      ∙ concrete_built all size scalar

  abbrev stays : List SetCall → Rule → Bool
  stays calls rule = list_all (passes accepts all rule) calls

  calls_pass : (calls : List SetCall) (size : ConstructorSize) (scalar : s.Scalar) →
      stays calls (one size scalar) ≡ (list_all (leaves_constructor arity size) calls && list_all (leaves_scalar scalar) calls)
  calls_pass [] size scalar = refl
  calls_pass (call ∷ calls) size scalar =
      ap (λ b. b && stays calls (one size scalar)) (call_passes call size scalar)
      ∙ ap (λ b. (leaves_constructor arity size call && leaves_scalar scalar call) && b) (calls_pass calls size scalar)
      ∙ regrouped (leaves_constructor arity size call) (leaves_scalar scalar call) (list_all (leaves_constructor arity size) calls)
      (list_all (leaves_scalar scalar) calls)

  -- ---- all rules

  row_left : (calls : List SetCall) (size : ConstructorSize) (base : List s.Scalar) (fits : Bool) →
      list_all (leaves_constructor arity size) calls ≡ fits →
      filter (stays calls) (map (one size) base) ≡ cond fits (map (one size) (scalars_left calls base)) []
  row_left calls size [] true e = refl
  row_left calls size [] false e = refl
  row_left calls size (scalar ∷ base) true e =
      let here : stays calls (one size scalar) ≡ list_all (leaves_scalar scalar) calls =
      calls_pass calls size scalar ∙ ap (λ b. b && list_all (leaves_scalar scalar) calls) e in
      elim (cases_Bool (list_all (leaves_scalar scalar) calls)) [
        | inl left ↦ rw (here, left) (ap (λ rules. one size scalar ∷ rules) (row_left calls size base true e))
        | inr gone ↦ rw (here, gone) (row_left calls size base true e)
      ]
  row_left calls size (scalar ∷ base) false e =
      let here : stays calls (one size scalar) ≡ false =
      calls_pass calls size scalar ∙ ap (λ b. b && list_all (leaves_scalar scalar) calls) e in
      rw here (row_left calls size base false e)

  rows_left : (calls : List SetCall) (sizes : List ConstructorSize) (base : List s.Scalar) →
      filter (stays calls) (flat_map (λ size. map (one size) base) sizes)
      ≡ flat_map (λ size. map (one size) (scalars_left calls base)) (constructors_left arity calls sizes)
  rows_left calls [] base = refl
  rows_left calls (size ∷ sizes) base =
      let split = filter-append (stays calls) (map (one size) base) (flat_map (λ other. map (one other) base) sizes) in
      let later = rows_left calls sizes base in
      elim (cases_Bool (list_all (leaves_constructor arity size) calls)) [
        | inl fits ↦ rw fits (split ∙ ap (λ rules. rules ++ filter (stays calls) (flat_map (λ other. map (one other) base) sizes))
            (row_left calls size base true fits) ∙ ap (λ rules. map (one size) (scalars_left calls base) ++ rules) later)
        | inr other ↦ rw other (split ∙ ap (λ rules. rules ++ filter (stays calls) (flat_map (λ other. map (one other) base) sizes))
            (row_left calls size base false other) ∙ later)
      ]

pub regular_sets_stay_regular : RegularSetsStayRegular
unfolding regular_rules
regular_sets_stay_regular all calls arity conclude sizes base some = rows_left all arity conclude some calls sizes base
