-- The sets of scalars that can arise: membership as a test, and meets of them.
use Rattle.std.proofs.Common.{◌≡◌, ◌∙◌, ap, sym, refl, inl, inr, ℕ, zero, suc, ◌<◌, Bool, true, false, not, ◌&&◌, ◌||◌}
use Rattle.std.proofs.Common.{List, [], ◌∷◌, length, get_or, arith}
use Rattle.std.specs.List.{Contains, filter, list_all, list_any}
use Rattle.std.proofs.lemmas.Bool.{and_from, and_parts, both_ways, cases_Bool, or_cases, or_left, or_right}
use Rattle.std.proofs.lemmas.Map.Views.{any-filter_same}
use Rattle.shader_ir.specs.declared.scalar.Scalar.{Scalar}
use Rattle.shader_ir.specs.Scalars.{abstract_float, abstract_int, integers, is_convertible, named_scalars, same_scalar}
use Rattle.shader_overloads.specs.AcceptanceLaws.{is_named}
use Rattle.shader_overloads.proofs.AgreementLemmas.{has_all, same_scalar_reported}
use Rattle.shader_overloads.proofs.SetLemmas.{same_scalar_self}
use Rattle.shader_overloads_laws.specs.ScalarSets.{MixedSetsHaveAbstractInts, TargetsNest, arising_sets, concrete, is_in, meet, targets}
use Rattle.shader_overloads_laws.proofs.Filters.{and_true, filter_none}
use Rattle.shader_overloads_laws.proofs.Scalars.{convertible_named}

-- ---- equal sets

abbrev pub same_scalars : List Scalar → List Scalar → Bool
same_scalars [] [] = true
same_scalars (a ∷ more) (b ∷ others) = same_scalar a b && same_scalars more others
same_scalars _ _ = false

same_scalars_reported : (set other : List Scalar) → same_scalars set other ≡ true → set ≡ other
same_scalars_reported [] [] e = refl
same_scalars_reported (a ∷ more) (b ∷ others) e =
    let parts = and_parts (same_scalar a b) (same_scalars more others) e in
    ap (λ v. v ∷ more) (same_scalar_reported a b parts.0) ∙ ap (λ vs. b ∷ vs) (same_scalars_reported more others parts.1)
same_scalars_reported [] (b ∷ others) e = cc
same_scalars_reported (a ∷ more) [] e = cc

same_scalars_self : (set : List Scalar) → same_scalars set set ≡ true
same_scalars_self [] = refl
same_scalars_self (a ∷ more) = and_from _ _ (same_scalar_self a) (same_scalars_self more)

-- whether a set is one of several
abbrev pub is_among : List (List Scalar) → List Scalar → Bool
is_among sets set = list_any (same_scalars set) sets

pub among_contains : (sets : List (List Scalar)) (set : List Scalar) → is_among sets set ≡ true → Contains sets set
among_contains [] set e = cc
among_contains (first ∷ sets) set e = elim (or_cases (same_scalars set first) (is_among sets set) e) [
  | inl here ↦ (0, omega arith, sym (same_scalars_reported set first here))
  | inr later ↦ let found = among_contains sets set later in (suc found.0, omega (arith, found.1), found.2)
]

contains_at : (sets : List (List Scalar)) (set : List Scalar) (k : ℕ) → k < length sets → get_or sets k set ≡ set → is_among sets set ≡ true
contains_at [] set k h e = absurd (omega arith)
contains_at (first ∷ sets) set zero h e =
    or_left _ _ (ap (same_scalars set) e ∙ same_scalars_self set)
contains_at (first ∷ sets) set (suc k) h e = or_right _ _ (contains_at sets set k (omega arith) e)

pub contains_among : (sets : List (List Scalar)) (set : List Scalar) → Contains sets set → is_among sets set ≡ true
contains_among sets set c = contains_at sets set c.0 c.1 c.2

-- a property of several sets holds of each of them
pub has_all_sets : (p : List Scalar → Bool) (sets : List (List Scalar)) (set : List Scalar) → list_all p sets ≡ true →
    is_among sets set ≡ true → p set ≡ true
has_all_sets p [] set each among = cc
has_all_sets p (first ∷ sets) set each among =
    let parts = and_parts (p first) (list_all p sets) each in
    elim (or_cases (same_scalars set first) (is_among sets set) among) [
      | inl here ↦ ap p (same_scalars_reported set first here) ∙ parts.0
      | inr later ↦ has_all_sets p sets set parts.1 later
    ]

-- a set that passes a test
pub some_set : (p : List Scalar → Bool) (sets : List (List Scalar)) → list_any p sets ≡ true →
    (set : List Scalar) × (p set ≡ true) × (is_among sets set ≡ true)
some_set p [] e = cc
some_set p (first ∷ sets) e = elim (or_cases (p first) (list_any p sets) e) [
  | inl here ↦ (first, here, or_left _ _ (same_scalars_self first))
  | inr later ↦ let found = some_set p sets later in (found.0, found.1, or_right _ _ found.2)
]

-- ---- members

-- the scalars of a set that pass a test
pub is_in_filter : (p : Scalar → Bool) (set : List Scalar) (s : Scalar) → is_in (filter p set) s ≡ (p s && is_in set s)
is_in_filter p set s = any-filter_same (same_scalar s) p (p s) (λ t e. ap p (sym (same_scalar_reported s t e))) set

pub is_in_meet : (base set : List Scalar) (s : Scalar) → is_in (meet base set) s ≡ (is_in set s && is_in base s)
is_in_meet base set s = is_in_filter (is_in set) base s

pub is_in_passing : (p : Scalar → Bool) (s : Scalar) → is_named s ≡ true → is_in (filter p named_scalars) s ≡ p s
is_in_passing p s named = is_in_filter p named_scalars s ∙ ap (λ b. p s && b) named ∙ and_true (p s)

-- a scalar without a name converts to nothing
pub no_targets : (source : Scalar) → is_named source ≡ false → targets source ≡ []
no_targets source odd = filter_none (is_convertible source) named_scalars (λ s. elim (cases_Bool (is_convertible source s)) [
  | inl converts ↦ absurd (both_ways (is_named source) odd (convertible_named source s converts))
  | inr other ↦ other
])

-- ---- the sets that can arise

named_targets_arise : list_all (λ source. is_among arising_sets (targets source)) named_scalars ≡ true
unfolding named_scalars
named_targets_arise = refl

pub empty_arises : is_among arising_sets [] ≡ true
unfolding named_scalars
empty_arises = refl

pub all_arise : is_among arising_sets named_scalars ≡ true
unfolding named_scalars
all_arise = refl

pub concrete_arises : is_among arising_sets (concrete named_scalars) ≡ true
unfolding named_scalars
concrete_arises = refl

pub targets_arise : (source : Scalar) → is_among arising_sets (targets source) ≡ true
targets_arise source = elim (cases_Bool (is_named source)) [
  | inl named ↦ has_all (λ s. is_among arising_sets (targets s)) source named_scalars named named_targets_arise
  | inr odd ↦ ap (is_among arising_sets) (no_targets source odd) ∙ empty_arises
]

meets : list_all (λ set. list_all (λ base. is_among arising_sets (meet base set)) arising_sets) arising_sets ≡ true
unfolding named_scalars
meets = refl

-- so several calls leave no other sets than one
pub meet_arises : (base set : List Scalar) → is_among arising_sets base ≡ true → is_among arising_sets set ≡ true →
    is_among arising_sets (meet base set) ≡ true
meet_arises base set some_base some =
    has_all_sets (λ b. is_among arising_sets (meet b set)) arising_sets base
    (has_all_sets (λ v. list_all (λ b. is_among arising_sets (meet b v)) arising_sets) arising_sets set meets some) some_base

abbrev pub is_led : List Scalar → Scalar → Bool
is_led set integer = not (is_in set abstract_float && is_in set integer) || is_in set abstract_int

sets_led : list_all (λ set. list_all (is_led set) integers) arising_sets ≡ true
unfolding named_scalars
sets_led = refl

unless : (a b c : Bool) → (not (a && b) || c) ≡ true → a ≡ true → b ≡ true → c ≡ true
unless true true c e p q = e
unless true false c e p q = cc
unless false b c e p q = cc

pub mixed_sets_have_abstract_ints : MixedSetsHaveAbstractInts
mixed_sets_have_abstract_ints set integer arises listed =
    unless (is_in set abstract_float) (is_in set integer) (is_in set abstract_int) (has_all (is_led set) integer integers listed
    (has_all_sets (λ v. list_all (is_led v) integers) arising_sets set sets_led (contains_among arising_sets set arises)))

-- ---- the targets of two scalars

abbrev pub nests : Scalar → Scalar → Bool
nests a b = is_among ([] ∷ targets a ∷ targets b ∷ []) (meet (targets a) (targets b))

named_nest : list_all (λ a. list_all (nests a) named_scalars) named_scalars ≡ true
unfolding named_scalars
named_nest = refl

nest : (a b : Scalar) → nests a b ≡ true
nest a b = elim (cases_Bool (is_named a)) [
  | inl named ↦ elim (cases_Bool (is_named b)) [
    | inl other ↦ has_all (nests a) b named_scalars other (has_all (λ s. list_all (nests s) named_scalars) a named_scalars named named_nest)
    | inr odd ↦ or_left _ _ (ap (λ set. same_scalars (meet (targets a) set) []) (no_targets b odd)
        ∙ ap (λ set. same_scalars set []) (filter_none (is_in []) (targets a) (λ s. refl)))
  ]
  | inr odd ↦ or_left _ _ (ap (λ set. same_scalars (meet set (targets b)) []) (no_targets a odd))
]

pub targets_nest : TargetsNest
targets_nest a b = among_contains ([] ∷ targets a ∷ targets b ∷ []) (meet (targets a) (targets b)) (nest a b)
