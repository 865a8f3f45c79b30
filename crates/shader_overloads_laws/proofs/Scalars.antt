-- Scalars, and the representatives that stand for all of them in tests.
use Rattle.std.proofs.Common.{◌≡◌, ◌==◌, ◌∙◌, ap, sym, refl, inl, inr, ℕ, Bool, true, false}
use Rattle.std.proofs.Common.{not, ◌&&◌, ◌||◌, List, [], ◌∷◌, map, Option, Some, None}
use Rattle.std.specs.Prelude.{IsSome}
use Rattle.std.specs.List.{list_all, list_any}
use Rattle.std.specs.Option.{is_some}
use Rattle.std.proofs.lemmas.Bool.{and_parts, both_ways, cases_Bool, eq-eqb, or_cases, or_left, or_right}
use Rattle.shader_ir.specs.declared.scalar.Scalar.{Scalar}
use Rattle.shader_ir.specs.declared.scalar.ScalarKind.{ScalarKind}
use Rattle.shader_ir.specs.declared.scalar.ScalarKind.TheVariants as kinds
use Rattle.shader_ir.specs.Conversion.{kind_converts, scalar_converts}
use Rattle.shader_ir.specs.Scalars.{conversions, is_convertible, named_scalars, same_scalar, scalar}
use Rattle.shader_overloads.specs.AcceptanceLaws.{is_named}
use Rattle.shader_overloads.specs.Rank.{RankEntry, conversion_rank, conversion_ranks, rank_among}
use Rattle.shader_overloads_laws.specs.Optimality.{ConversionsHaveRanks}
use Rattle.shader_overloads.proofs.AgreementLemmas.{has_all, same_scalar_reported}

-- ---- named scalars, and three without names

abbrev pub odd_int : Scalar
odd_int = scalar kinds.AbstractInt 4

abbrev pub odd_float : Scalar
odd_float = scalar kinds.AbstractFloat 4

abbrev pub odd_bool : Scalar
odd_bool = scalar kinds.Bool 4

-- each scalar converts to named scalars as one of these does
abbrev pub sources : List Scalar
sources = odd_int ∷ odd_float ∷ odd_bool ∷ named_scalars

-- the representatives of the scalars that a set of the kind knows: a regular set knows only named scalars
abbrev pub sources_of : Bool → List Scalar
sources_of true = sources
sources_of false = named_scalars

-- the second scalar is one of these, and converts as the first does to all named scalars
pub record ConvertsLike (among : List Scalar) (s like : Scalar) : Type 0 where
  pub converts : (t : Scalar) → is_named t ≡ true → scalar_converts s t ≡ scalar_converts like t
  pub listed : list_any (same_scalar like) among ≡ true

unnamed_apart : (s t : Scalar) → is_named s ≡ false → is_named t ≡ true → same_scalar s t ≡ false
unnamed_apart s t odd named = elim (cases_Bool (same_scalar s t)) [
  | inl same ↦ absurd (both_ways (is_named t) (sym (ap is_named (same_scalar_reported s t same)) ∙ odd) named)
  | inr other ↦ other
]

-- the conversions of a scalar without a name depend only on its kind
by_kind : (s t : Scalar) → is_named s ≡ false → is_named t ≡ true → scalar_converts s t ≡ kind_converts s.kind t.kind
by_kind s t odd named = ap (λ v. v || kind_converts s.kind t.kind) (unnamed_apart s t odd named)

like_odd : (s like : Scalar) → is_named s ≡ false → is_named like ≡ false →
    ((k : ScalarKind) → kind_converts s.kind k ≡ kind_converts like.kind k) → list_any (same_scalar like) sources ≡ true →
    ConvertsLike sources s like
like_odd s like odd other same listed = record {
  converts = λ t named. by_kind s t odd named ∙ same t.kind ∙ sym (by_kind like t other named);
  listed = listed;
}

like_one_of_kind : (width : ℕ) (kind : ScalarKind) → is_named (scalar kind width) ≡ false →
    (like : Scalar) × ConvertsLike sources (scalar kind width) like
unfolding named_scalars
like_one_of_kind width kinds.AbstractInt odd = (odd_int, like_odd (scalar kinds.AbstractInt width) odd_int odd refl (λ k. refl) refl)
like_one_of_kind width kinds.AbstractFloat odd = (
  odd_float,
  like_odd (scalar kinds.AbstractFloat width) odd_float odd refl (λ k. refl) refl,
)
like_one_of_kind width kinds.Sint odd = (odd_bool, like_odd (scalar kinds.Sint width) odd_bool odd refl (λ k. refl) refl)
like_one_of_kind width kinds.Uint odd = (odd_bool, like_odd (scalar kinds.Uint width) odd_bool odd refl (λ k. refl) refl)
like_one_of_kind width kinds.Float odd = (odd_bool, like_odd (scalar kinds.Float width) odd_bool odd refl (λ k. refl) refl)
like_one_of_kind width kinds.Bool odd = (odd_bool, like_odd (scalar kinds.Bool width) odd_bool odd refl (λ k. refl) refl)

pub like_one : (s : Scalar) → (like : Scalar) × ConvertsLike sources s like
like_one s = elim (cases_Bool (is_named s)) [
  | inl named ↦ (
    s,
    record {
      converts = λ t n. refl;
      listed =
          or_right (same_scalar s odd_int) _ (or_right (same_scalar s odd_float) _ (or_right (same_scalar s odd_bool) (is_named s) named));
    },
  )
  | inr odd ↦ like_one_of_kind s.width s.kind odd
]

pub like_itself : (s : Scalar) → is_named s ≡ true → (like : Scalar) × ConvertsLike named_scalars s like
like_itself s named = (s, record { converts = λ t n. refl; listed = named })

-- ---- ranks

abbrev pub is_source : Scalar → List RankEntry → Bool
is_source s rows = list_any (same_scalar s) (map (λ row. row.0) rows)

-- a scalar that a table of ranks converts is the source of an entry
ranked_source : (rows : List RankEntry) (from to : Scalar) (rank : ℕ) → rank_among rows from to ≡ Some rank → is_source from rows ≡ true
ranked_source [] from to rank e = cc
ranked_source (row ∷ rows) from to rank e = elim (cases_Bool (same_scalar from row.0 && same_scalar to row.1)) [
  | inl here ↦ or_left (same_scalar from row.0) (is_source from rows) (and_parts (same_scalar from row.0) (same_scalar to row.1) here).0
  | inr later ↦ or_right (same_scalar from row.0) (is_source from rows) (ranked_source rows from to rank (rw later at e))
]

abbrev pub is_target : Scalar → List RankEntry → Bool
is_target s rows = list_any (same_scalar s) (map (λ row. row.1) rows)

ranked_target : (rows : List RankEntry) (from to : Scalar) (rank : ℕ) → rank_among rows from to ≡ Some rank → is_target to rows ≡ true
ranked_target [] from to rank e = cc
ranked_target (row ∷ rows) from to rank e = elim (cases_Bool (same_scalar from row.0 && same_scalar to row.1)) [
  | inl here ↦ or_left (same_scalar to row.1) (is_target to rows) (and_parts (same_scalar from row.0) (same_scalar to row.1) here).1
  | inr later ↦ or_right (same_scalar to row.1) (is_target to rows) (ranked_target rows from to rank (rw later at e))
]

sources_named : list_all is_named (map (λ row. row.0) conversion_ranks) ≡ true
unfolding named_scalars
sources_named = refl

targets_named : list_all is_named (map (λ row. row.1) conversion_ranks) ≡ true
unfolding named_scalars
targets_named = refl

pub source_named : (from to : Scalar) (rank : ℕ) → conversion_rank from to ≡ Some rank → is_named from ≡ true
source_named from to rank e = has_all is_named from (map (λ row. row.0) conversion_ranks)
    (ranked_source conversion_ranks from to rank e) sources_named

pub target_named : (from to : Scalar) (rank : ℕ) → conversion_rank from to ≡ Some rank → is_named to ≡ true
target_named from to rank e = has_all is_named to (map (λ row. row.1) conversion_ranks)
    (ranked_target conversion_ranks from to rank e) targets_named

-- ---- automatic conversions have ranks

pair_source : (pairs : List (Scalar × Scalar)) (from to : Scalar) →
    list_any (λ pair. same_scalar from pair.0 && same_scalar to pair.1) pairs ≡ true →
    list_any (same_scalar from) (map (λ pair. pair.0) pairs) ≡ true
pair_source [] from to e = cc
pair_source (pair ∷ pairs) from to e = elim (or_cases (same_scalar from pair.0 && same_scalar to pair.1) _ e) [
  | inl here ↦ or_left (same_scalar from pair.0) (list_any (same_scalar from) (map (λ (p : Scalar × Scalar). p.0) pairs))
      (and_parts (same_scalar from pair.0) (same_scalar to pair.1) here).0
  | inr later ↦ or_right (same_scalar from pair.0) (list_any (same_scalar from) (map (λ (p : Scalar × Scalar). p.0) pairs))
      (pair_source pairs from to later)
]

pair_target : (pairs : List (Scalar × Scalar)) (from to : Scalar) →
    list_any (λ pair. same_scalar from pair.0 && same_scalar to pair.1) pairs ≡ true →
    list_any (same_scalar to) (map (λ pair. pair.1) pairs) ≡ true
pair_target [] from to e = cc
pair_target (pair ∷ pairs) from to e = elim (or_cases (same_scalar from pair.0 && same_scalar to pair.1) _ e) [
  | inl here ↦ or_left (same_scalar to pair.1) (list_any (same_scalar to) (map (λ (p : Scalar × Scalar). p.1) pairs))
      (and_parts (same_scalar from pair.0) (same_scalar to pair.1) here).1
  | inr later ↦ or_right (same_scalar to pair.1) (list_any (same_scalar to) (map (λ (p : Scalar × Scalar). p.1) pairs))
      (pair_target pairs from to later)
]

pairs_from_named : list_all is_named (map (λ pair. pair.0) conversions) ≡ true
unfolding named_scalars
pairs_from_named = refl

pairs_to_named : list_all is_named (map (λ pair. pair.1) conversions) ≡ true
unfolding named_scalars
pairs_to_named = refl

-- a scalar that converts in a regular set is a named one
pub convertible_named : (from to : Scalar) → is_convertible from to ≡ true → is_named from ≡ true
convertible_named from to e = has_all is_named from (map (λ pair. pair.0) conversions) (pair_source conversions from to e) pairs_from_named

convertible_to_named : (from to : Scalar) → is_convertible from to ≡ true → is_named to ≡ true
convertible_to_named from to e = has_all is_named to (map (λ pair. pair.1) conversions) (pair_target conversions from to e) pairs_to_named

abbrev pub same_bool : Bool → Bool → Bool
same_bool true b = b
same_bool false b = not b

pub same_bool_reported : (a b : Bool) → same_bool a b ≡ true → a ≡ b
same_bool_reported true true e = refl
same_bool_reported true false e = cc
same_bool_reported false true e = cc
same_bool_reported false false e = refl

named_have_ranks : list_all (λ from. list_all (λ to. same_bool (is_convertible from to) (is_some (conversion_rank from to))) named_scalars)
    named_scalars ≡ true
unfolding named_scalars
named_have_ranks = refl

pub ranked_where_convertible : (from to : Scalar) → is_named from ≡ true → is_named to ≡ true →
    is_convertible from to ≡ is_some (conversion_rank from to)
ranked_where_convertible from to m n =
    let row = has_all (λ f. list_all (λ t. same_bool (is_convertible f t) (is_some (conversion_rank f t))) named_scalars) from named_scalars
    m named_have_ranks in
    same_bool_reported _ _ (has_all (λ t. same_bool (is_convertible from t) (is_some (conversion_rank from t))) to named_scalars n row)

-- ---- ranks determine the targets

abbrev pub is_same_rank : Option ℕ → Option ℕ → Bool
is_same_rank (Some m) (Some n) = m == n
is_same_rank _ _ = false

abbrev pub same_unless_apart : Bool → Scalar → Scalar → Bool
same_unless_apart true f g = same_scalar f g
same_unless_apart false f g = true

ranks_differ : list_all (λ s. list_all (λ f. list_all (λ g. same_unless_apart (is_same_rank (conversion_rank s f) (conversion_rank s g)) f
    g) named_scalars) named_scalars) named_scalars ≡ true
unfolding named_scalars
ranks_differ = refl

unless_apart : (same : Bool) (f g : Scalar) → same_unless_apart same f g ≡ true → same ≡ true → f ≡ g
unless_apart true f g e h = same_scalar_reported f g e
unless_apart false f g e h = cc

-- two scalars to which one converts at the same rank are equal
pub one_rank_one_target : (s f g : Scalar) (rank : ℕ) → conversion_rank s f ≡ Some rank → conversion_rank s g ≡ Some rank → f ≡ g
one_rank_one_target s f g rank at_f at_g =
    let from = has_all (λ a. list_all (λ b. list_all (λ c. same_unless_apart (is_same_rank (conversion_rank a b) (conversion_rank a c)) b c)
    named_scalars) named_scalars) s named_scalars (source_named s f rank at_f) ranks_differ in
    let to = has_all (λ b. list_all (λ c. same_unless_apart (is_same_rank (conversion_rank s b) (conversion_rank s c)) b c) named_scalars) f
    named_scalars (target_named s f rank at_f) from in
    let all = has_all (λ c. same_unless_apart (is_same_rank (conversion_rank s f) (conversion_rank s c)) f c) g named_scalars
    (target_named s g rank at_g) to in
    unless_apart _ f g all (ap (λ o. is_same_rank o (conversion_rank s g)) at_f ∙ ap (is_same_rank (Some rank)) at_g
    ∙ eq-eqb rank rank refl)

convertible_from_rank : (from to : Scalar) (found : Option ℕ) → conversion_rank from to ≡ found → IsSome found →
    is_convertible from to ≡ true
convertible_from_rank from to (Some rank) e some = ranked_where_convertible from to (source_named from to rank e)
    (target_named from to rank e) ∙ ap is_some e
convertible_from_rank from to None e some = absurd (both_ways false refl some)

pub conversions_have_ranks : ConversionsHaveRanks
conversions_have_ranks from to = (
  λ converts. sym (ranked_where_convertible from to (convertible_named from to converts) (convertible_to_named from to converts))
      ∙ converts,
  λ some. convertible_from_rank from to (conversion_rank from to) refl some,
)
