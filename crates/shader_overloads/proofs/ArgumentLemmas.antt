-- The arguments at a position, of one more rule.
use Rattle.std.proofs.Common.{◌≡◌, ◌∙◌, ◌+◌, ℕ, zero, suc, ◌<◌, ◌≤◌, List, [], ◌∷◌, ◌++◌, Option}
use Rattle.std.proofs.Common.{Some, None, slice_get, take, length, get_or, ap, refl, sym, arith}
use Rattle.std.specs.List.{cons_option, filter_map}
use Rattle.std.specs.Option.{option_to_list}
use Rattle.std.proofs.lemmas.List.{take_more}
use Rattle.shader_overloads.specs.declared.rule.Rule.{Rule}
use Rattle.shader_overloads.specs.Counts.{IsGreatestCount, arguments_at}
use Rattle.std.proofs.lemmas.List.Elements.{filter_map-append}

one_option : {X : Type 0} (found : Option X) → cons_option found [] ≡ option_to_list found
one_option None = refl
one_option (Some x) = refl

pub filter_map_more : {X Y : Type 0} (h : X → Option Y) (xs : List X) (i : ℕ) (x : X) → i < length xs → x ≡ get_or xs i x →
    filter_map h (take (i + 1) xs) ≡ filter_map h (take i xs) ++ option_to_list (h x)
filter_map_more h xs i x within is =
    ap (filter_map h) (take_more xs i x within)
    ∙ filter_map-append h (take i xs) (get_or xs i x ∷ [])
    ∙ ap (λ ys. filter_map h (take i xs) ++ ys) (ap (λ v. filter_map h (v ∷ [])) (sym is) ∙ one_option (h x))

pub slice_get-past : {X : Type 0} (xs : List X) (i : ℕ) → length xs ≤ i → slice_get xs i ≡ None
slice_get-past [] i h = refl
slice_get-past (x ∷ xs) zero h = absurd (omega arith)
slice_get-past (x ∷ xs) (suc i) h = slice_get-past xs i (omega arith)

-- if every rule is too short, none has an argument at the position
no_arguments : (i : ℕ) (rules : List Rule) → ((k : ℕ) (rule : Rule) → slice_get rules k ≡ Some rule → length rule.arguments ≤ i) →
    arguments_at i rules ≡ []
no_arguments i [] short = refl
no_arguments i (rule ∷ rules) short =
    ap (λ found. cons_option found (arguments_at i rules)) (slice_get-past rule.arguments i (short zero rule refl))
    ∙ no_arguments i rules (λ k other at. short (suc k) other at)

slice_get-within : {X : Type 0} (xs : List X) (i : ℕ) → i < length xs → slice_get xs i ≡ None → ⊥
slice_get-within [] i h e = omega arith
slice_get-within (x ∷ xs) zero h e = cc
slice_get-within (x ∷ xs) (suc i) h e = slice_get-within xs i (omega arith) e

none_from_nil : {X : Type 0} (found : Option X) (xs : List X) → cons_option found xs ≡ [] → (found ≡ None) × (xs ≡ [])
none_from_nil None xs e = (refl, e)
none_from_nil (Some x) xs e = cc

-- if some rule is long enough, one has
some_arguments : (i : ℕ) (rules : List Rule) (k : ℕ) (rule : Rule) → slice_get rules k ≡ Some rule → i < length rule.arguments →
    arguments_at i rules ≡ [] → ⊥
some_arguments i [] k rule at long e = cc
some_arguments i (first ∷ rules) zero rule at long e =
    let same : first ≡ rule = cc in
    slice_get-within rule.arguments i long (ap (λ (r : Rule). slice_get r.arguments i) (sym same)
    ∙ (none_from_nil (slice_get first.arguments i) (arguments_at i rules) e).0)
some_arguments i (first ∷ rules) (suc k) rule at long e =
    some_arguments i rules k rule at long (none_from_nil (slice_get first.arguments i) (arguments_at i rules) e).1

pub none_past_greatest : (i count : ℕ) (rules : List Rule) → IsGreatestCount count rules → count ≤ i → arguments_at i rules ≡ []
none_past_greatest i count rules greatest past = no_arguments i rules (λ k rule at. let most = greatest.bound k rule at in omega arith)

pub some_below_greatest : (i count : ℕ) (rules : List Rule) → IsGreatestCount count rules → i < count → arguments_at i rules ≡ [] → ⊥
some_below_greatest i count rules greatest below e =
    let longest = greatest.reached.1 in
    let long : i < length longest.arguments = omega (arith, greatest.reached.3) in
    some_arguments i rules greatest.reached.0 longest greatest.reached.2 long e
