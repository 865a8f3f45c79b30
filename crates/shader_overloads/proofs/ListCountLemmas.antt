-- The numbers of arguments of the remaining rules of a list.
use Rattle.std.proofs.Common.{◌≡◌, ◌≤◌, ◌∙◌, ℕ, zero, suc, Bool, true, false, not, ◌&&◌, nat_eq, List, [], ◌∷◌}
use Rattle.std.proofs.Common.{length, sym, ap, arith, subst, inl, inr, ◌⊎◌, Some, slice_get, min, max, refl}
use Rattle.std.proofs.Math.Nat.{min-eq_left, min-eq_right, max-eq_left, max-eq_right}
use Rattle.std.proofs.lemmas.Bool.{both_ways, cases_lt, cases_eq, ne_eqb}
use Rattle.shader_overloads.specs.declared.rule.Rule.{Rule}
use Rattle.shader_overloads.specs.Bits.{cons_if, items_where}
use Rattle.shader_overloads.specs.Counts.{IsCount, IsLeastCount, IsGreatestCount}

-- ---- elements and their positions

-- a position that passes, with its element
pub record PositionOf {X : Type 0} (p : ℕ → Bool) (xs : List X) (x : X) : Type 0 where
  pub position : ℕ
  pub at : slice_get xs position ≡ Some x
  pub passes : p position ≡ true

position_of_retained : {X : Type 0} (p : ℕ → Bool) (y x : X) (xs rest : List X) (b : Bool) → p 0 ≡ b →
    ((k : ℕ) → slice_get rest k ≡ Some x → PositionOf (λ i. p (suc i)) xs x) → (k : ℕ) → slice_get (cons_if b y rest) k ≡ Some x →
    PositionOf p (y ∷ xs) x
position_of_retained p y x xs rest true here later zero at = record { position = 0; at = at; passes = here }
position_of_retained p y x xs rest true here later (suc k) at = let r = later k at in
    record { position = suc r.position; at = r.at; passes = r.passes }
position_of_retained p y x xs rest false here later k at = let r = later k at in
    record { position = suc r.position; at = r.at; passes = r.passes }

pub position_of : {X : Type 0} (p : ℕ → Bool) (xs : List X) (x : X) (k : ℕ) → slice_get (items_where p xs) k ≡ Some x → PositionOf p xs x
position_of p [] x k at = absurd (cc)
position_of p (y ∷ xs) x k at = position_of_retained p y x xs (items_where (λ i. p (suc i)) xs) (p 0) refl
    (λ j e. position_of (λ i. p (suc i)) xs x j e) k at

-- an element of a list, with its number
record Listed {X : Type 0} (xs : List X) (x : X) : Type 0 where
  pub number : ℕ
  pub at : slice_get xs number ≡ Some x

listed_later : {X : Type 0} (b : Bool) (y x : X) (xs : List X) → Listed xs x → Listed (cons_if b y xs) x
listed_later true y x xs r = record { number = suc r.number; at = r.at }
listed_later false y x xs r = r

listed_first : {X : Type 0} (b : Bool) (y x : X) (xs : List X) → b ≡ true → y ≡ x → Listed (cons_if b y xs) x
listed_first true y x xs here e = record { number = 0; at = ap Some e }
listed_first false y x xs here e = absurd (both_ways false refl here)

listed : {X : Type 0} (p : ℕ → Bool) (xs : List X) (x : X) (k : ℕ) → p k ≡ true → slice_get xs k ≡ Some x → Listed (items_where p xs) x
listed p [] x k here at = absurd (cc)
listed p (y ∷ xs) x zero here at = let same : y ≡ x = cc in listed_first (p 0) y x (items_where (λ i. p (suc i)) xs) here same
listed p (y ∷ xs) x (suc k) here at = listed_later (p 0) y x (items_where (λ i. p (suc i)) xs) (listed (λ i. p (suc i)) xs x k here at)

-- ---- the best count so far

-- the argument count of a member that is related to those of all members already visited
pub record BestSoFar (relation : ℕ → ℕ → Type 0) (members left : ℕ → Bool) (rules : List Rule) (best : ℕ) : Type 0 where
  pub reached : IsCount best (items_where members rules)
  pub bound : (k : ℕ) (rule : Rule) → slice_get rules k ≡ Some rule → members k ≡ true → left k ≡ false →
      relation best (length rule.arguments)

abbrev pub AtMost : ℕ → ℕ → Type 0
AtMost a b = a ≤ b

abbrev pub AtLeast : ℕ → ℕ → Type 0
AtLeast a b = b ≤ a

pub best_first : (relation : ℕ → ℕ → Type 0) (members : ℕ → Bool) (rules : List Rule) (rule : Rule) (best : ℕ) →
    slice_get (items_where members rules) 0 ≡ Some rule → best ≡ length rule.arguments → BestSoFar relation members members rules best
best_first relation members rules rule best at e = record {
  reached = (0, rule, at, sym e);
  bound = λ k other found here out. absurd (both_ways (members k) out here);
}

still_left : (b : Bool) → (b && not false) ≡ false → b ≡ false
still_left true e = e
still_left false e = refl

-- the better of the best so far and the count of the next rule
best_next : (relation : ℕ → ℕ → Type 0) (members left next : ℕ → Bool) (rules : List Rule) (position best better : ℕ) (rule : Rule)
    → slice_get rules position ≡ Some rule → members position ≡ true → ((k : ℕ) → next k ≡ (left k && not (nat_eq k position))) →
    (better ≡ best) ⊎ (better ≡ length rule.arguments)
    → relation better (length rule.arguments) → ((n : ℕ) → relation best n → relation better n)
    → BestSoFar relation members left rules best → BestSoFar relation members next rules better
best_next relation members left next rules position best better rule at in_set others which new old so = record {
  reached = elim which [
    | inl e ↦ subst (λ n. IsCount n (items_where members rules)) (sym e) so.reached
    | inr e ↦ let r = listed members rules rule position in_set at in (r.number, rule, r.at, sym e)
  ];
  bound = λ k other found here out. elim (cases_eq k position) [
    | inl e ↦ let same : rule ≡ other = cc (sym at ∙ ap (slice_get rules) (sym e) ∙ found) in
        subst (λ (r : Rule). relation better (length r.arguments)) same new
    | inr ne ↦ old (length other.arguments) (so.bound k other found here
        (still_left (left k) (sym (ap (λ b. left k && not b) (ne_eqb k position ne)) ∙ sym (others k) ∙ out)))
  ];
}

module _ (members left next : ℕ → Bool) (rules : List Rule) (position best : ℕ) (rule : Rule) (at : slice_get rules position ≡ Some rule)
    (in_set : members position ≡ true) (others : (k : ℕ) → next k ≡ (left k && not (nat_eq k position))) where
  pub least_next : BestSoFar AtMost members left rules best → BestSoFar AtMost members next rules (min best (length rule.arguments))
  least_next so = elim (cases_lt best (length rule.arguments)) [
    | inl less ↦
        let is : min best (length rule.arguments) ≡ best = min-eq_left (omega arith) in
        best_next AtMost members left next rules position best _ rule at in_set others (inl is) (omega (arith, is))
        (λ n h. omega (arith, is)) so
    | inr more ↦
        let is : min best (length rule.arguments) ≡ length rule.arguments = min-eq_right more in
        best_next AtMost members left next rules position best _ rule at in_set others (inr is) (omega (arith, is))
        (λ n h. omega (arith, is)) so
  ]

  pub greatest_next : BestSoFar AtLeast members left rules best → BestSoFar AtLeast members next rules (max best (length rule.arguments))
  greatest_next so = elim (cases_lt best (length rule.arguments)) [
    | inl less ↦
        let is : max best (length rule.arguments) ≡ length rule.arguments = max-eq_right (omega arith) in
        best_next AtLeast members left next rules position best _ rule at in_set others (inr is) (omega (arith, is))
        (λ n h. omega (arith, is)) so
    | inr more ↦
        let is : max best (length rule.arguments) ≡ best = max-eq_left more in
        best_next AtLeast members left next rules position best _ rule at in_set others (inl is) (omega (arith, is))
        (λ n h. omega (arith, is)) so
  ]

best_done : (relation : ℕ → ℕ → Type 0) (members left : ℕ → Bool) (rules : List Rule) (best : ℕ) → ((k : ℕ) → left k ≡ false) →
    BestSoFar relation members left rules best → (k : ℕ) (rule : Rule) → slice_get (items_where members rules) k ≡ Some rule →
    relation best (length rule.arguments)
best_done relation members left rules best none so k rule at =
    let r = position_of members rules rule k at in
    so.bound r.position rule r.at r.passes (none r.position)

pub least_done : (members left : ℕ → Bool) (rules : List Rule) (best : ℕ) → ((k : ℕ) → left k ≡ false) →
    BestSoFar AtMost members left rules best → IsLeastCount best (items_where members rules)
least_done members left rules best none so = record { reached = so.reached; bound = best_done AtMost members left rules best none so }

pub greatest_done : (members left : ℕ → Bool) (rules : List Rule) (best : ℕ) → ((k : ℕ) → left k ≡ false) →
    BestSoFar AtLeast members left rules best → IsGreatestCount best (items_where members rules)
greatest_done members left rules best none so = record { reached = so.reached; bound = best_done AtLeast members left rules best none so }
