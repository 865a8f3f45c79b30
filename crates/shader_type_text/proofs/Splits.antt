-- The pieces of a list, by the position of the first separator.
use Rattle.std.proofs.Common.{◌≡◌, ℕ, ◌+◌, ◌<◌, ◌≤◌, Bool, true, false, cond, ltb, Some, None}
use Rattle.std.proofs.Common.{List, [], ◌∷◌, length, take, drop, refl, subst, sym, arith}
use Rattle.std.specs.List.{slice_split, position, position_or_len}
use Rattle.std.proofs.lemmas.Bool.{ltb-true, ltb-false}
use Rattle.std.proofs.lemmas.Option.{cond_some}
use Rattle.std.proofs.lemmas.List.Elements.{All-from_get_or}
use Rattle.std.proofs.lemmas.List.Sums.{fails_before_first}
use Rattle.std.proofs.lemmas.List.Splits.{slice_split_first, slice_split_none}

-- the first piece ends at the first separator
pub split_at : (p : ℕ → Bool) (xs : List ℕ) (at : ℕ) → Some at ≡ position p xs
    → slice_split p xs ≡ take at xs ∷ slice_split p (drop (at + 1) xs)
split_at p xs at found =
    let h = cond_some (ltb (position_or_len p xs) (length xs)) (position_or_len p xs) at (sym found) in
    let below : position_or_len p xs < length xs = ltb-true _ _ h.0 in
    subst (λ (i : ℕ). slice_split p xs ≡ take i xs ∷ slice_split p (drop (i + 1) xs)) h.1 (slice_split_first p xs 0 below)

no_choice : (b : Bool) (x : ℕ) → None ≡ cond b (Some x) None → b ≡ false
no_choice true x e = cc
no_choice false x e = refl

-- without a separator there is one piece
pub split_whole : (p : ℕ → Bool) (xs : List ℕ) → None ≡ position p xs → slice_split p xs ≡ xs ∷ []
split_whole p xs none =
    let past : length xs ≤ position_or_len p xs = ltb-false _ _ (no_choice (ltb (position_or_len p xs) (length xs)) _ none) in
    slice_split_none p xs (All-from_get_or (λ x. p x ≡ false) xs 0 (λ i below. fails_before_first p xs i 0 (omega arith)))
