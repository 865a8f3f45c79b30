-- Lemmas on lists of distinct items.
use Rattle.std.proofs.Common.{◌≡◌, ℕ, ◌+◌, ◌<◌, Bool, true, false, List, [], ◌∷◌, ◌++◌, Some, length, take, get_or}
use Rattle.std.proofs.Common.{slice_get, if◌then◌else◌, ap, sym, ◌∙◌, ◌⊎◌, inl, inr, true≢false, arith, refl}
use Rattle.std.specs.Cmp.{IsEquivalence}
use Rattle.std.specs.List.{IsDistinct, list_any}
use Rattle.std.proofs.lemmas.Bool.{cases_order}
use Rattle.std.proofs.lemmas.List.{get_or-take, length-take-le, take_more}
use Rattle.std.proofs.lemmas.List.Folds.{Any-from_list_any}
use Rattle.std.proofs.lemmas.Option.{get_or_from_slice_get, slice_get-get_or, slice_get_within}
use Rattle.std.proofs.lemmas.Map.Keys.{apart_from_distinct}
use Rattle.shader_arena.specs.Unique.{HasNoEqualItems, IsOnlyPositionOf, with_item}

module _ {T : Type 0} (eq : T → T → Bool) (laws : IsEquivalence eq) (items : List T) (distinct : IsDistinct eq items) where
  -- the items at two distinct positions are unequal
  apart : (low high : ℕ) (a b : T) → low < high → slice_get items low ≡ Some a → slice_get items high ≡ Some b → eq a b ≡ false
  apart low high a b below at_low at_high =
      let differ = apart_from_distinct eq items low high a distinct below (slice_get_within items high b at_high) in
      rw (get_or_from_slice_get items low a a at_low, get_or_from_slice_get items high b a at_high) at differ

  same_position : (position other : ℕ) (item same : T) → slice_get items position ≡ Some item → slice_get items other ≡ Some same →
      eq item same ≡ true → position ≡ other
  same_position position other item same at_position at_other equal = by (cases_order position other)
    where
      by : (position ≡ other) ⊎ ((position < other) ⊎ (other < position)) → position ≡ other
      by (inl same_position) = same_position
      by (inr (inl below)) = absurd (true≢false (sym equal ∙ apart position other item same below at_position at_other))
      by (inr (inr above)) =
          absurd (true≢false (sym equal ∙ laws.symm item same ∙ apart other position same item above at_other at_position))

  pub HasNoEqualItems-from_distinct : HasNoEqualItems eq items
  HasNoEqualItems-from_distinct = record { same_position = same_position }

  -- a position that holds an item equal to value is the only one
  pub IsOnlyPositionOf-stored : (value : T) (position : ℕ) →
      (stored : (item : T) × (slice_get items position ≡ Some item) × (eq value item ≡ true)) →
      IsOnlyPositionOf eq items value position
  IsOnlyPositionOf-stored value position stored = record {
    stored = stored;
    only = λ other item at equal. same_position other position item stored.0 at stored.1 (sym (laws.congr value item stored.0 equal)
        ∙ stored.2);
  }

module _ {T : Type 0} (items : List T) (position : ℕ) (item : T) (at : slice_get items position ≡ Some item) where
  -- the items up to a position, and the item there
  next_item : take (position + 1) items ≡ take position items ++ item ∷ []
  next_item =
      take_more items position item (slice_get_within items position item at)
      ∙ ap (λ last. take position items ++ last ∷ []) (get_or_from_slice_get items position item item at)

  module _ (eq : T → T → Bool) (distinct : HasNoEqualItems eq items) where
    -- no item before it is equal
    none_before : list_any (eq item) (take position items) ≡ false
    none_before = by (list_any (eq item) (take position items)) refl
      where
        by : (found : Bool) → list_any (eq item) (take position items) ≡ found → list_any (eq item) (take position items) ≡ false
        by false is = is
        by true is =
            let inside = slice_get_within items position item at in
            let long : length (take position items) ≡ position = length-take-le position items (omega (arith, inside)) in
            let any = Any-from_list_any (eq item) (take position items) is in
            let low : any.0 < position = omega (arith, long, any.2) in
            let same : get_or items any.0 any.1 ≡ any.1 = sym (get_or-take position items any.0 any.1 low) ∙ any.3 in
            let stored : slice_get items any.0 ≡ Some any.1 = slice_get-get_or items any.0 any.1 (omega (arith, low, inside))
            ∙ ap Some same in
            absurd (omega (arith, low, distinct.same_position position any.0 item any.1 at stored any.4))

    -- adding the next item of a list of distinct items appends it
    pub next_unique : with_item eq (take position items) item ≡ take (position + 1) items
    next_unique =
        ap (λ found. if found then take position items else take position items ++ item ∷ []) none_before ∙ sym next_item
