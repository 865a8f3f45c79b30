-- Lists of distinct items.
use Rattle.std.specs.Prelude.{◌≡◌, ℕ, Bool, true, List, [], ◌∷◌, ◌++◌, Some, slice_get, if◌then◌else◌}
use Rattle.std.specs.List.{list_any, position_or_len}

module _ {T : Type 0} (eq : T → T → Bool) where
  -- no two positions hold equal items
  pub record HasNoEqualItems (items : List T) : Type 0 where
    pub same_position : (position other : ℕ) (item same : T) → slice_get items position ≡ Some item → slice_get items other ≡ Some same →
        eq item same ≡ true → position ≡ other

  -- whether an item of the list equals value
  abbrev pub has_equal : List T → T → Bool
  has_equal items value = list_any (eq value) items

  -- the first position whose item equals value, or the length if there is none
  abbrev pub position_of : List T → T → ℕ
  position_of items value = position_or_len (eq value) items

  -- the list itself if one of its items equals value, and else the list with value appended
  abbrev pub with_item : List T → T → List T
  with_item items value = if has_equal items value then items else items ++ value ∷ []

  -- the position holds an item that equals value, and no other position does
  pub record IsOnlyPositionOf (items : List T) (value : T) (position : ℕ) : Type 0 where
    pub stored : (item : T) × (slice_get items position ≡ Some item) × (eq value item ≡ true)
    pub only : (other : ℕ) (item : T) → slice_get items other ≡ Some item → eq value item ≡ true → other ≡ position
