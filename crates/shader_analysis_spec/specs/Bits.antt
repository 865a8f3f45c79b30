-- Numbers as sets of labels.
use Rattle.std.specs.Prelude.{◌≡◌, ℕ, ◌<◌, ◌^◌, ◌⊎◌, ◌↔◌, bit_or}
use Rattle.std.specs.Int.{IsBitSet}

-- a union has the members of both sets, and a number is determined by its bits
abbrev pub NumbersAreSets : Type 0
NumbersAreSets = ((a b k : ℕ) → IsBitSet (bit_or a b) k ↔ (IsBitSet a k ⊎ IsBitSet b k))
    × ((w a b : ℕ) → a < 2 ^ w → b < 2 ^ w → ((k : ℕ) → k < w → IsBitSet a k ↔ IsBitSet b k) → a ≡ b)
