-- Laws on the set bits of a number.
use Rattle.std.specs.Prelude.{◌≡◌, ◌<◌, ◌^◌, ℕ}
use Rattle.std.specs.Int.{IsPowerOfTwo}
use Rattle.std.specs.List.{All, sum}
use Rattle.std.specs.List.Sorted.{IsStrictlyIncreasing}
use Rattle.shader_overloads.specs.Bits.{one_bits}

-- each set bit is a power of two
abbrev pub OneBitsArePowers : Type 0
OneBitsArePowers = (n : ℕ) → All IsPowerOfTwo (one_bits n)

-- each set bit is below the next, so no two are the same
abbrev pub OneBitsGrow : Type 0
OneBitsGrow = (n : ℕ) → IsStrictlyIncreasing (one_bits n)

-- the set bits add up to the number
abbrev pub OneBitsAddUp : Type 0
OneBitsAddUp = (n : ℕ) → n < 2 ^ 64 → sum (one_bits n) ≡ n
