-- Sets of numbers below 192 as the bits of three words.
use Rattle.std.specs.Prelude.{◌≡◌, ◌<◌, ◌≤◌, ℕ, ◌+◌, ◌-◌, nat_lt, Bool, true, false, not, ◌&&◌, ◌==◌, if◌then◌else◌, List, Some, slice_get}
use Rattle.shader_ir.specs.declared.types.«Type».{«Type»}
use Rattle.shader_overloads.specs.declared.mask.Mask.{Mask}
use Rattle.shader_overloads.specs.declared.rule.Rule.{Rule}
use Rattle.shader_overloads.specs.Bits.{has_bit, items_where}
use Rattle.shader_overloads.specs.Remaining.{RuleFits}

-- whether a set contains a number
unfoldable pub has_position : Mask → ℕ → Bool
has_position mask k =
    if nat_lt k 64 then has_bit mask.low k
    else if nat_lt k 128 then has_bit mask.middle (k - 64)
    else has_bit mask.high (k - 128)

-- a set contains no number from a bound on
abbrev pub IsBelow : Mask → ℕ → Type 0
IsBelow mask bound = (k : ℕ) → bound ≤ k → has_position mask k ≡ false

-- the least number of a set
pub record IsLeastPosition (mask : Mask) (position : ℕ) : Type 0 where
  pub here : has_position mask position ≡ true
  pub least : (k : ℕ) → k < position → has_position mask k ≡ false

-- the sum of the words, which decreases with each number that is removed
abbrev pub word_sum : Mask → ℕ
word_sum mask = mask.low + mask.middle + mask.high

-- the least number of a set is removed from it
pub record IsTaken (before : Mask) (position : ℕ) (after : Mask) : Type 0 where
  pub within : position < 192
  pub first : IsLeastPosition before position
  pub others : (k : ℕ) → has_position after k ≡ (has_position before k && not (k == position))
  pub fewer : word_sum after < word_sum before

-- the rules whose numbers are in a set, in order
abbrev pub rules_at : Mask → List Rule → List Rule
rules_at mask table_rules = items_where (has_position mask) table_rules

-- the rule with a number fits an arena of types
abbrev pub NumberFits : List «Type» → List Rule → ℕ → Type 0
NumberFits types table_rules number = (rule : Rule) → slice_get table_rules number ≡ Some rule → RuleFits types rule
