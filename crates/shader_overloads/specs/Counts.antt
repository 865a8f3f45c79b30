-- Arguments of rules and their number.
use Rattle.std.specs.Prelude.{◌≡◌, ◌≤◌, ℕ, List, Some, length, slice_get}
use Rattle.std.specs.List.{filter_map}
use Rattle.shader_ir.specs.declared.proc.type_resolution.TypeResolution.{TypeResolution}
use Rattle.shader_overloads.specs.declared.rule.Rule.{Rule}

-- some rule has this number of arguments
abbrev pub IsCount : ℕ → List Rule → Type 0
IsCount count rules = (k : ℕ) × (rule : Rule) × (slice_get rules k ≡ Some rule) × (length rule.arguments ≡ count)

-- the least number of arguments of a rule
pub record IsLeastCount (count : ℕ) (rules : List Rule) : Type 0 where
  pub reached : IsCount count rules
  pub bound : (k : ℕ) (rule : Rule) → slice_get rules k ≡ Some rule → count ≤ length rule.arguments

-- the greatest number of arguments of a rule
pub record IsGreatestCount (count : ℕ) (rules : List Rule) : Type 0 where
  pub reached : IsCount count rules
  pub bound : (k : ℕ) (rule : Rule) → slice_get rules k ≡ Some rule → length rule.arguments ≤ count

-- the arguments at a position, of the rules that have one
abbrev pub arguments_at : ℕ → List Rule → List TypeResolution
arguments_at i rules = filter_map (λ rule. slice_get rule.arguments i) rules
