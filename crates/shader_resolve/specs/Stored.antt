-- The outcome of a typing rule at stored types.
use Rattle.std.specs.Prelude.{◌≡◌, List, Option, Some, Result, option_map, slice_get}
use Rattle.std.specs.Option.{option_and_then}
use Rattle.shader_ir.specs.declared.proc.type_resolution.TypeResolution.{TypeResolution}
use Rattle.shader_resolve.specs.declared.error.ResolveError.{ResolveError}
use Rattle.shader_resolve.specs.Outcome.{MeetsWithoutCopy, Memory, Outcome}
use Rattle.shader_resolve.specs.TypingRules.{TypingRule, Plain, One, Two}

-- the outcome of a typing rule at the stored types of its operands
abbrev pub outcome_at : List TypeResolution → TypingRule → Option Outcome
outcome_at stored (Plain outcome) = Some outcome
outcome_at stored (One operand answer) = option_map answer (slice_get stored operand)
outcome_at stored (Two left right answer) =
    option_and_then (λ first. option_map (answer first) (slice_get stored right)) (slice_get stored left)

-- the result meets that outcome
abbrev pub IsOutcomeOf : List TypeResolution → Memory → TypingRule → Result TypeResolution ResolveError → Type 0
IsOutcomeOf stored memory rule result =
    (outcome : Outcome) × (outcome_at stored rule ≡ Some outcome) × MeetsWithoutCopy memory result outcome
