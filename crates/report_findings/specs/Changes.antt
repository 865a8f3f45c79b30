-- What still follows after a change of an entry point.
use Rattle.std.specs.Prelude.{ℕ, nat_eq, Bool, true, false, not, List}
use Rattle.std.specs.List.{filter}
use Rattle.shader_uniformity.specs.Marks.{Marked}
use Rattle.shader_uniformity.specs.declared.facts.Fact.{Fact}
use Rattle.shader_uniformity.specs.declared.facts.Fact.TheVariants.{Always, Apart, Leaves, Differs}
use Rattle.shader_uniformity.specs.declared.facts.Rule.{Rule}
use Rattle.report_findings.specs.declared.changes.Change.{Change}
use Rattle.report_findings.specs.declared.changes.Change.TheVariants.{NoJump, OneValue}

-- an implication from the statement that exits blocks
abbrev jumps_from : ℕ → (cause effect : Fact) → Bool
jumps_from jump (Apart position) (Leaves kind block) = nat_eq position jump
jumps_from jump cause effect = false

-- an implication by which an expression differs
abbrev makes_differ : ℕ → (effect : Fact) → Bool
makes_differ e (Differs expression) = nat_eq expression e
makes_differ e effect = false

abbrev pub is_kept : Change → Rule → Bool
is_kept (NoJump jump) rule = not (jumps_from jump rule.cause rule.effect)
is_kept (OneValue e) rule = not (makes_differ e rule.effect)

-- the implications that hold after a change
abbrev pub remaining : Change → List Rule → List Rule
remaining change rules = filter (is_kept change) rules

-- whether a fact follows from implications
abbrev pub Follows : List Rule → Fact → Bool → Type 0
Follows rules fact true = Marked rules Always fact
Follows rules fact false = Marked rules Always fact → ⊥
