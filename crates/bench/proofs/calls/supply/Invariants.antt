use Rattle.shader_overloads.specs.AnySet.{rules_in}
use Rattle.shader_overloads.specs.Remaining.{RulesFit}
use Rattle.bench.proofs.calls.supply.Given as goal

-- the remaining rules fit the types
abbrev pub invariant-loop-i : goal.invariant-loop-i
invariant-loop-i l = RulesFit l.types (rules_in l.left)
