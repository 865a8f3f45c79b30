use Rattle.std.proofs.Common.{◌≡◌, drop, not}
use Rattle.shader_overloads.specs.AnySet.{acceptance_in, is_regular, rules_in}
use Rattle.shader_overloads.specs.BuiltinGroups.{is_listed}
use Rattle.shader_overloads.specs.Builtins.{acceptance_of, rules_of}
use Rattle.shader_overloads.specs.Remaining.{RulesFit, remaining, supplying}
use Rattle.shader_overloads.proofs.call.rule_of.Given as goal

-- the remaining arguments leave of the current set what all leave of the function's rules
abbrev pub invariant-loop-i : goal.invariant-loop-i
invariant-loop-i l = record {
  rest : remaining (acceptance_of l.fn.function) l.types (supplying l.i (drop l.i l.arguments)) (rules_in l.left)
      ≡ remaining (acceptance_of l.fn.function) l.types (supplying 0 l.arguments) (rules_of l.fn.function);
  kind : acceptance_in l.left ≡ acceptance_of l.fn.function;
  regular : is_regular l.left ≡ not (is_listed l.fn.function);
  fits : RulesFit l.types (rules_in l.left);
}
