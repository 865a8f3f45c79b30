use Rattle.std.proofs.Common.{◌≡◌, List, drop}
use Rattle.std.specs.List.{filter}
use Rattle.shader_ir.specs.declared.types.«Type».{«Type»}
use Rattle.shader_overloads.specs.AnySet.{acceptance_in, rules_in}
use Rattle.shader_overloads.specs.Builtins.{acceptance_of}
use Rattle.shader_overloads.specs.Remaining.{RulesFit}
use Rattle.typer_answers.specs.Calls.{rules_left, takes_all}
use Rattle.typer_answers.proofs.call.supply_all.Given as goal

-- the remaining arguments leave of the current set what all leave of the function's rules
abbrev pub invariant-loop-i : goal.invariant-loop-i
invariant-loop-i l = record {
  rest : filter (takes_all l.fn.function l.i (drop l.i l.arguments)) (rules_in l.left) ≡ rules_left l.fn.function l.arguments;
  kind : acceptance_in l.left ≡ acceptance_of l.fn.function;
  fits : (types : List «Type») → RulesFit types (rules_in l.left);
}
