use Rattle.std.proofs.Common.{◌≡◌, ◌≢◌, ◌<◌, [], take}
use Rattle.shader_typing.specs.AnySet.{acceptance_in, rules_in}
use Rattle.shader_typing.specs.OverloadsBuiltins.{acceptance_of, rules_of}
use Rattle.shader_typing.specs.Remaining.{RulesFit, remaining, supplying}
use Rattle.shader_uses.proofs.explained.refusal_of.Given as goal

-- the set has the overloads that accept the arguments so far, of which none was refused
abbrev pub invariant-loop-i : goal.invariant-loop-i
invariant-loop-i l = record {
  rules : rules_in l.left
      ≡ remaining (acceptance_of l.fn.function) l.fn.module.types (supplying 0 (take l.i l.arguments)) (rules_of l.fn.function);
  kind : acceptance_in l.left ≡ acceptance_of l.fn.function;
  fits : RulesFit l.fn.module.types (rules_in l.left);
  some : 0 < l.i → rules_in l.left ≢ [];
}
