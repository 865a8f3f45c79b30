use Rattle.std.proofs.Common.{◌≡◌, drop}
use Rattle.shader_overloads.specs.Remaining.{remaining, RulesFit}
use Rattle.shader_overloads.proofs.overload_set.narrow.Given as goal

-- the remaining calls leave of the current set what all calls leave of the first one
abbrev pub invariant-loop-call : goal.invariant-loop-call
invariant-loop-call g l =
    let rules = g.S.OverloadSet.rules in
    let accepting = g.S.OverloadSet.accepting in
    let is_free = g.S.OverloadSet.is_free in
    record {
      rest : remaining (accepting l.fn.set) l.types (drop l.call-index l.calls) (rules l.left)
          ≡ remaining (accepting l.fn.set) l.types l.calls (rules l.fn.set);
      kind : accepting l.left ≡ accepting l.fn.set;
      free : is_free l.left ≡ is_free l.fn.set;
      fits : RulesFit l.types (rules l.left);
    }
