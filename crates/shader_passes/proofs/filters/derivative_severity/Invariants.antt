use Rattle.std.proofs.Common.{◌<◌, length, IfSome}
use Rattle.shader_passes.proofs.FilterLemmas.{LeadsOn, height}
use Rattle.shader_passes.proofs.filters.derivative_severity.Given as goal

abbrev pub invariant-loop-next : goal.invariant-loop-next
invariant-loop-next l = record {
  within : IfSome l.next (λ position. position < length l.filters);
  leads : LeadsOn l.filters l.fn.leaf l.next;
}

abbrev pub decreases-loop-next : goal.decreases-loop-next
decreases-loop-next l = height l.next
