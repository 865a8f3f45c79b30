use Rattle.shader_uniformity_trace.specs.Trace.{AreTraces}
use Rattle.shader_uniformity_trace.proofs.trace.first_traces.Given as goal

abbrev pub invariant-loop-index : goal.invariant-loop-index
invariant-loop-index l = AreTraces l.«module» l.index l.traces.items
