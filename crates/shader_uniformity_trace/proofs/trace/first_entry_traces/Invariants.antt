use Rattle.shader_uniformity_trace.specs.Trace.{AreEntryTraces}
use Rattle.shader_uniformity_trace.proofs.trace.first_entry_traces.Given as goal

abbrev pub invariant-loop-index : goal.invariant-loop-index
invariant-loop-index l = AreEntryTraces l.«module» l.index l.traces.items
