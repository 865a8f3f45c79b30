use Rattle.std.proofs.Common.{take}
use Rattle.shader_uniformity_causes.specs.Callers.{Notes}
use Rattle.shader_uniformity_causes.proofs.callers.note_passes.Given as goal

abbrev pub invariant-loop-pass : goal.invariant-loop-pass
invariant-loop-pass l = Notes l.table l.place l.limit (take l.pass-index l.passes) l.fn.callers.items l.callers.items
