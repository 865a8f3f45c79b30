use Rattle.std.proofs.Common.{take}
use Rattle.shader_uniformity_needs.specs.Notes.{Notes}
use Rattle.shader_uniformity_needs.proofs.notes.note_all.Given as goal

abbrev pub invariant-loop-pass : goal.invariant-loop-pass
invariant-loop-pass l = Notes l.table (take l.pass-index l.passes) l.fn.begun.items l.begun.items
