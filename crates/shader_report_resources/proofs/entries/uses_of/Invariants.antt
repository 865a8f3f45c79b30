use Rattle.std.proofs.Common.{take}
use Rattle.shader_report_resources.specs.Entries.{AreUses}
use Rattle.shader_report_resources.proofs.entries.uses_of.Given as goal

abbrev pub invariant-loop-index : goal.invariant-loop-index
invariant-loop-index l = AreUses (take l.index l.«module».entry_points) (take l.index l.infos.entry_points) l.uses.items
