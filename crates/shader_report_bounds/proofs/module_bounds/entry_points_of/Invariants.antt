use Rattle.shader_report_bounds.specs.Bounds.{AreFirst, entry_functions}
use Rattle.shader_report_bounds.proofs.module_bounds.entry_points_of.Given as goal

abbrev pub invariant-loop-index : goal.invariant-loop-index
invariant-loop-index l = AreFirst l.module l.policies (entry_functions l.module) l.infos.entry_points l.index l.bounds.items
