use Rattle.shader_report_bounds.specs.Bounds.{AreFirst}
use Rattle.shader_report_bounds.proofs.module_bounds.functions_of.Given as goal

abbrev pub invariant-loop-index : goal.invariant-loop-index
invariant-loop-index l = AreFirst l.module l.policies l.module.functions l.infos.functions l.index l.bounds.items
