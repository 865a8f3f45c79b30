use Rattle.std.proofs.Common.{◌≡◌}
use Rattle.json.specs.Value.{value_view}
use Rattle.shader_interface.specs.Workgroups.{workgroups_first}
use Rattle.shader_interface.proofs.interface.Interface.workgroups_first.Given as goal

abbrev pub invariant-loop-entry : goal.invariant-loop-entry
invariant-loop-entry l = l.sizes.items ≡ workgroups_first (value_view l.self.0.now) l.entry
