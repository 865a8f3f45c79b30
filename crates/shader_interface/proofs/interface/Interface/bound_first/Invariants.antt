use Rattle.std.proofs.Common.{◌≡◌}
use Rattle.json.specs.Value.{value_view}
use Rattle.shader_interface.specs.Bound.{bound_first}
use Rattle.shader_interface.proofs.interface.Interface.bound_first.Given as goal

abbrev pub invariant-loop-global : goal.invariant-loop-global
invariant-loop-global l = l.bound.items ≡ bound_first (value_view l.self.0.now) l.global
