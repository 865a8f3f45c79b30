use Rattle.std.proofs.Common.{◌≡◌, ◌-◌, length}
use Rattle.shader_uniformity_causes.specs.Callers.{AreFound}
use Rattle.shader_uniformity_causes.proofs.callers.find_in_functions.Given as goal

abbrev pub invariant-loop-step : goal.invariant-loop-step
invariant-loop-step l = record {
  all : l.count ≡ length l.«module».functions;
  found : AreFound l.«module» l.known (l.count - l.step) (length l.«module».entry_points) l.callers.items;
}
