use Rattle.std.proofs.Common.{◌≡◌, length}
use Rattle.shader_uniformity_causes.specs.Callers.{AreFound}
use Rattle.shader_uniformity_causes.proofs.callers.find_in_points.Given as goal

abbrev pub invariant-loop-index : goal.invariant-loop-index
invariant-loop-index l = record {
  all : l.count ≡ length l.«module».entry_points;
  limit : l.limit ≡ length l.«module».functions;
  found : AreFound l.«module» l.known (length l.«module».functions) l.index l.callers.items;
}
