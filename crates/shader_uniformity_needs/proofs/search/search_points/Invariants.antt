use Rattle.std.proofs.Common.{◌≡◌, ◌-◌, length}
use Rattle.shader_uniformity_needs.specs.Search.{IsSearched}
use Rattle.shader_uniformity_needs.proofs.search.search_points.Given as goal

abbrev pub invariant-loop-step : goal.invariant-loop-step
invariant-loop-step l = record {
  all : l.count ≡ length l.«module».entry_points;
  searched : IsSearched l.«module» l.known (length l.search.begun.items) (l.count - l.step) l.search;
}
