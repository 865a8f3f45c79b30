use Rattle.shader_uniformity.specs.Ways.{Searches}
use Rattle.shader_uniformity.proofs.ways.shortest_trace.Given as goal

abbrev pub invariant-loop-index : goal.invariant-loop-index
invariant-loop-index l = Searches l.rules l.first l.last l.cells.items l.index l.search
