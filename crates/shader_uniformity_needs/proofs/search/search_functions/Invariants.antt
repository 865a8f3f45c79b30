use Rattle.std.proofs.Common.{length}
use Rattle.shader_uniformity_needs.specs.Search.{IsSearched}
use Rattle.shader_uniformity_needs.proofs.search.search_functions.Given as goal

abbrev pub invariant-loop-firsts : goal.invariant-loop-firsts
invariant-loop-firsts l = IsSearched l.«module» l.known (length l.search.begun.items) 0 l.search

abbrev pub decreases-loop-firsts : goal.decreases-loop-firsts
decreases-loop-firsts l = length l.search.begun.items
