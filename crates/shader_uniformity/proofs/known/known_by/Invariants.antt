use Rattle.std.proofs.Common.{take}
use Rattle.shader_uniformity.specs.Fault.{IsKnown}
use Rattle.shader_uniformity.proofs.known.known_by.Given as goal

abbrev pub invariant-loop-first : goal.invariant-loop-first
invariant-loop-first l = IsKnown (take l.first-index l.firsts) l.lasts l.rules l.known.items
