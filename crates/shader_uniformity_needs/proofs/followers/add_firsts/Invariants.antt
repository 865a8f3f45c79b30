use Rattle.std.proofs.Common.{◌≡◌, ◌++◌, drop, map}
use Rattle.shader_uniformity.specs.Marks.{leads}
use Rattle.shader_uniformity.specs.declared.facts.Fact.TheVariants.{Always}
use Rattle.shader_uniformity_needs.proofs.followers.add_firsts.Given as goal

abbrev pub invariant-loop-first : goal.invariant-loop-first
invariant-loop-first l =
    l.rules.items ++ map (leads Always) (drop l.first-index l.firsts) ≡ l.fn.rules.items ++ map (leads Always) l.firsts
