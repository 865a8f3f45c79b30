use Rattle.std.proofs.Common.{◌≡◌, ◌++◌, drop}
use Rattle.std.specs.List.{flat_map}
use Rattle.shader_uniformity_causes.specs.Origins.{origin}
use Rattle.shader_uniformity_causes.proofs.origins.add_known.Given as goal

abbrev pub invariant-loop-implication : goal.invariant-loop-implication
invariant-loop-implication l =
    l.origins.items ++ flat_map (origin l.site.places.now l.site.position l.site.around l.site.arguments.now l.site.result l.rule
    l.function) (drop l.implication-index l.known)
    ≡ l.fn.origins.items ++ flat_map (origin l.site.places.now l.site.position l.site.around l.site.arguments.now l.site.result l.rule
    l.function) l.known
