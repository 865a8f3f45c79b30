use Rattle.std.proofs.Common.{◌≡◌, ◌++◌, drop}
use Rattle.std.specs.List.{flat_map}
use Rattle.shader_uniformity.specs.Calls.{filled}
use Rattle.shader_uniformity.proofs.calls.add_filled.Given as goal

abbrev pub invariant-loop-rule : goal.invariant-loop-rule
invariant-loop-rule l =
    l.rules.items ++ flat_map (filled l.site.places.now l.site.position l.site.around l.site.arguments.now l.site.result)
    (drop l.rule-index l.known)
    ≡ l.fn.rules.items ++ flat_map (filled l.site.places.now l.site.position l.site.around l.site.arguments.now l.site.result) l.known
