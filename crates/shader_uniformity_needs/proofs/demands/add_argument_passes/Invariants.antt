use Rattle.std.proofs.Common.{◌≡◌, ◌++◌, drop, map}
use Rattle.shader_uniformity.specs.Fault.{arguments_from}
use Rattle.shader_uniformity_needs.specs.Passes.{pass}
use Rattle.shader_uniformity_needs.proofs.demands.add_argument_passes.Given as goal

abbrev pub invariant-loop-argument : goal.invariant-loop-argument
invariant-loop-argument l =
    l.passes.items ++ map (pass l.site.places.now l.site.position l.site.around l.site.arguments.now l.site.result l.function)
    (arguments_from l.index (drop l._argument-index l.arguments))
    ≡ l.fn.passes.items ++ map (pass l.site.places.now l.site.position l.site.around l.site.arguments.now l.site.result l.function)
    (arguments_from 0 l.arguments)
