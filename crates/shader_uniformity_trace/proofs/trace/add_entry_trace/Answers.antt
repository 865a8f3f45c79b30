use Rattle.std.proofs.Common.{refl}
use Rattle.shader_uniformity_trace.specs.declared.link.FunctionLocation.TheVariants as location
use Rattle.shader_uniformity_trace.proofs.TraceLemmas.{one_more_trace}
use Rattle.shader_uniformity_trace.proofs.trace.add_entry_trace.Goals as goal

pub returns : goal.returns
returns c =
    one_more_trace c.args.module.now (λ i. location.EntryPoint i) c.args.index c.args.index c.args.traces.now.items c.push.new.self.items
    c.in_ok-trace.trace c.requires.traces refl c.in_ok-trace.ensures c.in_ok-push.ensures.items
