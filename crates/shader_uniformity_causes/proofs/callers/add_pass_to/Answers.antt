use Rattle.shader_uniformity_causes.proofs.PassLemmas.{adds_within}
use Rattle.shader_uniformity_causes.proofs.callers.add_pass_to.Goals as goal

pub returns-in_ok-add_pass : goal.returns-in_ok-add_pass
returns-in_ok-add_pass c =
    adds_within c.args.callers.now.items c.args.limit c.args.by.now c.index-function.result c.index_mut.result.now c.add_pass.new.calls
    c.index-function.ensures.position c.if-function-limit.true c.requires c.index_mut.ensures.value c.in_ok-add_pass.ensures
