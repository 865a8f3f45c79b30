use Rattle.shader_typing.proofs.Answering.{samples}
use Rattle.shader_uses.proofs.analyzed.samples.Goals as goal

pub returns : goal.returns
returns c = λ f at.
    let means = samples c.args.module.now c.args.info.now c.args.function f c.index.result.now c.requires.exact at c.index.ensures
    c.args.image c.args.sampler in
    let recorded = c.has_sampling_key.ensures in
    (λ h. means.0 (recorded.0 h), λ pair. recorded.1 (means.1 pair))
