use Rattle.std.proofs.Common.{ap, sym, ◌∙◌}
use Rattle.shader_ir.specs.Key.{inner_of}
use Rattle.shader_ir.proofs.KeyLemmas.{inner_in_range}
use Rattle.shader_resolve.proofs.context.ResolveContext.inner.Goals as goal

pub returns-clause-points_below : goal.returns-clause-points_below
returns-clause-points_below c =
    let same = ap (λ context. context.types) c.self.view_is in
    let shape = ap (λ types. inner_of types c.args.resolution.now) (sym same) ∙ c.inner_with.ensures.inner in
    inner_in_range c.args.self.now.types c.requires.backward c.args.resolution.now c.inner_with.result.now shape c.requires.in_range
