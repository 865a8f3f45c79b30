use Rattle.shader_resolve.specs.DerivesByRule.{memory_of}
use Rattle.shader_resolve.proofs.GivenLemmas.{given_fits, given_in_range}
use Rattle.shader_resolve.proofs.DerivationLemmas.{resolved-key}
use Rattle.shader_resolve.proofs.context.ResolveContext.resolve.Goals as goal

pub returns-clause-key : goal.returns-clause-key
returns-clause-key g c = resolved-key c.args.self.now c.args.expr.now (memory_of c.args.expr.now) _ c.resolve_by_rule.result
    c.resolve_by_rule.ensures

pub returns-clause-in_range : goal.returns-clause-in_range
returns-clause-in_range g c =
    λ stored. given_in_range c.args.self.now c.args.expr.now c.requires.in_range c.requires.backward stored
    (memory_of c.args.expr.now) _ c.resolve_by_rule.result c.requires.reported_in_range c.resolve_by_rule.ensures

pub returns-clause-fits : goal.returns-clause-fits
returns-clause-fits g c =
    λ fit stored. given_fits c.args.self.now c.args.expr.now c.requires.in_range c.requires.backward stored
    (memory_of c.args.expr.now) _ c.resolve_by_rule.result c.requires.reported_in_range c.resolve_by_rule.ensures fit
