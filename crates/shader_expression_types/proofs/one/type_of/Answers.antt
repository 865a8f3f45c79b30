use Rattle.std.proofs.Common.{rules, refl, length}
use Rattle.shader_expression_types.proofs.TypedLemmas.{is_reported}
use Rattle.shader_resolve.proofs.StoredLemmas.{may_query, outcome_of, reported_fits, reported_in_range}
use Rattle.shader_resolve.specs.DerivesByRule.{memory_of}
use Rattle.shader_expression_types.proofs.one.type_of.Goals as goal

pub resolve-requires : goal.resolve-requires
resolve-requires c κs = (
  (refl, tt),
  (
    c.requires.backward,
    (
      c.requires.names,
      (
        may_query c.args.context.now c.args.expression.now c.args.types.now c.requires.operands _ (λ operand lt. search rules),
        reported_in_range c.args.context.now c.args.expression.now c.args.types.now c.requires.operands c.requires.fit _
            (λ operand reported post. search rules),
      ),
    ),
  ),
)

pub returns-clause-reported : goal.returns-clause-reported
returns-clause-reported c = λ expressions is first.
    is_reported c.args.context.now expressions c.args.types.now first (length c.args.types.now) c.args.expression.now is c.requires.operands
    (memory_of c.args.expression.now) c.requires.fit
    _ (λ operand reported post. search rules) c.resolve.result c.resolve.ensures.follows

pub returns-clause-by_rule : goal.returns-clause-by_rule
returns-clause-by_rule c =
    outcome_of c.args.context.now c.args.expression.now c.args.types.now c.requires.operands c.requires.fit _
    c.resolve.result c.resolve.ensures.follows (λ operand reported post. search rules)

pub returns-clause-fits : goal.returns-clause-fits
returns-clause-fits c = λ stored.
    c.resolve.ensures.fits (reported_fits c.args.context.now c.args.expression.now c.args.types.now c.requires.operands c.requires.fit _
    (λ operand reported post. search rules)) stored
