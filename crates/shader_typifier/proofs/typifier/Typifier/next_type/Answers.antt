use Rattle.std.proofs.Common.{rules, refl, subst, inl, inr}
use Rattle.shader_resolve.specs.DerivesByRule.{memory_of}
use Rattle.shader_resolve.specs.TypingRules.{typing_rule}
use Rattle.shader_resolve.proofs.StoredLemmas.{given_at, may_query, outcome_of, reported_in_range}
use Rattle.shader_resolve.specs.Stored.{IsOutcomeOf}
use Rattle.shader_typifier.proofs.typifier.Typifier.next_type.Goals as goal

pub resolve-resolved-requires : goal.resolve-resolved-requires
resolve-resolved-requires c κs = (
  (refl, tt),
  (
    c.requires.backward,
    (
      search rules,
      (
        may_query c.args.context.now c.args.expression.now c.args.self.now (search rules) _ (λ operand lt. search rules),
        reported_in_range c.args.context.now c.args.expression.now c.args.self.now (search rules) c.requires.fit _
            (λ operand reported post. search rules),
      ),
    ),
  ),
)

pub returns-in-Err-clause-refused : goal.returns-in-Err-clause-refused
returns-in-Err-clause-refused c =
    let queries = typing_rule c.args.context.now c.args.expression.now in
    let memory = memory_of c.args.expression.now in
    inl (subst (IsOutcomeOf c.args.self.now memory queries) c.in-Err.is
    (outcome_of c.args.context.now c.args.expression.now c.args.self.now (search rules) c.requires.fit _
    c.resolve-resolved.result c.resolve-resolved.ensures.follows (λ operand reported post. search rules)))

pub returns-then-fits-clause-typed : goal.returns-then-fits-clause-typed
returns-then-fits-clause-typed c =
    let queries = typing_rule c.args.context.now c.args.expression.now in
    let memory = memory_of c.args.expression.now in
    record {
      names = search rules;
      operands = search rules;
      reported = given_at c.args.self.now memory queries c.in-Ok.resolution
          (subst (IsOutcomeOf c.args.self.now memory queries) c.in-Ok.is
          (outcome_of c.args.context.now c.args.expression.now c.args.self.now (search rules) c.requires.fit _
          c.resolve-resolved.result c.resolve-resolved.ensures.follows (λ operand reported post. search rules)));
      fits = search rules;
    }

pub returns-else-fits-clause-refused : goal.returns-else-fits-clause-refused
returns-else-fits-clause-refused c =
    let queries = typing_rule c.args.context.now c.args.expression.now in
    let memory = memory_of c.args.expression.now in
    inr (record {
      resolution = c.in-Ok.resolution;
      reported = given_at c.args.self.now memory queries c.in-Ok.resolution
          (subst (IsOutcomeOf c.args.self.now memory queries) c.in-Ok.is
          (outcome_of c.args.context.now c.args.expression.now c.args.self.now (search rules) c.requires.fit _
          c.resolve-resolved.result c.resolve-resolved.ensures.follows (λ operand reported post. search rules)));
      unfit = λ fits. search rules;
    })
