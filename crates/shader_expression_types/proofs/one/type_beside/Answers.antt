use Rattle.std.proofs.Common.{◌≡◌, ◌<◌, Some, rules, refl, length, slice_get, subst, sym}
use Rattle.std.proofs.lemmas.List.{length-map}
use Rattle.shader_expression_types.proofs.TypedLemmas.{is_reported}
use Rattle.shader_expression_types.specs.Typed.{IsResultOf}
use Rattle.shader_info.specs.declared.info.ExpressionInfo.{ExpressionInfo}
use Rattle.shader_passes.specs.Records.{types_in}
use Rattle.shader_resolve.proofs.StoredLemmas.{may_query, reported_fits, reported_in_range}
use Rattle.shader_resolve.specs.DerivesByRule.{memory_of}
use Rattle.shader_resolve.specs.WellFormed.{OperandsBelow}
use Rattle.shader_expression_types.proofs.one.type_beside.Goals as goal

-- there are as many types as records
long : (records : _) → length records ≡ length (types_in records)
long records = sym (length-map records (λ (found : ExpressionInfo). found.ty))

pub resolve-requires : goal.resolve-requires
resolve-requires c κs =
    let records = c.args.records.now in
    let below = subst (λ v. OperandsBelow v c.args.expression.now) (long records) c.requires.operands in (
      (refl, tt),
      (
        c.requires.backward,
        (
          c.requires.names,
          (
            may_query c.args.resolve_context.now c.args.expression.now (types_in records) below _ (λ operand lt. subst (λ v. operand < v) (sym (long records)) lt),
            reported_in_range c.args.resolve_context.now c.args.expression.now (types_in records) below c.requires.fit _
                (λ operand reported post. search rules),
          ),
        ),
      ),
    )

pub returns-clause-reported : goal.returns-clause-reported
returns-clause-reported c = λ expressions is first.
    let records = c.args.records.now in
    let types = types_in records in
    let at = subst (λ v. slice_get expressions v ≡ Some c.args.expression.now) (long records) is in
    let below = subst (λ v. OperandsBelow v c.args.expression.now) (long records) c.requires.operands in
    subst (λ v. IsResultOf c.args.resolve_context.now expressions v (memory_of c.args.expression.now) c.resolve.result) (sym (long records))
    (is_reported c.args.resolve_context.now expressions types first (length types) c.args.expression.now at below
    (memory_of c.args.expression.now) c.requires.fit
    _ (λ operand reported post. search rules) c.resolve.result c.resolve.ensures.follows)

pub returns-clause-fits : goal.returns-clause-fits
returns-clause-fits c = λ stored.
    let records = c.args.records.now in
    c.resolve.ensures.fits (reported_fits c.args.resolve_context.now c.args.expression.now (types_in records)
    (subst (λ v. OperandsBelow v c.args.expression.now) (long records) c.requires.operands) c.requires.fit _
    (λ operand reported post. search rules)) stored
