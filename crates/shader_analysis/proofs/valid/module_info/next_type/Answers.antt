use Rattle.std.proofs.Common.{◌≡◌, Some, slice_get, subst}
use Rattle.shader_resolve.specs.DerivesByRule.{memory_of}
use Rattle.shader_analysis.proofs.TypedLemmas.{is_next, is_refusal}
use Rattle.shader_analysis.proofs.valid.module_info.next_type.Goals as goal

pub returns-clause-next : goal.returns-clause-next
returns-clause-next c =
    let is = subst (λ v. slice_get c.args.gctx.now.global_expressions.now v ≡ Some c.index-expression.result.now) c.requires.next
    c.index-expression.ensures in
    is_next c.args.resolve_context.now c.args.gctx.now.global_expressions.now c.args.types.now c.index-expression.result.now is
    (memory_of c.index-expression.result.now) c.type_of.result c.type_of.ensures.by_rule
    (c.type_of.ensures.reported c.args.gctx.now.global_expressions.now is) c.type_of.ensures.fits

pub returns-clause-refused : goal.returns-clause-refused
returns-clause-refused c =
    let is = subst (λ v. slice_get c.args.gctx.now.global_expressions.now v ≡ Some c.index-expression.result.now) c.requires.next
    c.index-expression.ensures in
    is_refusal c.args.resolve_context.now c.args.gctx.now.global_expressions.now c.args.types.now c.index-expression.result.now is
    c.type_of.result (c.type_of.ensures.reported c.args.gctx.now.global_expressions.now is)
