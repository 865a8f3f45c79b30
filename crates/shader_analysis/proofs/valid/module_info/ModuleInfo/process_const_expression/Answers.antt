use Rattle.std.proofs.Common.{◌≡◌, rules, subst}
use Rattle.shader_analysis.proofs.PositionLemmas.{passed_on}
use Rattle.shader_analysis.proofs.TypedLemmas.{unstored}
use Rattle.shader_analysis.proofs.valid.module_info.ModuleInfo.process_const_expression.Goals as goal
use Rattle.shader_analysis.specs.AddedTypes.{IsNextType}

pub returns-in_err-add_type-clause-refused : goal.returns-in_err-add_type-clause-refused
returns-in_err-add_type-clause-refused c =
    let same : c.as_slice-types.result.now ≡ c.args.self.now.global_expressions = search rules in
    let next = subst (λ v. IsNextType c.args.resolve_context.now c.args.gctx.global_expressions.now v c.in_ok-ty.ty) same
    c.in_ok-ty.ensures.next in
    passed_on _ c.from_residual-in_err-add_type.result c.from_residual-in_err-add_type.ensures.1
    (unstored c.args.resolve_context.now c.args.gctx.global_expressions.now c.args.self.now.global_expressions c.in_ok-ty.ty next _
    c.in_err-add_type.ensures.memory)
