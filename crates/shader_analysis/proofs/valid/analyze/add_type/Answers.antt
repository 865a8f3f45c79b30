use Rattle.std.proofs.Common.{arith, subst, sym}
use Rattle.shader_analysis_spec.specs.Faults.{IsFirstFault, OfGlobalExpression}
use Rattle.shader_passes.specs.Causes.{IsNamed}
use Rattle.shader_analysis.proofs.TypedLemmas.{added_type, expression_reached, refused_type}
use Rattle.shader_analysis.specs.Processed.{site_of}
use Rattle.shader_analysis.specs.Reached.{IsReached}
use Rattle.shader_analysis.proofs.valid.analyze.add_type.Goals as goal

pub returns-in-Ok-clause-found : goal.returns-in-Ok-clause-found
returns-in-Ok-clause-found c =
    (added_type c.args.module.now c.requires.well_formed c.args.context.now c.to_ctx.result.global_expressions.now c.requires.context
    c.to_ctx.ensures.global_expressions
    c.args.info.now c.process_const_expression.new.self c.requires.found (omega (arith, c.requires.next, c.requires.there))
    c.in-Ok.ensures.ok).2

pub returns-in-Err-clause-reached : goal.returns-in-Err-clause-reached
returns-in-Err-clause-reached c = λ settings.
    subst (λ v. IsReached c.args.module.now settings (site_of v)) (sym c.type_error.ensures.place)
    (expression_reached c.args.module.now c.requires.well_formed c.args.info.now.global_expressions c.requires.found settings c.args.handle
    c.requires.next c.requires.there)

pub returns-in-Err-clause-refused : goal.returns-in-Err-clause-refused
returns-in-Err-clause-refused c = λ settings.
    subst (λ v. IsNamed (IsFirstFault c.args.module.now settings (site_of v)) c.type_error.result.cause) (sym c.type_error.ensures.place)
    (subst (λ v. IsNamed (IsFirstFault c.args.module.now settings (OfGlobalExpression c.args.handle)) v) (sym c.type_error.ensures.cause)
    (refused_type c.args.module.now c.requires.well_formed c.args.context.now c.to_ctx.result.global_expressions.now c.requires.context
    c.to_ctx.ensures.global_expressions
    c.args.info.now.global_expressions c.requires.found settings c.args.handle c.requires.next c.in-Err.failure c.in-Err.ensures.refused))
