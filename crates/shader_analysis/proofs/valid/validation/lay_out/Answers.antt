use Rattle.std.proofs.Common.{length, subst}
use Rattle.shader_analysis.proofs.LayoutLemmas.{layout_up_to}
use Rattle.shader_analysis.specs.Validity.{for_layout}
use Rattle.shader_ir.specs.Layout.{IsRefusalAt}
use Rattle.shader_resolve.specs.ContextLaws.{IsCtxOf}
use Rattle.shader_analysis.proofs.valid.validation.lay_out.Goals as goal

pub returns-clause-refused : goal.returns-clause-refused
returns-clause-refused c = λ settings.
    let of : IsCtxOf c.args.module.now c.to_ctx.result = record {
      types = c.to_ctx.ensures.types;
      constants = c.to_ctx.ensures.constants;
      overrides = c.to_ctx.ensures.overrides;
      global_expressions = c.to_ctx.ensures.global_expressions;
    } in (
      c.requires,
      for_layout (length c.update.new.self) (layout_up_to c.args.module.now c.to_ctx.result of c.new-layouts.result c.update.new.self
          c.new-layouts.ensures c.update.ensures.faultless
          (subst (IsRefusalAt c.to_ctx.result (length c.update.new.self)) c.in-Err-OutOfMemory.field-0-is c.in-Err-OutOfMemory.ensures.refused)),
    )
