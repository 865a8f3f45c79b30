-- Types without a layout, and types for whose layout memory ran out.
use Rattle.std.proofs.Common.{◌≡◌, sym, subst, List, [], Some, length}
use Rattle.shader_analysis.specs.Validity.{HasLayoutFault, HasLayoutUpTo}
use Rattle.shader_analysis_spec.specs.Program.{Module}
use Rattle.shader_ir.specs.Layout.{AreFaultless, IsRefusalAt, fault_at}
use Rattle.shader_ir.specs.declared.«module».GlobalCtx.{GlobalCtx}
use Rattle.shader_ir.specs.declared.proc.layouter.LayoutError.{LayoutError}
use Rattle.shader_ir.specs.declared.proc.layouter.TypeLayout.{TypeLayout}
use Rattle.shader_ir.specs.declared.proc.layouter.UpdateError.TheVariants.{Layout, OutOfMemory}
use Rattle.shader_resolve.specs.ContextLaws.{IsCtxOf}

module _ (m : Module) (ctx : GlobalCtx) (of : IsCtxOf m ctx) (old new : List TypeLayout) (none : old ≡ [])
    (faultless : AreFaultless ctx (length old) (length new)) where
  before : AreFaultless ctx 0 (length new)
  before = subst (λ (v : List TypeLayout). AreFaultless ctx (length v) (length new)) none faultless

  -- an update from nothing that refuses a type refuses the first without a layout
  pub layout_fault : (error : LayoutError) → IsRefusalAt ctx (length new) (Layout error) → HasLayoutFault m error
  layout_fault error refused = record {
    ctx = ctx;
    of = of;
    earlier = subst (AreFaultless ctx 0) (sym refused.0) before;
    fault = subst (λ v. fault_at ctx v ≡ Some (Some error.inner)) (sym refused.0) refused.1;
  }

  -- one that runs out of memory does so at a type with a layout, and those before it have one
  pub layout_up_to : IsRefusalAt ctx (length new) OutOfMemory → HasLayoutUpTo m (length new)
  layout_up_to refused = record { ctx = ctx; of = of; earlier = before; itself = refused }
