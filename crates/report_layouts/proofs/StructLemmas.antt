-- The texts on types, and that on one type more.
use Rattle.std.proofs.Common.{◌≡◌, ℕ, ◌+◌, ◌++◌, Bool, List, add-one, slice_get}
use Rattle.shader_ir.specs.declared.«module».Module.{Module}
use Rattle.shader_ir.specs.declared.proc.layouter.TypeLayout.{TypeLayout}
use Rattle.report_layouts.specs.Structs.{AreStructs, IsOnType}

pub one_more : (m : Module) (layouts : List TypeLayout) (is_drawn : Bool) (ty : ℕ) (before own text : List ℕ)
    → AreStructs m layouts is_drawn ty before → IsOnType m layouts is_drawn ty (slice_get m.types ty) own → text ≡ before ++ own
    → AreStructs m layouts is_drawn (ty + 1) text
one_more m layouts is_drawn ty before own text are is printed = rw add-one (before, own, are, is, printed)
