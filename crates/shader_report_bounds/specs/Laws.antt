-- The accesses of the report and those that need a check.
use Rattle.std.specs.Prelude.{◌≡◌, ◌↔◌, ℕ, Contains}
use Rattle.shader_analysis_spec.specs.Program.{Expression, Function, Module, IsExpressionAt}
use Rattle.shader_bounds.specs.Checked.{AccessNeedsCheck}
use Rattle.shader_bounds.specs.Laws.{RecordsDerived}
use Rattle.shader_bounds.specs.Lengths.{AreSizesKnown}
use Rattle.shader_bounds.specs.Typed.{Records}
use Rattle.shader_bounds.specs.declared.policies.BoundsCheckPolicies.{BoundsCheckPolicies}
use Rattle.shader_info.specs.declared.info.FunctionInfo.{FunctionInfo}
use Rattle.shader_report_bounds.specs.Accesses.{accesses_of}
use Rattle.shader_report_bounds.specs.declared.accesses.AccessCheck.{AccessCheck}

-- an expression is among the accesses of the report
abbrev pub IsReported : Module → Function → FunctionInfo → BoundsCheckPolicies → ℕ → Type 0
IsReported m f info policies e = (check : AccessCheck) × Contains (accesses_of m f info policies) check × (check.access ≡ e)

-- by derivable types and known sizes these are the accesses that need a check
abbrev pub AccessesAreThoseChecked : Type 0
AccessesAreThoseChecked = (m : Module) (f : Function) (info : FunctionInfo) (policies : BoundsCheckPolicies) → RecordsDerived m f info →
    AreSizesKnown m → (e : ℕ) (x : Expression) → IsExpressionAt f e x →
    IsReported m f info policies e ↔ AccessNeedsCheck m f (Records info) x
