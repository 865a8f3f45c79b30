-- The diagnostics of a module.
use Rattle.std.specs.Prelude.{◌≡◌, ◌↔◌, Bool, true, List, [], ◌∷◌, ◌++◌, Option, Some, None, Result, Ok, Err, option_to_list, ⊤}
use Rattle.std.specs.List.{Contains}
use Rattle.shader_analysis_spec.specs.Faults.{Settings}
use Rattle.shader_info.specs.declared.error.AnalysisError.{AnalysisError}
use Rattle.shader_ir.specs.declared.module.Module.{Module}
use Rattle.shader_uniformity.specs.declared.divergence.Uniformity.{Uniformity}
use Rattle.shader_uniformity.specs.declared.facts.BodyLocation.{BodyLocation}
use Rattle.shader_uniformity.specs.declared.facts.Rule.{Rule}
use Rattle.shader_uniformity_needs.specs.Violations.{IsViolated}
use Rattle.shader_uniformity_needs.specs.declared.needs.Violation.{Violation}
use Rattle.report_model.specs.Analyzed.{IsAnalyzed, is_accepted}
use Rattle.report_model.specs.declared.analyzed.Analysis.{Analysis}
use Rattle.report_model.specs.declared.analyzed.Analyzed.{Analyzed}
use Rattle.report_model.specs.declared.analyzed.Analyzed.TheVariants.{Fault, WellFormed}
use Rattle.report_findings.specs.Flow.{IsFlowDiagnostic}
use Rattle.report_findings.specs.ModuleFaults.{IsFaultDiagnostic}
use Rattle.report_findings.specs.Refusals.{IsLayoutDiagnostic, IsRefusalDiagnostic}
use Rattle.report_diagnostics.specs.declared.diagnostic.Diagnostic.{Diagnostic}

-- one diagnostic of each, in the same order
abbrev pub AreOfEach : {A : Type 0} → (IsOf : A → Diagnostic → Type 0) → List A → List Diagnostic → Type 0
AreOfEach IsOf [] [] = ⊤
AreOfEach IsOf (x ∷ xs) (diagnostic ∷ rest) = IsOf x diagnostic × AreOfEach IsOf xs rest
AreOfEach IsOf _ _ = ⊥

-- one diagnostic of each is added
pub record AddsEach {A : Type 0} (IsOf : A → Diagnostic → Type 0) (xs : List A) (old new : List Diagnostic) : Type 0 where
  pub added : List Diagnostic
  pub all : new ≡ old ++ added
  pub each : AreOfEach IsOf xs added

abbrev pub refusal_list : {A : Type 0} → Result A AnalysisError → List AnalysisError
refusal_list (Ok info) = []
refusal_list (Err refusal) = refusal ∷ []

module _ (m : Module) where
  -- one for each violated need, where the functions are known by these rules
  pub record AddsViolations (known : List (List Rule)) (old new : List Diagnostic) : Type 0 where
    pub violations : List Violation
    pub violated : (violation : Violation) → Contains violations violation ↔ IsViolated m known violation
    pub each : AddsEach (IsFlowDiagnostic m) violations old new

  abbrev pub AddsFaulty : List (List Rule) → Option BodyLocation → List Diagnostic → List Diagnostic → Type 0
  AddsFaulty known (Some place) old new = AddsViolations known old new
  AddsFaulty known None old new = new ≡ old

  -- none if control flow is accepted, or isn't checked
  abbrev pub AddsFlow : Option Uniformity → List Diagnostic → List Diagnostic → Type 0
  AddsFlow (Some found) old new = AddsFaulty found.functions found.fault old new
  AddsFlow None old new = new ≡ old

  -- those of a type without a layout, of a refused expression, and of violated needs, in this order
  pub record AreAnalysisDiagnostics (analysis : Analysis) (diagnostics : List Diagnostic) : Type 0 where
    pub after_layout : List Diagnostic
    pub layout : AddsEach IsLayoutDiagnostic (option_to_list analysis.layout_error) [] after_layout
    pub after_refusal : List Diagnostic
    pub refusal : AddsEach (IsRefusalDiagnostic m) (refusal_list analysis.info) after_layout after_refusal
    pub flow : AddsFlow analysis.uniformity after_refusal diagnostics

  -- a module that isn't well formed has one, of its fault
  abbrev pub AreDiagnostics : Analyzed → List Diagnostic → Type 0
  AreDiagnostics (Fault found) diagnostics = AddsEach (IsFaultDiagnostic m) (found ∷ []) [] diagnostics
  AreDiagnostics (WellFormed analysis) diagnostics = AreAnalysisDiagnostics analysis diagnostics

  -- an accepted module has none
  abbrev pub HasNoneIfAccepted : Analyzed → List Diagnostic → Type 0
  HasNoneIfAccepted found diagnostics =
      (settings : Settings) (checks : Bool) → IsAnalyzed m settings checks found → is_accepted found ≡ true → diagnostics ≡ []
