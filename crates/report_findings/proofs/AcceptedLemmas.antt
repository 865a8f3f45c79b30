-- An accepted module has no diagnostics.
use Rattle.std.proofs.Common.{◌≡◌, ◌∙◌, Bool, true, false, ◌&&◌, List, [], ◌∷◌, ◌++◌, Option, Some, None, Result, Ok, Err, is_none}
use Rattle.std.specs.Prelude.{option_to_list}
use Rattle.std.proofs.lemmas.List.{append-nil}
use Rattle.shader_analysis.specs.Recorded.{Recorded}
use Rattle.shader_info.specs.declared.error.AnalysisError.{AnalysisError}
use Rattle.shader_ir.specs.declared.module.Module.{Module}
use Rattle.shader_ir.specs.declared.proc.layouter.LayoutError.{LayoutError}
use Rattle.shader_ir.specs.declared.proc.layouter.TypeLayout.{TypeLayout}
use Rattle.shader_uniformity.specs.declared.divergence.Uniformity.{Uniformity}
use Rattle.shader_uniformity.specs.declared.facts.BodyLocation.{BodyLocation}
use Rattle.shader_uniformity.specs.declared.facts.Rule.{Rule}
use Rattle.report_model.specs.Analyzed.{IsUniformityIf, is_accepted, is_sound}
use Rattle.report_model.specs.declared.analyzed.Analysis.{Analysis}
use Rattle.report_model.specs.declared.analyzed.Analyzed.{Analyzed}
use Rattle.report_model.specs.declared.analyzed.Analyzed.TheVariants.{Fault, WellFormed}
use Rattle.report_findings.specs.Collected.{AddsEach, AddsFaulty, AddsFlow, AreDiagnostics, AreOfEach, HasNoneIfAccepted, refusal_list}
use Rattle.report_findings.specs.Refusals.{IsLayoutDiagnostic, IsRefusalDiagnostic}
use Rattle.report_diagnostics.specs.declared.diagnostic.Diagnostic.{Diagnostic}

no_false : false ≡ true → ⊥
no_false is = cc

no_some : {A : Type 0} (x : A) → Some x ≡ None → ⊥
no_some x is = cc

added_none : {A : Type 0} (IsOf : A → Diagnostic → Type 0) (old new added : List Diagnostic) → new ≡ old ++ added →
    AreOfEach IsOf [] added → new ≡ old
added_none IsOf old new [] all each = all ∙ append-nil old
added_none IsOf old new (d ∷ ds) all each = absurd each

-- of nothing no diagnostic is added
none_more : {A : Type 0} (IsOf : A → Diagnostic → Type 0) (old new : List Diagnostic) → AddsEach IsOf [] old new → new ≡ old
none_more IsOf old new adds = added_none IsOf old new adds.added adds.all adds.each

module _ (m : Module) where
  no_flow : (known : List (List Rule)) (fault : Option BodyLocation) (old new : List Diagnostic) → is_none fault ≡ true →
      AddsFaulty m known fault old new → new ≡ old
  no_flow known None old new accepted flow = flow
  no_flow known (Some place) old new accepted flow = absurd (no_false accepted)

  -- control flow isn't decided where something else is at fault
  undecided : (checks : Bool) (found : Uniformity) → IsUniformityIf m (checks && false) (Some found) → ⊥
  undecided true found decided = no_some found decided
  undecided false found decided = no_some found decided

  abbrev made : List TypeLayout → Option LayoutError → Result Recorded AnalysisError → Option Uniformity → Analysis
  made layouts layout_error info uniformity =
      record { layouts = layouts; layout_error = layout_error; info = info; uniformity = uniformity }

  none_of : (checks : Bool) (layouts : List TypeLayout) (layout_error : Option LayoutError) (info : Result Recorded AnalysisError)
      (uniformity : Option Uniformity) (a b new : List Diagnostic) →
      IsUniformityIf m (checks && is_sound layout_error info) uniformity →
      is_accepted (WellFormed (made layouts layout_error info uniformity)) ≡ true →
      AddsEach IsLayoutDiagnostic (option_to_list layout_error) [] a →
      AddsEach (IsRefusalDiagnostic m) (refusal_list info) a b → AddsFlow m uniformity b new → new ≡ []
  none_of checks layouts None (Ok info) None a b new decided accepted layout refusal flow =
      flow ∙ none_more (IsRefusalDiagnostic m) a b refusal ∙ none_more IsLayoutDiagnostic [] a layout
  none_of checks layouts None (Ok info) (Some found) a b new decided accepted layout refusal flow =
      no_flow found.functions found.fault b new accepted flow
      ∙ none_more (IsRefusalDiagnostic m) a b refusal ∙ none_more IsLayoutDiagnostic [] a layout
  none_of checks layouts None (Err error) None a b new decided accepted layout refusal flow = absurd (no_false accepted)
  none_of checks layouts None (Err error) (Some found) a b new decided accepted layout refusal flow =
      absurd (undecided checks found decided)
  none_of checks layouts (Some error) info None a b new decided accepted layout refusal flow = absurd (no_false accepted)
  none_of checks layouts (Some error) info (Some found) a b new decided accepted layout refusal flow =
      absurd (undecided checks found decided)

pub accepted_none : (m : Module) (found : Analyzed) (diagnostics : List Diagnostic) → AreDiagnostics m found diagnostics →
    HasNoneIfAccepted m found diagnostics
accepted_none m (Fault found) diagnostics are = λ settings checks analyzed accepted. absurd (no_false accepted)
accepted_none m (WellFormed analysis) diagnostics are = λ settings checks analyzed accepted.
    none_of m checks analysis.layouts analysis.layout_error analysis.info analysis.uniformity are.after_layout are.after_refusal
    diagnostics analyzed.uniformity accepted are.layout are.refusal are.flow
