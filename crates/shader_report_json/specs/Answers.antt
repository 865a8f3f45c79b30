-- The report on a module as members of a JSON object.
use Rattle.std.specs.Prelude.{◌≡◌, ◌∷◌, ◌++◌, ℕ, All, List, [], Option, Some, None, Result, Ok, Err, codes, flat_map, map}
use Rattle.json.specs.Token.{Token, key}
use Rattle.report_json.specs.declared.functions.FunctionAnswer.{FunctionAnswer}
use Rattle.report_json.specs.Functions.{answer_tokens}
use Rattle.report_json.specs.Layouts.{layout_error_tokens, layout_tokens}
use Rattle.report_json.specs.Refusals.{fault_name, refusal_tokens}
use Rattle.report_json.specs.Tokens.{array, object, text_tokens}
use Rattle.report_json.specs.Types.{resolution_tokens}
use Rattle.report_model.specs.declared.analyzed.Analysis.{Analysis}
use Rattle.report_model.specs.declared.analyzed.Analyzed.{Analyzed}
use Rattle.report_model.specs.declared.analyzed.Analyzed.TheVariants.{Fault, WellFormed}
use Rattle.shader_analysis.specs.Recorded.{Recorded}
use Rattle.shader_info.specs.declared.error.AnalysisError.{AnalysisError}
use Rattle.shader_info.specs.declared.info.FunctionInfo.{FunctionInfo}
use Rattle.shader_ir.specs.declared.proc.layouter.LayoutError.{LayoutError}
use Rattle.shader_ir.specs.declared.proc.layouter.TypeLayout.{TypeLayout}
use Rattle.shader_ir.specs.declared.proc.type_resolution.TypeResolution.{TypeResolution}
use Rattle.shader_report_json.specs.Sorted.{IsFunctionAnswer}

-- ---- the results of the analysis

-- the report on one info is added
pub record AddsAnswer (info : FunctionInfo) (old new : List FunctionAnswer) : Type 0 where
  pub answer : FunctionAnswer
  pub of : answer.info.now ≡ info
  pub reported : IsFunctionAnswer answer
  pub added : new ≡ old ++ answer ∷ []

-- the reports are those on these infos, in order
pub record AreAnswersOf (infos : List FunctionInfo) (answers : List FunctionAnswer) : Type 0 where
  pub of : map (λ (answer : FunctionAnswer). answer.info.now) answers ≡ infos
  pub each : All IsFunctionAnswer answers

abbrev pub info_tokens : List FunctionAnswer → List FunctionAnswer → List TypeResolution → List Token
info_tokens functions entry_points types =
    key (codes "info") ∷ object (key (codes "functions") ∷ (array (flat_map answer_tokens functions)
    ++ key (codes "entry_points") ∷ (array (flat_map answer_tokens entry_points)
    ++ key (codes "const_expression_types") ∷ array (flat_map resolution_tokens types))))

pub record AreInfoTokens (infos : Recorded) (tokens : List Token) : Type 0 where
  pub functions : List FunctionAnswer
  pub entry_points : List FunctionAnswer
  pub functions_are : AreAnswersOf infos.functions functions
  pub entry_points_are : AreAnswersOf infos.entry_points entry_points
  pub written : tokens ≡ info_tokens functions entry_points infos.global_expressions

-- the results of the analysis, or the fault that it found
abbrev pub AreInfoMembers : Result Recorded AnalysisError → List Token → Type 0
AreInfoMembers (Ok infos) tokens = AreInfoTokens infos tokens
AreInfoMembers (Err error) tokens = tokens ≡ key (codes "refused") ∷ refusal_tokens error

-- ---- the report on a module

-- the layouts of all types, or the first type without one
abbrev pub layouts_members : List TypeLayout → Option LayoutError → List Token
layouts_members layouts None = key (codes "layouts") ∷ array (flat_map layout_tokens layouts)
layouts_members layouts (Some error) = key (codes "layout_error") ∷ layout_error_tokens error

-- the layouts and the results of the analysis
pub record AreAnalysisMembers (analysis : Analysis) (tokens : List Token) : Type 0 where
  pub info : List Token
  pub info_are : AreInfoMembers analysis.info info
  pub written : tokens ≡ layouts_members analysis.layouts analysis.layout_error ++ info

abbrev pub AreModuleMembers : Analyzed → List Token → Type 0
AreModuleMembers (Fault found) tokens = tokens ≡ key (codes "fault") ∷ text_tokens (fault_name found.fault)
AreModuleMembers (WellFormed analysis) tokens = AreAnalysisMembers analysis tokens

-- ---- the names of the members

abbrev pub layouts_name : Option LayoutError → List ℕ
layouts_name None = codes "layouts"
layouts_name (Some error) = codes "layout_error"

abbrev pub info_name : Result Recorded AnalysisError → List ℕ
info_name (Ok infos) = codes "info"
info_name (Err error) = codes "refused"

abbrev pub module_names : Analyzed → List (List ℕ)
module_names (Fault found) = codes "fault" ∷ []
module_names (WellFormed analysis) = layouts_name analysis.layout_error ∷ info_name analysis.info ∷ []
