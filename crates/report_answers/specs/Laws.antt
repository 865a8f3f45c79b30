-- Reports that agree: on one module, and on one text.
use Rattle.std.specs.Prelude.{◌≡◌, ◌≤◌, ◌↔◌, ◌∷◌, ◌++◌, ⊤, ℕ, Bool, true, false, List, [], Option, Some, None, Result, Ok, Err}
use Rattle.std.specs.Prelude.{codes, length, map}
use Rattle.std.specs.Option.{option_map}
use Rattle.std.specs.Str.{IsUtf8}
use Rattle.json.specs.Print.{print}
use Rattle.json.specs.Token.{Token, key}
use Rattle.report_diagnostics.specs.Heads.{head_members}
use Rattle.report_diagnostics.specs.declared.head.Verdict.TheVariants as heads
use Rattle.report_json.specs.Functions.{function_tokens}
use Rattle.report_json.specs.Tokens.{object}
use Rattle.report_json.specs.declared.functions.FunctionAnswer.{FunctionAnswer}
use Rattle.report_model.specs.Analyzed.{IsAnalyzed}
use Rattle.report_model.specs.declared.analyzed.Analysis.{Analysis}
use Rattle.report_model.specs.declared.analyzed.Analyzed.{Analyzed}
use Rattle.report_model.specs.declared.analyzed.Analyzed.TheVariants.{Fault, WellFormed}
use Rattle.shader_analysis.specs.Recorded.{Recorded}
use Rattle.shader_analysis_spec.specs.Faults.{Settings}
use Rattle.shader_analysis_spec.specs.Program.{Module}
use Rattle.shader_info.specs.Recorded.{IsSampled, IsSampledKey}
use Rattle.shader_info.specs.declared.error.AnalysisError.{AnalysisError}
use Rattle.shader_info.specs.declared.info.ExpressionInfo.{ExpressionInfo}
use Rattle.shader_info.specs.declared.info.FunctionInfo.{FunctionInfo}
use Rattle.shader_info.specs.declared.info.GlobalOrArgument.{GlobalOrArgument}
use Rattle.shader_info.specs.declared.info.Uniformity.{Uniformity}
use Rattle.shader_ir.specs.declared.proc.layouter.TypeLayout.{TypeLayout}
use Rattle.shader_ir.specs.declared.proc.type_resolution.TypeResolution.{TypeResolution}
use Rattle.shader_json_module.specs.Modules.{IsTextOf}
use Rattle.shader_json_reader.specs.Errors.{most_text_bytes}
use Rattle.shader_resolve.specs.Nesting.{NestsWithin}
use Rattle.shader_report_json.specs.Answers.{info_tokens, layouts_members}
use Rattle.report_answers.specs.Options.{bounds_of, checks_uniformity, settings}
use Rattle.report_answers.specs.Reports.{IsReport}
use Rattle.report_answers.specs.Verdicts.{verdict_tokens}
use Rattle.report_answers.specs.declared.options.Options.{Options}
use Rattle.report_answers.specs.declared.reports.Outcome.{Outcome}
use Rattle.report_answers.specs.declared.reports.Outcome.TheVariants.{Accepted, NotModule}

-- ---- what is found of one module

-- 0 for a named source, whichever it is
abbrev pub blank : Option ℕ → Option ℕ
blank (Some source) = Some 0
blank None = None

abbrev pub blank_uniformity : Uniformity → Uniformity
blank_uniformity uniformity = record uniformity { non_uniform_result = blank uniformity.non_uniform_result }

abbrev pub blank_expression : ExpressionInfo → ExpressionInfo
blank_expression info = record info { uniformity = blank_uniformity info.uniformity }

-- both infos record the same, except for which sources they name
pub record AgreeButForSources (info other : FunctionInfo) : Type 0 where
  pub stages : info.available_stages ≡ other.available_stages
  pub uniformity : blank_uniformity info.uniformity ≡ blank_uniformity other.uniformity
  pub may_kill : info.may_kill ≡ other.may_kill
  pub pairs : (image sampler : ℕ) → IsSampledKey info image sampler ↔ IsSampledKey other image sampler
  pub global_uses : info.global_uses ≡ other.global_uses
  pub expressions : map blank_expression info.expressions ≡ map blank_expression other.expressions
  pub sampling : (image sampler : GlobalOrArgument) → IsSampled info image sampler ↔ IsSampled other image sampler
  pub one_source : info.dual_source_blending ≡ other.dual_source_blending

-- and so do those of each function
abbrev pub AllAgree : List FunctionInfo → List FunctionInfo → Type 0
AllAgree [] [] = ⊤
AllAgree (info ∷ infos) (other ∷ others) = AgreeButForSources info other × AllAgree infos others
AllAgree _ _ = ⊥

pub record RecordsAgree (one other : Recorded) : Type 0 where
  pub functions : AllAgree one.functions other.functions
  pub entry_points : AllAgree one.entry_points other.entry_points
  pub types : one.global_expressions ≡ other.global_expressions

-- both are accepted, or both are refused at the same place
abbrev pub ResultsAgree : Result Recorded AnalysisError → Result Recorded AnalysisError → Type 0
ResultsAgree (Ok one) (Ok other) = RecordsAgree one other
ResultsAgree (Err one) (Err other) = one.place ≡ other.place
ResultsAgree _ _ = ⊥

pub record AnalysesAgree (one other : Analysis) : Type 0 where
  pub layout_error : one.layout_error ≡ other.layout_error
  pub layouts : one.layout_error ≡ None → one.layouts ≡ other.layouts
  pub info : ResultsAgree one.info other.info
  pub flow : option_map (λ found. found.fault) one.uniformity ≡ option_map (λ found. found.fault) other.uniformity

-- the same is found, except for which of several faults, causes or sources is named
abbrev pub FindingsAgree : Analyzed → Analyzed → Type 0
FindingsAgree (Fault one) (Fault other) = one.location ≡ other.location
FindingsAgree (WellFormed one) (WellFormed other) = AnalysesAgree one other
FindingsAgree _ _ = ⊥

-- whatever is found of a module with the same settings agrees
abbrev pub FindingsAreDetermined : Type 0
FindingsAreDetermined = (m : Module) (settings : Settings) (checks : Bool) (one other : Analyzed) →
    IsAnalyzed m settings checks one → IsAnalyzed m settings checks other → FindingsAgree one other

-- ---- reports on one text

-- both options make the same checks; their output may differ
pub record CheckTheSame (one other : Options) : Type 0 where
  pub settings_are : settings one ≡ settings other
  pub flow : checks_uniformity one ≡ checks_uniformity other

-- the text isn't too long
abbrev pub IsShort : List ℕ → Type 0
IsShort input = length input ≤ most_text_bytes

-- such a text has one outcome
abbrev pub OutcomeIsDetermined : Type 0
OutcomeIsDetermined = (input : List ℕ) → IsShort input →
    (options others : Options) → CheckTheSame options others → (one other : Outcome) (text second : List ℕ) →
    IsReport options input one text → IsReport others input other second → one ≡ other

-- where a module stands for it whose blocks don't nest too deep, it isn't reported as no module
abbrev pub ModulesAreNotRefused : Type 0
ModulesAreNotRefused = (input : List ℕ) → IsShort input → IsUtf8 input → (m : Module) → IsTextOf input m → NestsWithin 4000 m →
    (options : Options) (text : List ℕ) → IsReport options input NotModule text → ⊥

abbrev pub blank_info : FunctionInfo → FunctionInfo
blank_info info =
    record info { uniformity = blank_uniformity info.uniformity; expressions = map blank_expression info.expressions }

-- the tokens of the answer on a function, with 0 for each named source
abbrev pub blank_tokens : FunctionAnswer → List Token
blank_tokens answer = function_tokens (blank_info answer.info.now) answer.pairs answer.sampling

-- the verdict on uniform flow, if that is checked
abbrev pub accepted_flow : Bool → List Token
accepted_flow true = key (codes "uniformity_verdict") ∷ verdict_tokens None
accepted_flow false = []

-- the JSON of an accepted module without optional sections
abbrev pub accepted_text : (checks : Bool) → List TypeLayout → (functions entry_points : List FunctionAnswer) →
    List TypeResolution → List ℕ
accepted_text checks layouts functions entry_points types =
    print (object (head_members heads.Accepted [] ++ (accepted_flow checks
    ++ (layouts_members layouts None ++ info_tokens functions entry_points types)))) ++ 10 ∷ []

-- both texts are such JSON with the same parts, except for which sources are named
pub record TextsAgree (checks : Bool) (one other : List ℕ) : Type 0 where
  pub layouts : List TypeLayout
  pub types : List TypeResolution
  pub functions : List FunctionAnswer
  pub entry_points : List FunctionAnswer
  pub one_is : one ≡ accepted_text checks layouts functions entry_points types
  pub other_functions : List FunctionAnswer
  pub other_entry_points : List FunctionAnswer
  pub other_is : other ≡ accepted_text checks layouts other_functions other_entry_points types
  pub functions_agree : map blank_tokens functions ≡ map blank_tokens other_functions
  pub entry_points_agree : map blank_tokens entry_points ≡ map blank_tokens other_entry_points

-- the options ask for JSON without optional sections
pub record IsPlain (options : Options) : Type 0 where
  pub json : options.is_json ≡ true
  pub no_bounds : bounds_of options ≡ None
  pub no_resources : options.has_resources ≡ false

-- two such texts on an accepted module agree
abbrev pub AcceptedTextsAgree : Type 0
AcceptedTextsAgree = (input : List ℕ) (options : Options) → IsPlain options → (one other : List ℕ) →
    IsReport options input Accepted one → IsReport options input Accepted other → TextsAgree (checks_uniformity options) one other
