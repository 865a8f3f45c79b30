-- Reports on recorded infos.
use Rattle.std.specs.Prelude.{◌≡◌, ◌++◌, ◌∷◌, [], All, List, Option, Some, None, map, is_some}
use Rattle.shader_analysis_spec.specs.Program.{Module}
use Rattle.shader_info.specs.declared.error.AnalysisError.{AnalysisError}
use Rattle.shader_info.specs.declared.error.AnalysisLocation.{AnalysisLocation}
use Rattle.shader_info.specs.declared.error.FunctionError.{FunctionError}
use Rattle.shader_info.specs.declared.error.FunctionError.TheVariants as error
use Rattle.shader_info.specs.declared.info.FunctionInfo.{FunctionInfo}
use Rattle.shader_info.specs.Recorded.{ArePairsOf}
use Rattle.shader_analysis.specs.Processed.{IsInfoAt}
use Rattle.shader_analysis.specs.Recorded.{Recorded}
use Rattle.sample_reports.specs.Reports.{locations_of}
use Rattle.sample_reports.specs.declared.report.FaultKind.{FaultKind}
use Rattle.sample_reports.specs.declared.report.FaultKind.TheVariants as kind
use Rattle.sample_reports.specs.declared.report.FunctionReport.{FunctionReport}
use Rattle.sample_reports.specs.declared.report.ModuleReport.{ModuleReport}
use Rattle.sample_reports.specs.declared.report.ModuleReport.TheVariants.{Accepted, Refused}
use Rattle.sample_reports.specs.declared.report.LocationReport.{LocationReport}

pub record ReportsFunction (info : FunctionInfo) (report : FunctionReport) : Type 0 where
  pub uses : report.uses ≡ info.global_uses
  pub pairs : ArePairsOf info report.pairs
  pub counts : report.counts ≡ map (λ e. e.ref_count) info.expressions
  pub varies : report.varies ≡ is_some info.uniformity.non_uniform_result

-- the report has what is recorded of its location
pub record IsReportOf (recorded : Recorded) (report : LocationReport) : Type 0 where
  pub info : FunctionInfo
  pub stored : IsInfoAt recorded report.location info
  pub reports_info : ReportsFunction info report.report

-- one report is added, on the info at the location
pub record AddsReport (at : AnalysisLocation) (info : FunctionInfo) (old new : List LocationReport) : Type 0 where
  pub report : FunctionReport
  pub reports_info : ReportsFunction info report
  pub added : new ≡ old ++ record { location = at; report = report } ∷ []

-- the reports are those on these locations, in order, and have what is recorded there
pub record AreReportsOf (recorded : Recorded) (at : List AnalysisLocation) (reports : List LocationReport) : Type 0 where
  pub locations : map (λ r. r.location) reports ≡ at
  pub each : All (IsReportOf recorded) reports

-- the report is on all functions and entry points
pub record ReportsAll (m : Module) (recorded : Recorded) (report : ModuleReport) : Type 0 where
  pub reports : List LocationReport
  pub accepted : report ≡ Accepted reports
  pub reported : AreReportsOf recorded (locations_of m) reports

-- ---- the report on a refusal

-- an allocation failure is no fault
abbrev pub reported_kind : FunctionError → Option FaultKind
reported_kind (error.Expression e source) = Some kind.Expression
reported_kind (error.NonUniformControlFlow needs e flow_disruptor) = Some kind.NonUniformControlFlow
reported_kind (error.CountFull e) = Some kind.CountFull
reported_kind error.OutOfMemory = None

-- the report has the location of the refusal, and the kind of the fault there
pub record ReportsRefusal (refusal : AnalysisError) (report : ModuleReport) : Type 0 where
  pub kind : FaultKind
  pub reported : reported_kind refusal.cause ≡ Some kind
  pub refused : report ≡ Refused refusal.place kind
