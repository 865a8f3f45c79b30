-- Reports on the recorded infos are the required reports.
use Rattle.std.proofs.Common.{◌≡◌, ◌∙◌, sym, subst, ap, ℕ, ◌<◌, ◌↔◌, List, Some, None, Option, map, slice_get, slice_index, IsTrue, refl}
use Rattle.std.specs.Int.{IsBitSet}
use Rattle.std.specs.Option.{is_some, option_map}
use Rattle.std.specs.Prelude.{All}
use Rattle.std.proofs.lemmas.List.{length-map}
use Rattle.std.proofs.lemmas.Option.{get_or_from_slice_get, slice_get-map, slice_get_within}
use Rattle.shader_analysis_spec.specs.Exact.{IsExact, IsExactModule}
use Rattle.shader_analysis_spec.specs.Faults.{BindingArrayElement, Cause, CountFull, IsAccepted, IsFirstFault, MissingCapability}
use Rattle.shader_analysis_spec.specs.Faults.{NoResource, NonUniformControlFlow, Settings, Untyped}
use Rattle.shader_analysis_spec.specs.Infos.{IsWitness, bit_of}
use Rattle.shader_analysis_spec.specs.Needs.{has_need}
use Rattle.shader_analysis_spec.specs.Origins.{ResultOrigin}
use Rattle.shader_analysis_spec.specs.Program.{Function, Module}
use Rattle.shader_analysis_spec.specs.Uses.{Uses}
use Rattle.shader_info.specs.declared.error.AnalysisError.{AnalysisError}
use Rattle.shader_info.specs.declared.error.AnalysisLocation.{AnalysisLocation}
use Rattle.shader_info.specs.declared.error.AnalysisLocation.TheVariants as location
use Rattle.shader_info.specs.declared.error.ExpressionError.TheVariants as expression
use Rattle.shader_info.specs.declared.error.FunctionError.{FunctionError}
use Rattle.shader_info.specs.declared.error.FunctionError.TheVariants as error
use Rattle.shader_info.specs.declared.flags.GlobalUse.{GlobalUse}
use Rattle.shader_info.specs.declared.info.FunctionInfo.{FunctionInfo}
use Rattle.shader_info.specs.Recorded.{ArePairsOf}
use Rattle.shader_resolve.specs.Outcome.{refusal_of}
use Rattle.shader_passes.specs.Causes.{IsNamed, disruptor_of}
use Rattle.shader_passes.specs.InfoOf.{info_of, infos_of}
use Rattle.shader_analysis.specs.Recording.{RecordsAllPairs, RecordsPairs}
use Rattle.shader_analysis.specs.Processed.{IsFunctionAt, IsInfoAt, site_of}
use Rattle.shader_analysis.specs.Recorded.{Recorded}
use Rattle.sample_reports.specs.Reports.{AreCounts, ArePairs, AreReports, AreUses, IsFunctionReport}
use Rattle.sample_reports.specs.Reports.{IsModuleReport, Varies, kind_of_cause, locations_of}
use Rattle.sample_reports.specs.Reporting.{AreReportsOf, IsReportOf, ReportsFunction, ReportsAll, ReportsRefusal, reported_kind}
use Rattle.sample_reports.specs.declared.report.FaultKind.{FaultKind}
use Rattle.sample_reports.specs.declared.report.FunctionReport.{FunctionReport}
use Rattle.sample_reports.specs.declared.report.ModuleReport.{ModuleReport}
use Rattle.sample_reports.specs.declared.report.LocationReport.{LocationReport}

-- ---- the report on a function

-- the bits recorded of a global
bits_at : (uses : List GlobalUse) (g : ℕ) (used : GlobalUse) → slice_get uses g ≡ Some used → slice_index (map (λ u. u.0) uses) g ≡ used.0
bits_at uses g used at =
    get_or_from_slice_get (map (λ u. u.0) uses) g used.0 0 (slice_get-map (λ u. u.0) uses g ∙ ap (option_map (λ (u : GlobalUse). u.0)) at)

uses_are : (m : Module) (f : Function) (info : FunctionInfo) → IsExact m f (info_of info) → AreUses m f info.global_uses
uses_are m f info exact = record {
  each = sym (length-map info.global_uses (λ (u : GlobalUse). u.0)) ∙ exact.tables.global_uses;
  few = λ g used at. subst (λ n. n < 16) (bits_at info.global_uses g used at) (exact.tables.few_uses g);
  bits = λ g used u at. subst (λ n. IsBitSet n (bit_of u) ↔ Uses m f g u) (bits_at info.global_uses g used at) (exact.uses g u);
}

pairs_are : (m : Module) (f : Function) (info : FunctionInfo) (pairs : List (ℕ × ℕ)) → RecordsPairs m f info →
    ArePairsOf info pairs → ArePairs m f pairs
pairs_are m f info pairs retained reported = record {
  ascending = reported.ascending;
  members = λ image sampler. (
    λ h. (retained.of_globals image sampler).0 ((reported.members image sampler).0 h),
    λ h. (reported.members image sampler).1 ((retained.of_globals image sampler).1 h),
  );
}

counts_are : (m : Module) (f : Function) (info : FunctionInfo) → IsExact m f (info_of info) →
    AreCounts f (map (λ e. e.ref_count) info.expressions)
counts_are m f info exact = record { each = exact.tables.counts; exact = exact.counts }

varies_are : (m : Module) (f : Function) (o : Option ℕ) → IsWitness (λ h. (r : Function) × ResultOrigin m f r h) o →
    IsTrue (is_some o) ↔ Varies m f
varies_are m f (Some h) picked = (λ _. (picked.0, h, picked.1), λ _. refl)
varies_are m f None picked = (λ e. cc, λ v. absurd (picked v.1 (v.0, v.2)))

report_is : (m : Module) (f : Function) (info : FunctionInfo) (report : FunctionReport) → IsExact m f (info_of info) →
    RecordsPairs m f info →
    ReportsFunction info report → IsFunctionReport m f report
report_is m f info report exact retained reported = record {
  uses = subst (AreUses m f) (sym reported.uses) (uses_are m f info exact);
  pairs = pairs_are m f info report.pairs retained reported.pairs;
  counts = subst (AreCounts f) (sym reported.counts) (counts_are m f info exact);
  varies = subst (λ b. IsTrue b ↔ Varies m f) (sym reported.varies) (varies_are m f info.uniformity.non_uniform_result exact.result);
}

-- ---- the report on a module

info_at : (infos : List FunctionInfo) (i : ℕ) (info : FunctionInfo) → slice_get infos i ≡ Some info →
    slice_get (infos_of infos) i ≡ Some (info_of info)
info_at infos i info at = slice_get-map info_of infos i ∙ ap (option_map info_of) at

-- the info recorded of a location is exact for the function there
exact_at : (m : Module) (recorded : Recorded) (at : AnalysisLocation) (info : FunctionInfo) (f : Function) →
    IsExactModule m recorded.global_expressions (infos_of recorded.functions) (infos_of recorded.entry_points) →
    IsInfoAt recorded at info → IsFunctionAt m at f → IsExact m f (info_of info)
exact_at m recorded (location.ConstExpression e) info f exact stored there = absurd there
exact_at m recorded (location.Function i) info f exact stored there =
    exact.exact_functions i f (info_of info) there (info_at recorded.functions i info stored)
exact_at m recorded (location.EntryPoint i) info f exact stored there =
    subst (λ v. IsExact m v (info_of info)) there.2 (exact.exact_entry_points i there.0 (info_of info) there.1
    (info_at recorded.entry_points i info stored))

reported_at : (recorded : Recorded) (reports : List LocationReport) (i : ℕ) (r : LocationReport) → All (IsReportOf recorded) reports →
    slice_get reports i ≡ Some r → IsReportOf recorded r
reported_at recorded reports i r reported at = subst (IsReportOf recorded) (get_or_from_slice_get reports i r r at)
    (reported i r (slice_get_within reports i r at))

reports_are : (m : Module) (recorded : Recorded) (reports : List LocationReport) →
    IsExactModule m recorded.global_expressions (infos_of recorded.functions) (infos_of recorded.entry_points) →
    RecordsAllPairs m recorded →
    AreReportsOf recorded (locations_of m) reports → AreReports m reports
reports_are m recorded reports exact retained reported = record {
  locations = reported.locations;
  each = λ i r f at there.
      let t = reported_at recorded reports i r reported.each at in
      report_is m f t.info r.report (exact_at m recorded r.location t.info f exact t.stored there)
      (retained r.location f t.info there t.stored) t.reports_info;
}

-- ---- the report on a refusal

-- the kind reported for a refusal is that of its cause
kind_is : (IsCause : Cause → Type 0) (failure : FunctionError) (kind : FaultKind) → reported_kind failure ≡ Some kind →
    IsNamed IsCause failure →
    (cause : Cause) × IsCause cause × (kind ≡ kind_of_cause cause)
kind_is IsCause (error.Expression e (expression.Resolve failure)) kind reported named = (Untyped e (refusal_of failure), named, cc)
kind_is IsCause (error.Expression e (expression.MissingCapabilities wanted)) kind reported named =
    (MissingCapability e named.0, named.2, cc)
kind_is IsCause (error.Expression e expression.ExpectedGlobalOrArgument) kind reported named = (NoResource e, named, cc)
kind_is IsCause (error.Expression e expression.BindingArrayElement) kind reported named = (BindingArrayElement e, named, cc)
kind_is IsCause (error.NonUniformControlFlow needs e flow_disruptor) kind reported named =
    (NonUniformControlFlow (has_need needs.0) e (disruptor_of flow_disruptor), named.1, cc)
kind_is IsCause (error.CountFull e) kind reported named = (CountFull e, named, cc)
kind_is IsCause error.OutOfMemory kind reported named = cc

pub refusal_is : (m : Module) (settings : Settings) (failure : AnalysisError) (report : ModuleReport) →
    IsNamed (IsFirstFault m settings (site_of failure.place)) failure.cause → ReportsRefusal failure report →
    IsModuleReport m settings report
refusal_is m settings failure report named reported =
    let found = kind_is (IsFirstFault m settings (site_of failure.place)) failure.cause reported.kind reported.reported named in
    subst (IsModuleReport m settings) (sym reported.refused) (record { cause = found.0; first = found.1; kind = found.2 })

pub acceptance_is : (m : Module) (settings : Settings) (recorded : Recorded) (report : ModuleReport) →
    IsExactModule m recorded.global_expressions (infos_of recorded.functions) (infos_of recorded.entry_points) →
    RecordsAllPairs m recorded →
    IsAccepted m settings → ReportsAll m recorded report → IsModuleReport m settings report
acceptance_is m settings recorded report exact retained clean reported =
    subst (IsModuleReport m settings) (sym reported.accepted)
    (clean, reports_are m recorded reported.reports exact retained reported.reported)
