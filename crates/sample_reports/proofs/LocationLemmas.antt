-- Reports that are added one by one.
use Rattle.std.proofs.Common.{◌≡◌, ◌∙◌, sym, subst, ap, ℕ, ◌+◌, List, [], ◌∷◌, ◌++◌, map, append_assoc, arith}
use Rattle.std.specs.List.{range_with_len}
use Rattle.std.proofs.lemmas.List.{map-append}
use Rattle.std.proofs.lemmas.List.Elements.{All-push}
use Rattle.std.proofs.lemmas.List.FromFn.{map-range_with_len_more}
use Rattle.shader_info.specs.declared.error.AnalysisLocation.{AnalysisLocation}
use Rattle.shader_info.specs.declared.info.FunctionInfo.{FunctionInfo}
use Rattle.shader_analysis.specs.Processed.{IsInfoAt}
use Rattle.shader_analysis.specs.Recorded.{Recorded}
use Rattle.sample_reports.specs.Reporting.{AddsReport, AreReportsOf, IsReportOf}
use Rattle.sample_reports.specs.declared.report.LocationReport.{LocationReport}

-- the locations of a kind after others, and one more
abbrev pub locations_to : List AnalysisLocation → (ℕ → AnalysisLocation) → ℕ → List AnalysisLocation
locations_to before at n = before ++ map at (range_with_len 0 n)

pub none_more : (before : List AnalysisLocation) (at : ℕ → AnalysisLocation) (n : ℕ) →
    locations_to before at (n + 1) ≡ locations_to before at n ++ at n ∷ []
none_more before at n =
    ap (λ (v : List AnalysisLocation). before ++ v) (map-range_with_len_more at 0 n n (omega arith))
    ∙ sym (append_assoc before (map at (range_with_len 0 n)) (at n ∷ []))

pub one_more : (recorded : Recorded) (before : List AnalysisLocation) (at : ℕ →
    AnalysisLocation) (n : ℕ) (info : FunctionInfo) (old new : List LocationReport) →
    AreReportsOf recorded (locations_to before at n) old → IsInfoAt recorded (at n) info → AddsReport (at n) info old new →
    AreReportsOf recorded (locations_to before at (n + 1)) new
one_more recorded before at n info old new reported stored adds =
    let report : LocationReport = record { location = at n; report = adds.report } in
    subst (AreReportsOf recorded (locations_to before at (n + 1))) (sym adds.added) (record {
      locations = map-append (λ (r : LocationReport). r.location) old (report ∷ [])
          ∙ ap (λ (v : List AnalysisLocation). v ++ at n ∷ []) reported.locations
          ∙ sym (none_more before at n);
      each = All-push (IsReportOf recorded) old report reported.each
          (record { info = info; stored = stored; reports_info = adds.reports_info });
    })
