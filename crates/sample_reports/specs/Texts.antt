-- Reports as text.
use Rattle.std.specs.Prelude.{ℕ, Bool, true, false, List, [], ◌∷◌, ◌++◌, codes}
use Rattle.std.specs.List.{join_by}
use Rattle.std.specs.Fmt.{decimal}
use Rattle.shader_info.specs.declared.error.AnalysisLocation.{AnalysisLocation}
use Rattle.shader_info.specs.declared.error.AnalysisLocation.TheVariants as location
use Rattle.shader_info.specs.declared.flags.GlobalUse.{GlobalUse}
use Rattle.sample_reports.specs.declared.report.FaultKind.{FaultKind}
use Rattle.sample_reports.specs.declared.report.FaultKind.TheVariants as kind
use Rattle.sample_reports.specs.declared.report.FunctionReport.{FunctionReport}
use Rattle.sample_reports.specs.declared.report.ModuleReport.{ModuleReport}
use Rattle.sample_reports.specs.declared.report.ModuleReport.TheVariants.{Accepted, Refused}
use Rattle.sample_reports.specs.declared.report.LocationReport.{LocationReport}

-- the items separated by commas, or a hyphen if there are none
abbrev pub list_text : {X : Type 0} → (X → List ℕ) → List X → List ℕ
list_text text [] = codes "-"
list_text text (x ∷ xs) = join_by text (codes ",") (x ∷ xs)

abbrev pub use_text : GlobalUse → List ℕ
use_text uses = decimal uses.0

abbrev pub pair_text : ℕ × ℕ → List ℕ
pair_text pair = decimal pair.0 ++ codes "/" ++ decimal pair.1

abbrev pub result_text : Bool → List ℕ
result_text true = codes "non-uniform"
result_text false = codes "uniform"

abbrev pub function_text : FunctionReport → List ℕ
function_text report =
    codes "uses " ++ list_text use_text report.uses ++ codes " pairs " ++ list_text pair_text report.pairs
    ++ codes " counts " ++ list_text decimal report.counts ++ codes " result " ++ result_text report.varies

abbrev pub location_text : AnalysisLocation → List ℕ
location_text (location.ConstExpression e) = codes "const " ++ decimal e
location_text (location.Function i) = codes "fn " ++ decimal i
location_text (location.EntryPoint i) = codes "entry " ++ decimal i

abbrev pub location_report_text : LocationReport → List ℕ
location_report_text report = location_text report.location ++ codes " " ++ function_text report.report

abbrev pub fault_text : FaultKind → List ℕ
fault_text kind.Expression = codes "A1"
fault_text kind.NonUniformControlFlow = codes "A2"
fault_text kind.CountFull = codes "A3"

abbrev pub report_text : ModuleReport → List ℕ
report_text (Accepted reports) = join_by location_report_text (codes "; ") reports
report_text (Refused location kind) = codes "refused " ++ location_text location ++ codes " " ++ fault_text kind
