-- The law that reports are unique.
use Rattle.std.specs.Prelude.{◌≡◌}
use Rattle.shader_analysis_spec.specs.Faults.{Settings}
use Rattle.shader_analysis_spec.specs.Program.{Module}
use Rattle.sample_reports.specs.Reports.{IsModuleReport}
use Rattle.sample_reports.specs.declared.report.ModuleReport.{ModuleReport}
use Rattle.sample_reports.specs.declared.report.ModuleReport.TheVariants.{Accepted, Refused}

-- the reports are the same, except for the kind of fault at the location
abbrev pub ReportsAgree : ModuleReport → ModuleReport → Type 0
ReportsAgree (Accepted reports) (Accepted others) = reports ≡ others
ReportsAgree (Accepted reports) (Refused at kind) = ⊥
ReportsAgree (Refused at kind) (Accepted others) = ⊥
ReportsAgree (Refused at kind) (Refused other reported) = at ≡ other

-- a module has one report, up to the choice among several faults of the first faulty location
abbrev pub ReportsAreUnique : Type 0
ReportsAreUnique = (m : Module) (settings : Settings) (a b : ModuleReport) → IsModuleReport m settings a → IsModuleReport m settings b →
    ReportsAgree a b
