-- The reports on the sample modules.
use Rattle.std.specs.Prelude.{true, false}
use Rattle.shader_analysis_spec.specs.Faults.{Settings}
use Rattle.sample_reports.specs.Reports.{IsModuleReport}
use Rattle.sample_reports.specs.declared.report.ModuleReport.{ModuleReport}
use Rattle.shader_samples.specs.Samples.{sample_module}
use Rattle.shader_samples.specs.declared.sample.Sample.{Sample}

-- control flow is checked, and there are no capabilities
abbrev pub flow_checked : Settings
flow_checked = record { checks_flow = true; indexes_textures = false; indexes_storage_textures = false }

-- the report on the module that is written out under the sample's name
abbrev pub IsSampleReport : Sample → ModuleReport → Type 0
IsSampleReport sample report = IsModuleReport (sample_module sample) flow_checked report
