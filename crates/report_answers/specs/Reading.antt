-- What is read of an input.
use Rattle.std.specs.Prelude.{◌≡◌, ℕ, false, List, Some}
use Rattle.std.specs.Str.{IsUtf8}
use Rattle.json.specs.Json.{Json, document}
use Rattle.shader_analysis_spec.specs.Program.{Module}
use Rattle.shader_json_module.specs.Modules.{IsModule}
use Rattle.report_answers.specs.Reports.{IsReport}
use Rattle.report_answers.specs.declared.options.Options.{Options}
use Rattle.report_answers.specs.declared.reading.Reading.{Reading}
use Rattle.report_answers.specs.declared.reading.Reading.TheVariants as readings

-- the input spells JSON that stands for the module
pub record IsRead (input : List ℕ) (m : Module) : Type 0 where
  pub utf8 : IsUtf8 input
  pub j : Json
  pub parses : document input ≡ Some j
  pub stands : IsModule j m

-- a module that is reported without its JSON, or the report
abbrev pub IsReading : Options → List ℕ → Reading → Type 0
IsReading options input (readings.Module read) = IsRead input read.«module» × (options.has_resources ≡ false)
IsReading options input (readings.Reported report) = IsReport options input report.outcome report.text.items
