-- Inputs and outputs of entry points, and the globals that none of them uses, as text for people.
use Rattle.std.specs.Prelude.{ℕ, List, [], ◌∷◌, ◌++◌, cond, codes, flat_map}
use Rattle.std.specs.List.{enumerate_from}
use Rattle.json.specs.Json.{Json}
use Rattle.report_columns.specs.Columns.{Row, row}
use Rattle.report_places.specs.Words.{body_text}
use Rattle.report_places.specs.declared.body_place.BodyPlace.TheVariants as places
use Rattle.shader_ir.specs.declared.«module».GlobalVariable.{GlobalVariable}
use Rattle.shader_ir.specs.declared.«module».Module.{Module}
use Rattle.shader_ir.specs.declared.function.EntryPoint.{EntryPoint}
use Rattle.shader_report_resources.specs.DeclaredLines.{bound_declaration}
use Rattle.shader_report_resources.specs.Entries.{is_idle}
use Rattle.shader_report_resources.specs.Listed.{listed}
use Rattle.shader_report_resources.specs.ValueLines.{value_rows}
use Rattle.shader_report_resources.specs.declared.entries.EntryUses.{EntryUses}

abbrev pub entry_title : Module → ℕ → List ℕ
entry_title m place = codes "inputs and outputs of " ++ body_text m (places.EntryPoint place)

module _ (j : Json) (m : Module) where
  -- the entry point at a place in the list of all
  abbrev pub entry_lines : ℕ × EntryPoint → List ℕ
  entry_lines of = listed (entry_title m of.0) (value_rows j m of.0 of.1.function)

  -- a list for each entry point that has inputs or outputs
  abbrev pub all_entry_lines : List EntryPoint → List ℕ
  all_entry_lines entries = flat_map entry_lines (enumerate_from 0 entries)

  module _ (uses : List EntryUses) where
    abbrev pub idle_row : ℕ × GlobalVariable → List Row
    idle_row entry = cond (is_idle j uses entry.0) (row (bound_declaration j m entry) [] ∷ []) []

    -- the globals that have a bind group and that no entry point uses
    abbrev pub idle_rows : List Row
    idle_rows = flat_map idle_row (enumerate_from 0 m.global_variables)
