-- The resources of a module, as JSON and as text for people.
use Rattle.std.specs.Prelude.{◌≡◌, ℕ, List, [], ◌∷◌, ◌++◌, codes}
use Rattle.json.specs.Json as json
use Rattle.json.specs.Token.{Token, begin_object, end_object, begin_array, end_array, key}
use Rattle.shader_analysis.specs.Recorded.{Recorded}
use Rattle.shader_analysis_spec.specs.Program.{Module}
use Rattle.shader_ir.specs.declared.proc.layouter.TypeLayout.{TypeLayout}
use Rattle.shader_report_resources.specs.DeclaredLines.{global_rows, override_rows}
use Rattle.shader_report_resources.specs.Entries.{AreUses, all_idle_tokens, entries_tokens}
use Rattle.shader_report_resources.specs.EntryLines.{all_entry_lines, idle_rows}
use Rattle.shader_report_resources.specs.Listed.{listed}
use Rattle.shader_report_resources.specs.Tables.{globals_tokens, overrides_tokens, types_tokens}
use Rattle.shader_report_resources.specs.declared.entries.EntryUses.{EntryUses}

module _ (j : json.Json) (m : Module) where
  unfoldable pub declared_tokens : List TypeLayout → List Token
  declared_tokens layouts =
      key (codes "types") ∷ begin_array ∷ (types_tokens m layouts
      ++ end_array ∷ key (codes "globals") ∷ begin_array ∷ (globals_tokens j m
      ++ end_array ∷ key (codes "overrides") ∷ begin_array ∷ (overrides_tokens j m ++ end_array ∷ [])))

  unfoldable pub used_tokens : List EntryUses → List Token
  used_tokens uses =
      key (codes "entry_points") ∷ begin_array ∷ (entries_tokens j m uses
      ++ end_array ∷ key (codes "unused") ∷ begin_array ∷ (all_idle_tokens j uses m.global_variables ++ end_array ∷ []))

  unfoldable pub resources_tokens : List TypeLayout → List EntryUses → List Token
  resources_tokens layouts uses = begin_object ∷ (declared_tokens layouts ++ (used_tokens uses ++ end_object ∷ []))

  -- lists for people: of what the module declares
  unfoldable pub declared_lines : List TypeLayout → List ℕ
  declared_lines layouts = listed (codes "global variables") (global_rows j m layouts) ++ listed (codes "overrides") (override_rows j m)

  -- of what no entry point uses
  unfoldable pub idle_lines : List EntryUses → List ℕ
  idle_lines uses = listed (codes "used by no entry point") (idle_rows j m uses)

  -- of what its entry points have
  unfoldable pub used_lines : List EntryUses → List ℕ
  used_lines uses = all_entry_lines j m m.entry_points ++ idle_lines uses

  unfoldable pub resources_lines : List TypeLayout → List EntryUses → List ℕ
  resources_lines layouts uses = declared_lines layouts ++ used_lines uses

-- the tokens have what the JSON declares of the module, its layouts, and what the infos have of its entry points
pub record AreResources (j : json.Json) (m : Module) (layouts : List TypeLayout) (infos : Recorded) (tokens : List Token) : Type 0 where
  pub uses : List EntryUses
  pub uses_are : AreUses m.entry_points infos.entry_points uses
  pub written : tokens ≡ resources_tokens j m layouts uses

-- so have the lists for people
pub record AreResourcesLines (j : json.Json) (m : Module) (layouts : List TypeLayout) (infos : Recorded) (text : List ℕ) : Type 0 where
  pub uses : List EntryUses
  pub uses_are : AreUses m.entry_points infos.entry_points uses
  pub printed : text ≡ resources_lines j m layouts uses
