-- Why the result of an entry point may differ between invocations.
use Rattle.std.specs.Prelude.{◌≡◌, ℕ, ⊤, List, Option, Some, None, slice_get}
use Rattle.std.specs.Global.{Vec}
use Rattle.std.specs.Option.{option_and_then}
use Rattle.shader_analysis.specs.Recorded.{Recorded}
use Rattle.shader_ir.specs.declared.module.Module.{Module}
use Rattle.shader_uniformity.specs.Marks.{Marked}
use Rattle.shader_uniformity.specs.Traces.{IsTrace, rules_at}
use Rattle.shader_uniformity.specs.declared.facts.BodyLocation.TheVariants as body
use Rattle.shader_uniformity.specs.declared.facts.Fact.TheVariants.{Always, Gives}
use Rattle.shader_uniformity.specs.declared.facts.Rule.{Rule}
use Rattle.report_diagnostics.specs.declared.diagnostic.Related.{Related}
use Rattle.report_places.specs.declared.body_place.BodyPlace.TheVariants as place
use Rattle.report_findings.specs.Sites.{expression_location}

-- there are causes if a trace leads from the result back to a source, and none if the result doesn't differ
abbrev pub AreCausesOfResult : Module → (known : List (List Rule)) → ℕ → Option (Vec Related) → Type 0
AreCausesOfResult m known index (Some causes) =
    (trace : List Rule) × IsTrace (rules_at m known (body.EntryPoint index)) Gives trace Always
AreCausesOfResult m known index None = Marked (rules_at m known (body.EntryPoint index)) Always Gives → ⊥

-- the expression by which naga's rules record that the result of an entry point differs
abbrev pub recorded_source : Recorded → ℕ → Option ℕ
recorded_source infos index = option_and_then (λ info. info.uniformity.non_uniform_result) (slice_get infos.entry_points index)

abbrev pub IsAtSource : Module → ℕ → Option ℕ → Option Related → Type 0
IsAtSource m index (Some source) (Some cause) = cause.location ≡ expression_location m (place.EntryPoint index) source
IsAtSource m index (Some source) None = ⊥
IsAtSource m index None (Some cause) = ⊥
IsAtSource m index None None = ⊤

-- the cause is at that expression of the entry point, if there is one
abbrev pub HasSource : Module → Recorded → ℕ → Option Related → Type 0
HasSource m infos index found = IsAtSource m index (recorded_source infos index) found
