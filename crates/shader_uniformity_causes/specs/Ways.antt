-- One step of the way back: through a body, to a source or to a caller.
use Rattle.std.specs.Prelude.{List, Option, Some, None}
use Rattle.std.specs.List.{Contains}
use Rattle.shader_uniformity.specs.Marks.{Marked}
use Rattle.shader_uniformity.specs.Traces.{IsTrace}
use Rattle.shader_uniformity.specs.declared.facts.Fact.{Fact}
use Rattle.shader_uniformity.specs.declared.facts.Fact.TheVariants.{Always}
use Rattle.shader_uniformity.specs.declared.facts.Rule.{Rule}
use Rattle.shader_uniformity_needs.specs.Notes.{Follows}
use Rattle.shader_uniformity_causes.specs.Callers.{firsts_of}
use Rattle.shader_uniformity_causes.specs.declared.causes.PassedBy.{PassedBy}
use Rattle.shader_uniformity_causes.specs.declared.ways.Way.{Way}

module _ (rules : List Rule) (calls : List PassedBy) (fact : Fact) where
  -- a trace to what a call passes, or to `Always`
  abbrev pub LeadsTo : List Rule → Option PassedBy → Type 0
  LeadsTo trace (Some by) = Contains calls by × IsTrace rules fact trace by.pass.beginning
  LeadsTo trace None = IsTrace rules fact trace Always

  abbrev pub IsWay : Way → Type 0
  IsWay way = LeadsTo way.trace.items way.by

  -- a way, or none to what a call passes
  abbrev pub IsWayToCaller : Option Way → Type 0
  IsWayToCaller (Some way) = IsWay way
  IsWayToCaller None = (by : PassedBy) → Contains calls by → Marked rules by.pass.beginning fact → ⊥

  -- a way, or none if the fact follows from nothing with which a call begins
  abbrev pub IsWayBack : Option Way → Type 0
  IsWayBack (Some way) = IsWay way
  IsWayBack None = Follows rules (firsts_of calls) fact → ⊥
