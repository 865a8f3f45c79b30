-- What follows from a fact by rules.
use Rattle.std.specs.Prelude.{ℕ, ◌≤◌, List}
use Rattle.std.specs.List.{Contains}
use Rattle.shader_uniformity.specs.declared.facts.Fact.{Fact}
use Rattle.shader_uniformity.specs.declared.facts.Fact.TheVariants.{Holds}
use Rattle.shader_uniformity.specs.declared.facts.Place.{Place}
use Rattle.shader_uniformity.specs.declared.facts.Rule.{Rule}

abbrev pub leads : Fact → Fact → Rule
leads cause effect = record { cause = cause; effect = effect }

-- the facts that a first one leads to. What a place holds from one moment on it holds later too
pub data Marked (rules : List Rule) (first : Fact) : Fact → Type 0 where
  itself : Marked rules first first
  by_rule : {cause effect : Fact} → Contains rules (leads cause effect) → Marked rules first cause → Marked rules first effect
  later : {place : Place} {moment : ℕ} (next : ℕ) → moment ≤ next → Marked rules first (Holds place moment) →
      Marked rules first (Holds place next)
