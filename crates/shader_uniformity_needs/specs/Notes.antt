-- Facts with which calls may begin, and what follows from them.
use Rattle.std.specs.Prelude.{◌≡◌, ◌↔◌, ◌<◌, ◌==◌, ℕ, Bool, true, false, if◌then◌else◌, IsTrue, List, [], ◌∷◌, ◌++◌, Option, Some}
use Rattle.std.specs.Prelude.{None}
use Rattle.std.specs.Prelude.{length, slice_get}
use Rattle.std.specs.Global.{Vec}
use Rattle.std.specs.List.{Contains, flat_map}
use Rattle.shader_uniformity.specs.Cells.{holds}
use Rattle.shader_uniformity.specs.Marks.{Marked}
use Rattle.shader_uniformity.specs.declared.facts.BodyLocation.{BodyLocation}
use Rattle.shader_uniformity.specs.declared.facts.Fact.{Fact}
use Rattle.shader_uniformity.specs.declared.facts.Fact.TheVariants.{Always}
use Rattle.shader_uniformity.specs.declared.facts.Rule.{Rule}
use Rattle.shader_uniformity_needs.specs.declared.needs.Need.{Need}
use Rattle.shader_uniformity_needs.specs.declared.needs.Pass.{Pass}
use Rattle.shader_uniformity_needs.specs.declared.needs.Violation.{Violation}

-- a fact follows from `Always` or from one of some other facts
abbrev pub Follows : List Rule → List Fact → Fact → Type 0
Follows rules firsts fact = (first : Fact) × Contains (Always ∷ firsts) first × Marked rules first fact

-- the table has the facts that do, and nothing else
abbrev pub HasFollowers : List Rule → List Fact → List (Option ℕ) → Type 0
HasFollowers rules firsts table = (fact : Fact) → IsTrue (holds table fact) ↔ Follows rules firsts fact

-- the facts, besides `Always`, with which calls of a function may begin
abbrev pub items_of : Option (Vec Fact) → List Fact
items_of (Some facts) = facts.items
items_of None = []

abbrev pub begun_at : List (Vec Fact) → ℕ → List Fact
begun_at begun i = items_of (slice_get begun i)

-- a fact for the function of its number
abbrev pub fact_for : (function i : ℕ) → Fact → List Fact
fact_for function i fact = if function == i then fact ∷ [] else []

abbrev pub fact_if : Bool → List Fact → List Fact
fact_if true facts = facts
fact_if false facts = []

-- what is passed to function i, where the table has what is true in the caller
abbrev pub passed_to : List (Option ℕ) → ℕ → Pass → List Fact
passed_to table i pass = fact_if (holds table pass.cause) (fact_for pass.function i pass.beginning)

-- each function that is left begins with what is passed to it too
pub record Notes (table : List (Option ℕ)) (passes : List Pass) (old new : List (Vec Fact)) : Type 0 where
  pub long : length new ≡ length old
  pub noted : (i : ℕ) → i < length old → begun_at new i ≡ begun_at old i ++ flat_map (passed_to table i) passes

abbrev pub violation_if : Bool → Violation → List Violation
violation_if true violation = violation ∷ []
violation_if false violation = []

-- the violation of a need, where the table has what violates it
abbrev pub violations_of : BodyLocation → List (Option ℕ) → Need → List Violation
violations_of place table need = violation_if (holds table need.violated_by) (record { place = place; need = need })
