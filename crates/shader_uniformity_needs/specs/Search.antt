-- The search for violated needs, from the last body back. Callees are earlier functions, so what begins a function is known when the
-- search comes to it.
use Rattle.std.specs.Prelude.{◌≡◌, ◌↔◌, ◌<◌, ◌≤◌, ◌⊎◌, ℕ, List, length}
use Rattle.std.specs.List.{Contains}
use Rattle.shader_uniformity.specs.Fault.{IsBefore}
use Rattle.shader_uniformity.specs.Words.{Module}
use Rattle.shader_uniformity.specs.declared.facts.BodyLocation.{BodyLocation}
use Rattle.shader_uniformity.specs.declared.facts.BodyLocation.TheVariants as body
use Rattle.shader_uniformity.specs.declared.facts.Fact.{Fact}
use Rattle.shader_uniformity.specs.declared.facts.Rule.{Rule}
use Rattle.shader_uniformity_needs.specs.Notes.{begun_at, Follows}
use Rattle.shader_uniformity_needs.specs.Passes.{passes_at}
use Rattle.shader_uniformity_needs.specs.Violations.{Begins, IsViolated, MayHold}
use Rattle.shader_uniformity_needs.specs.declared.needs.Need.{Need}
use Rattle.shader_uniformity_needs.specs.declared.needs.Pass.{Pass}
use Rattle.shader_uniformity_needs.specs.declared.needs.Violation.{Violation}
use Rattle.shader_uniformity_needs.specs.declared.search.Search.{Search}

-- a call of a body, which begins with one of some facts, passes a fact to function i
abbrev pub IsPassed : List Rule → List Pass → List Fact → ℕ → Fact → Type 0
IsPassed rules passes firsts i fact =
    (pass : Pass) × (pass.function ≡ i) × (pass.beginning ≡ fact) × Contains passes pass × Follows rules firsts pass.cause

-- the body has a need, and what violates it may be true in a call that begins with one of some facts
abbrev pub IsFoundIn : List Rule → List Need → BodyLocation → List Fact → Violation → Type 0
IsFoundIn rules needs place firsts violation =
    (violation.place ≡ place) × Contains needs violation.need × Follows rules firsts violation.need.violated_by

-- the search goes over the body at a place, whose calls begin with some facts
pub record Searches (rules : List Rule) (needs : List Need) (passes : List Pass) (place : BodyLocation) (firsts : List Fact)
    (old new : Search) : Type 0 where
  pub long : length new.begun.items ≡ length old.begun.items
  pub begun : (i : ℕ) (fact : Fact) → i < length old.begun.items → Contains (begun_at new.begun.items i) fact
      ↔ (Contains (begun_at old.begun.items i) fact ⊎ IsPassed rules passes firsts i fact)
  pub found : (violation : Violation) → Contains new.found.items violation
      ↔ (Contains old.found.items violation ⊎ IsFoundIn rules needs place firsts violation)

-- the search is done with the functions and entry points from some numbers on
abbrev pub IsDone : (functions points : ℕ) → BodyLocation → Type 0
IsDone functions points (body.Function i) = functions ≤ i
IsDone functions points (body.EntryPoint i) = points ≤ i

module _ (m : Module) (known : List (List Rule)) where
  -- what these have violated is found, and what they pass to functions that are left is noted
  pub record IsSearched (functions points : ℕ) (search : Search) : Type 0 where
    pub begins : (i : ℕ) (fact : Fact) → Contains (begun_at search.begun.items i) fact → Begins m known (body.Function i) fact
    pub passed : (caller : BodyLocation) (pass : Pass) → IsDone functions points caller → pass.function < length search.begun.items →
        IsBefore m (body.Function pass.function) caller → Contains (passes_at m caller) pass →
        MayHold m known caller pass.cause → Contains (begun_at search.begun.items pass.function) pass.beginning
    pub sound : (violation : Violation) → Contains search.found.items violation → IsViolated m known violation
    pub complete : (violation : Violation) → IsDone functions points violation.place → IsViolated m known violation →
        Contains search.found.items violation

  -- exactly the violations
  abbrev pub AreViolations : List Violation → Type 0
  AreViolations found = (violation : Violation) → Contains found violation ↔ IsViolated m known violation
