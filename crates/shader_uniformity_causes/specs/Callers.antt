-- The calls that pass facts to the functions of a module, where what passes them may be true.
use Rattle.std.specs.Prelude.{◌≡◌, ◌<◌, ◌≤◌, ◌⊎◌, ℕ, true, List, [], ◌∷◌, Option, Some, None, length, map, slice_get}
use Rattle.std.specs.Global.{Vec}
use Rattle.std.specs.List.{Contains}
use Rattle.shader_uniformity.specs.Cells.{holds}
use Rattle.shader_uniformity.specs.Fault.{IsBefore}
use Rattle.shader_uniformity.specs.Words.{Module}
use Rattle.shader_uniformity.specs.declared.facts.BodyLocation.{BodyLocation}
use Rattle.shader_uniformity.specs.declared.facts.BodyLocation.TheVariants as body
use Rattle.shader_uniformity.specs.declared.facts.Fact.{Fact}
use Rattle.shader_uniformity.specs.declared.facts.Fact.TheVariants.{Always}
use Rattle.shader_uniformity.specs.declared.facts.Rule.{Rule}
use Rattle.shader_uniformity_needs.specs.Passes.{passes_at}
use Rattle.shader_uniformity_needs.specs.Notes.{Follows}
use Rattle.shader_uniformity_needs.specs.Violations.{Begins, MayHold}
use Rattle.shader_uniformity_needs.specs.declared.needs.Pass.{Pass}
use Rattle.shader_uniformity_causes.specs.declared.causes.PassedBy.{PassedBy}

abbrev pub items_of : Option (Vec PassedBy) → List PassedBy
items_of (Some calls) = calls.items
items_of None = []

-- what callers pass to function i
abbrev pub passed_to : List (Vec PassedBy) → ℕ → List PassedBy
passed_to callers i = items_of (slice_get callers i)

-- nothing is passed to an entry point
abbrev pub passed_at : List (Vec PassedBy) → BodyLocation → List PassedBy
passed_at callers (body.Function i) = passed_to callers i
passed_at callers (body.EntryPoint i) = []

abbrev pub beginning_of : PassedBy → Fact
beginning_of by = by.pass.beginning

-- the facts with which calls begin, besides `Always`
abbrev pub firsts_of : List PassedBy → List Fact
firsts_of calls = map beginning_of calls

-- a function from a number on, or one of the first entry points
abbrev pub IsDone : (functions points : ℕ) → BodyLocation → Type 0
IsDone functions points (body.Function i) = functions ≤ i
IsDone functions points (body.EntryPoint i) = i < points

-- `known`: what is known of the functions
module _ (m : Module) (known : List (List Rule)) where
  -- a later function or entry point calls the function at a place, and what it passes may be true
  pub record IsPassed (place : BodyLocation) (by : PassedBy) : Type 0 where
    pub at : place ≡ body.Function by.pass.function
    pub before : IsBefore m place by.caller
    pub within : Contains (passes_at m by.caller) by.pass
    pub holds : MayHold m known by.caller by.pass.cause

  -- such calls alone, and at least one for each fact with which calls of a function may begin
  pub record AreCallers (callers : List (Vec PassedBy)) : Type 0 where
    pub sound : (place : BodyLocation) (by : PassedBy) → Contains (passed_at callers place) by → IsPassed place by
    pub complete : (place : BodyLocation) (fact : Fact) → Begins m known place fact →
        Contains (Always ∷ firsts_of (passed_at callers place)) fact

  -- the callers are found that are done, those from a number on and so many entry points
  pub record AreFound (functions points : ℕ) (callers : List (Vec PassedBy)) : Type 0 where
    pub long : length callers ≡ length m.functions
    pub sound : (i : ℕ) (by : PassedBy) → Contains (passed_to callers i) by → IsPassed (body.Function i) by
    pub complete : (caller : BodyLocation) (pass : Pass) → IsDone functions points caller →
        IsBefore m (body.Function pass.function) caller → Contains (passes_at m caller) pass → MayHold m known caller pass.cause →
        Contains (firsts_of (passed_to callers pass.function)) pass.beginning

-- a call is added, unless another one passes the same fact
pub record Adds (by : PassedBy) (old new : List PassedBy) : Type 0 where
  pub kept : (other : PassedBy) → Contains old other → Contains new other
  pub sound : (other : PassedBy) → Contains new other → Contains old other ⊎ (other ≡ by)
  pub complete : Contains (firsts_of new) by.pass.beginning

-- and so to its function, if that is one of the first
pub record AddsTo (limit : ℕ) (by : PassedBy) (old new : List (Vec PassedBy)) : Type 0 where
  pub long : length new ≡ length old
  pub kept : (i : ℕ) (other : PassedBy) → Contains (passed_to old i) other → Contains (passed_to new i) other
  pub sound : (i : ℕ) (other : PassedBy) → Contains (passed_to new i) other →
      Contains (passed_to old i) other ⊎ ((other ≡ by) × (by.pass.function ≡ i) × (i < limit))
  pub complete : by.pass.function < limit → Contains (firsts_of (passed_to new by.pass.function)) by.pass.beginning

-- a call by the body at a place, of one of the first functions, that passes what the table has
pub record IsNoted (table : List (Option ℕ)) (place : BodyLocation) (limit : ℕ) (passes : List Pass) (i : ℕ) (by : PassedBy) : Type 0
  where
    pub at : by.pass.function ≡ i
    pub before : i < limit
    pub caller : by.caller ≡ place
    pub within : Contains passes by.pass
    pub true_in : holds table by.pass.cause ≡ true

-- what is passed to the first functions is noted
pub record Notes (table : List (Option ℕ)) (place : BodyLocation) (limit : ℕ) (passes : List Pass) (old new : List (Vec PassedBy))
    : Type 0 where
  pub long : length new ≡ length old
  pub kept : (i : ℕ) (by : PassedBy) → Contains (passed_to old i) by → Contains (passed_to new i) by
  pub sound : (i : ℕ) (by : PassedBy) → Contains (passed_to new i) by →
      Contains (passed_to old i) by ⊎ IsNoted table place limit passes i by
  pub complete : (pass : Pass) → Contains passes pass → holds table pass.cause ≡ true → pass.function < limit →
      Contains (firsts_of (passed_to new pass.function)) pass.beginning

-- what the body at a place passes to the first functions is found, where its calls begin with some facts
pub record Finds (rules : List Rule) (passes : List Pass) (place : BodyLocation) (limit : ℕ) (firsts : List Fact)
    (old new : List (Vec PassedBy)) : Type 0 where
  pub long : length new ≡ length old
  pub kept : (i : ℕ) (by : PassedBy) → Contains (passed_to old i) by → Contains (passed_to new i) by
  pub sound : (i : ℕ) (by : PassedBy) → Contains (passed_to new i) by → Contains (passed_to old i) by
      ⊎ ((by.pass.function ≡ i) × (i < limit) × (by.caller ≡ place) × Contains passes by.pass
      × Follows rules firsts by.pass.cause)
  pub complete : (pass : Pass) → Contains passes pass → Follows rules firsts pass.cause → pass.function < limit →
      Contains (firsts_of (passed_to new pass.function)) pass.beginning
