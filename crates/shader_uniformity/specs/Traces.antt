-- How a fact follows from a first one by rules: a trace that goes back from it.
use Rattle.std.specs.Prelude.{ℕ, ◌≤◌, List, [], ◌∷◌, true, false, Option, Some, None, slice_get, sum_by, take}
use Rattle.std.specs.Global.{Vec}
use Rattle.std.specs.List.{Contains}
use Rattle.shader_uniformity.specs.Words.{Module, Function, EntryPoint}
use Rattle.shader_uniformity.specs.Costs.{cost}
use Rattle.shader_uniformity.specs.Fault.{function_rules, severity}
use Rattle.shader_uniformity.specs.Marks.{Marked}
use Rattle.shader_uniformity.specs.declared.facts.BodyLocation.{BodyLocation}
use Rattle.shader_uniformity.specs.declared.facts.BodyLocation.TheVariants as body
use Rattle.shader_uniformity.specs.declared.facts.Fact.{Fact}
use Rattle.shader_uniformity.specs.declared.facts.Rule.{Rule}

-- each rule gives the fact before it, or what its place holds already at an earlier moment; the last one's cause is the first fact, or
-- follows from it so
abbrev pub IsTrace : List Rule → (last : Fact) → List Rule → (first : Fact) → Type 0
IsTrace rules last [] first = Marked [] first last
IsTrace rules last (rule ∷ trace) first = Contains rules rule × Marked [] rule.effect last × IsTrace rules rule.cause trace first

-- a trace, or none if the last fact doesn't follow from the first one
abbrev pub IsTraceOf : List Rule → (first last : Fact) → Option (Vec Rule) → Type 0
IsTraceOf rules first last (Some trace) = IsTrace rules last trace.items first
IsTraceOf rules first last None = Marked rules first last → ⊥

-- no other trace costs less
abbrev pub IsShortest : List Rule → (first last : Fact) → List Rule → Type 0
IsShortest rules first last trace = (other : List Rule) → IsTrace rules last other first → sum_by cost trace ≤ sum_by cost other

-- the laws of traces: what has one follows from the first fact, and what follows has one
abbrev pub TracesAreMarks : Type 0
TracesAreMarks = (rules trace : List Rule) (last first : Fact) → IsTrace rules last trace first → Marked rules first last

abbrev pub MarksHaveTraces : Type 0
MarksHaveTraces = (rules : List Rule) (last first : Fact) → Marked rules first last → (trace : List Rule) × IsTrace rules last trace first

module _ (m : Module) (known : List (List Rule)) where
  -- the rules of a function or entry point of a module, with what is known of the functions before it
  abbrev pub rules_of_function : ℕ → Option Function → List Rule
  rules_of_function i (Some f) = function_rules m (take i known) (severity m f) false f
  rules_of_function i None = []

  abbrev pub rules_of_point : Option EntryPoint → List Rule
  rules_of_point (Some point) = function_rules m known (severity m point.function) true point.function
  rules_of_point None = []

  abbrev pub rules_at : BodyLocation → List Rule
  rules_at (body.Function i) = rules_of_function i (slice_get m.functions i)
  rules_at (body.EntryPoint i) = rules_of_point (slice_get m.entry_points i)
