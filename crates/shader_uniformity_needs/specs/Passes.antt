-- The facts that the calls of a body pass to the functions that they call.
use Rattle.std.specs.Prelude.{ℕ, ◌+◌, List, [], ◌∷◌, ◌++◌, Option, Some, None, map, slice_get}
use Rattle.shader_uniformity.specs.Words.{Body, End, Then, Step, Leaf, Nested, If, Switch, Loop, Cases, NoCase, Case, Simple, Call}
use Rattle.shader_uniformity.specs.Words.{EntryPoint, Function, Module}
use Rattle.shader_uniformity.specs.Calls.{cause_of}
use Rattle.shader_uniformity.specs.Fault.{arguments_from}
use Rattle.shader_uniformity.specs.Places.{places}
use Rattle.shader_uniformity.specs.Positions.{step_end, block_end, reads_at}
use Rattle.shader_uniformity.specs.declared.facts.BodyLocation.{BodyLocation}
use Rattle.shader_uniformity.specs.declared.facts.BodyLocation.TheVariants as body
use Rattle.shader_uniformity.specs.declared.facts.Fact.{Fact}
use Rattle.shader_uniformity.specs.declared.facts.Fact.TheVariants.{Flow}
use Rattle.shader_uniformity.specs.declared.facts.Place.{Place}
use Rattle.shader_uniformity_needs.specs.declared.needs.Pass.{Pass}

-- the call at n, with `around`, passes `arguments` to a function and has `value` for its result
module _ (places : List Place) (n : ℕ) (around : Option ℕ) (arguments : List ℕ) (value : Option ℕ) (function : ℕ) where
  abbrev pub pass : Fact → Pass
  pass beginning = record { function = function; cause = cause_of places n around arguments value beginning; beginning = beginning }

  -- for each fact but `Always` with which the called function may begin
  abbrev pub passes_to : Option Function → List Pass
  passes_to (Some called) = map pass (Flow ∷ arguments_from 0 called.arguments)
  passes_to None = []

-- `functions`: those that may be called
module _ (functions : List Function) (places : List Place) where
  -- a statement without blocks, at n
  abbrev pub simple_passes : (position : ℕ) → Option ℕ → Simple → List Pass
  simple_passes n around (Call c arguments result) = passes_to places n around arguments result c (slice_get functions c)
  simple_passes n around _ = []

  -- a statement with blocks passes nothing by itself
  abbrev pub own_passes : (position : ℕ) → Option ℕ → Step → List Pass
  own_passes n around (Leaf simple) = simple_passes n around simple
  own_passes n around _ = []

  abbrev mutual
    -- a statement at n
    pub step_passes : (position : ℕ) → Option ℕ → Step → List Pass
    step_passes n around (Leaf simple) = simple_passes n around simple
    step_passes n around (Nested x) = block_passes (n + 1) around x
    step_passes n around (If c x y) = block_passes (n + 1) around x ++ block_passes (block_end (n + 1) x) around y
    step_passes n around (Switch e cs) = cases_passes ((n + 1) + 1) around cs
    step_passes n around (Loop x y k) =
        block_passes ((n + 1) + 1) (Some (reads_at n around)) x
        ++ block_passes (block_end ((n + 1) + 1) x) (Some (reads_at n around)) y

    -- the statements from n on
    pub block_passes : (position : ℕ) → Option ℕ → Body → List Pass
    block_passes n around End = []
    block_passes n around (Then s b) = step_passes n around s ++ block_passes (step_end n s) around b

    -- the cases from p on
    pub cases_passes : (position : ℕ) → Option ℕ → Cases → List Pass
    cases_passes p around NoCase = []
    cases_passes p around (Case v x fall cs) = block_passes p around x ++ cases_passes (block_end p x) around cs

module _ (m : Module) where
  abbrev pub function_passes : Function → List Pass
  function_passes f = block_passes m.functions (places m f.expressions) 1 None f.body

  abbrev pub passes_of_function : Option Function → List Pass
  passes_of_function (Some f) = function_passes f
  passes_of_function None = []

  abbrev pub passes_of_point : Option EntryPoint → List Pass
  passes_of_point (Some point) = function_passes point.function
  passes_of_point None = []

  -- those of the body at a location
  abbrev pub passes_at : BodyLocation → List Pass
  passes_at (body.Function i) = passes_of_function (slice_get m.functions i)
  passes_at (body.EntryPoint i) = passes_of_point (slice_get m.entry_points i)
