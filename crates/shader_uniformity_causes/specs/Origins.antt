-- Which calls of a body give one of its rules, and by what is known of the called functions.
use Rattle.std.specs.Prelude.{◌≡◌, ◌↔◌, ℕ, ◌+◌, ◌==◌, ◌&&◌, Bool, true, false, List, [], ◌∷◌, ◌++◌, Option, Some, None, slice_get, take}
use Rattle.std.specs.List.{flat_map, list_any}
use Rattle.shader_uniformity.specs.Calls.{filled}
use Rattle.shader_uniformity.specs.Cells.{cell, moment}
use Rattle.shader_uniformity.specs.Places.{places}
use Rattle.shader_uniformity.specs.Positions.{step_end, block_end, reads_at}
use Rattle.shader_uniformity.specs.Words.{Body, End, Then, Step, Leaf, Nested, If, Switch, Loop, Cases, NoCase, Case, Simple, Call}
use Rattle.shader_uniformity.specs.Words.{EntryPoint, Function, Module}
use Rattle.shader_uniformity.specs.declared.facts.BodyLocation.{BodyLocation}
use Rattle.shader_uniformity.specs.declared.facts.BodyLocation.TheVariants as body
use Rattle.shader_uniformity.specs.declared.facts.Fact.{Fact}
use Rattle.shader_uniformity.specs.declared.facts.Place.{Place}
use Rattle.shader_uniformity.specs.declared.facts.Rule.{Rule}
use Rattle.shader_uniformity_causes.specs.declared.origins.Origin.{Origin}

-- two facts are the same, by their cells
abbrev pub is_same_fact : Fact → Fact → Bool
is_same_fact fact other = (cell fact == cell other) && (moment fact == moment other)

abbrev pub is_same_rule : Rule → Rule → Bool
is_same_rule rule other = is_same_fact rule.cause other.cause && is_same_fact rule.effect other.effect

-- the call at n, with `around`, passes `arguments` to a function and has `value` for its result
module _ (places : List Place) (n : ℕ) (around : Option ℕ) (arguments : List ℕ) (value : Option ℕ) (rule : Rule) where
  -- a rule that is known of the called function gives the rule there
  abbrev pub is_given : Rule → Bool
  is_given known = list_any (is_same_rule rule) (filled places n around arguments value known)

  abbrev pub origin_if : Bool → (function : ℕ) → Rule → List Origin
  origin_if true function known = record { function = function; rule = known } ∷ []
  origin_if false function known = []

  abbrev pub origin : (function : ℕ) → Rule → List Origin
  origin function known = origin_if (is_given known) function known

  abbrev pub origins_in : (function : ℕ) → Option (List Rule) → List Origin
  origins_in function (Some known) = flat_map (origin function) known
  origins_in function None = []

-- `callees`: what is known of the functions that may be called
module _ (places : List Place) (callees : List (List Rule)) (rule : Rule) where
  -- a statement without blocks, at n
  abbrev pub simple_origins : (position : ℕ) → Option ℕ → Simple → List Origin
  simple_origins n around (Call c arguments result) = origins_in places n around arguments result rule c (slice_get callees c)
  simple_origins n around _ = []

  -- a statement with blocks gives nothing by itself
  abbrev pub own_origins : (position : ℕ) → Option ℕ → Step → List Origin
  own_origins n around (Leaf simple) = simple_origins n around simple
  own_origins n around _ = []

  abbrev mutual
    -- a statement at n
    pub step_origins : (position : ℕ) → Option ℕ → Step → List Origin
    step_origins n around (Leaf simple) = simple_origins n around simple
    step_origins n around (Nested x) = block_origins (n + 1) around x
    step_origins n around (If c x y) = block_origins (n + 1) around x ++ block_origins (block_end (n + 1) x) around y
    step_origins n around (Switch e cs) = cases_origins ((n + 1) + 1) around cs
    step_origins n around (Loop x y k) =
        block_origins ((n + 1) + 1) (Some (reads_at n around)) x
        ++ block_origins (block_end ((n + 1) + 1) x) (Some (reads_at n around)) y

    -- the statements from n on
    pub block_origins : (position : ℕ) → Option ℕ → Body → List Origin
    block_origins n around End = []
    block_origins n around (Then s b) = step_origins n around s ++ block_origins (step_end n s) around b

    -- the cases from p on
    pub cases_origins : (position : ℕ) → Option ℕ → Cases → List Origin
    cases_origins p around NoCase = []
    cases_origins p around (Case v x fall cs) = block_origins p around x ++ cases_origins (block_end p x) around cs

abbrev pub function_origins : Module → Rule → (callees : List (List Rule)) → Function → List Origin
function_origins m rule callees f = block_origins (places m f.expressions) callees rule 1 None f.body

-- `known`: what is known of the functions
module _ (m : Module) (known : List (List Rule)) (rule : Rule) where
  abbrev pub origins_of_function : ℕ → Option Function → List Origin
  origins_of_function i (Some f) = function_origins m rule (take i known) f
  origins_of_function i None = []

  abbrev pub origins_of_point : Option EntryPoint → List Origin
  origins_of_point (Some point) = function_origins m rule known point.function
  origins_of_point None = []

  -- in the body at a location, in the order of the text
  abbrev pub origins_at : BodyLocation → List Origin
  origins_at (body.Function i) = origins_of_function i (slice_get m.functions i)
  origins_at (body.EntryPoint i) = origins_of_point (slice_get m.entry_points i)

-- the law of the comparison: it tells whether two rules are equal
abbrev pub SameAreEqual : Type 0
SameAreEqual = (rule other : Rule) → is_same_rule rule other ≡ true ↔ rule ≡ other
