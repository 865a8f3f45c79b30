-- The ways to all statements of a body, by their positions.
use Rattle.std.specs.Prelude.{◌≡◌, ℕ, ◌+◌, List, [], ◌∷◌, ◌++◌, Option, Some, None, map, option_and_then, slice_get}
use Rattle.std.specs.Option.{option_map}
use Rattle.shader_ir.specs.declared.module.Module.{Module}
use Rattle.shader_ir.specs.Body.{Body, End, Then, Step, Leaf, Nested, If, Switch, Loop, Cases, NoCase, Case}
use Rattle.report_places.specs.Paths.{way_to}
use Rattle.report_places.specs.Sites.{way_at}
use Rattle.report_places.specs.declared.body_place.BodyPlace.{BodyPlace}
use Rattle.report_places.specs.declared.paths.PathStep.{PathStep}
use Rattle.report_places.specs.declared.paths.PathStep.TheVariants as to
use Rattle.report_places.specs.declared.paths.StatementAt.{StatementAt}
use Rattle.report_places.specs.declared.paths.Wanted.TheVariants.{At}

-- at each position the way to the statement there, behind the way to what it stands in; the end of a block has a position, too, and so have
-- the cases of a Switch together and the rounds of a Loop
abbrev mutual
  -- from number i on
  pub ways_in_block : (above : List PathStep) → (i : ℕ) → Body → List (Option (List PathStep))
  ways_in_block above i End = None ∷ []
  ways_in_block above i (Then s b) =
      Some (above ++ (to.Statement i ∷ [])) ∷ (ways_in_step (above ++ (to.Statement i ∷ [])) s ++ ways_in_block above (i + 1) b)

  pub ways_in_step : (way : List PathStep) → Step → List (Option (List PathStep))
  ways_in_step way (Leaf simple) = []
  ways_in_step way (Nested x) = ways_in_block (way ++ (to.Block ∷ [])) 0 x
  ways_in_step way (If c x y) = ways_in_block (way ++ (to.Accept ∷ [])) 0 x ++ ways_in_block (way ++ (to.Reject ∷ [])) 0 y
  ways_in_step way (Switch e cs) = None ∷ ways_in_cases way 0 cs
  ways_in_step way (Loop x y k) = None ∷ (ways_in_block (way ++ (to.Body ∷ [])) 0 x ++ ways_in_block (way ++ (to.Continuing ∷ [])) 0 y)

  -- from number i on
  pub ways_in_cases : (way : List PathStep) → (i : ℕ) → Cases → List (Option (List PathStep))
  ways_in_cases way i NoCase = []
  ways_in_cases way i (Case v x fall cs) = ways_in_block (way ++ (to.Case i ∷ [])) 0 x ++ ways_in_cases way (i + 1) cs

-- the ways that a table holds
abbrev pub ways_of : List (Option StatementAt) → List (Option (List PathStep))
ways_of rows = map (option_map (λ at. at.path.steps)) rows

-- the way at a position of a table
abbrev pub way_in : List (Option (List PathStep)) → ℕ → Option (List PathStep)
way_in ways p = option_and_then (λ way. way) (slice_get ways p)

-- the table has the way to each statement of the body
abbrev pub IsOutline : Body → List (Option StatementAt) → Type 0
IsOutline body rows = (p : ℕ) → way_in (ways_of rows) p ≡ way_to (At p) body

-- the table has the way to each statement at a place of the module
abbrev pub IsOutlineAt : Module → BodyPlace → List (Option StatementAt) → Type 0
IsOutlineAt m place rows = (p : ℕ) → way_in (ways_of rows) p ≡ way_at m place (At p)
