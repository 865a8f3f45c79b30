-- The way to a statement of a body.
use Rattle.std.specs.Prelude.{◌≡◌, ℕ, ◌+◌, nat_eq, nat_le, nat_lt, Bool, false, ◌&&◌, List, [], ◌∷◌, Option, Some, None}
use Rattle.std.specs.Prelude.{if◌then◌else◌, ⊤}
use Rattle.std.specs.Option.{option_map}
use Rattle.shader_ir.specs.Body.{Body, End, Then, Step, Leaf, Nested, If, Switch, Loop, Cases, NoCase, Case, Simple, Emit, Atomic}
use Rattle.shader_ir.specs.Body.{WorkGroupUniformLoad, Call, RayQuery, SubgroupBallot, SubgroupGather, SubgroupCollectiveOperation}
use Rattle.shader_ir.specs.declared.statement.RayQueryFunction.TheVariants.{Proceed}
use Rattle.shader_uniformity.specs.Positions.{block_end, step_end}
use Rattle.report_places.specs.declared.paths.PathStep.{PathStep}
use Rattle.report_places.specs.declared.paths.PathStep.TheVariants as to
use Rattle.report_places.specs.declared.paths.Search.{Search}
use Rattle.report_places.specs.declared.paths.Search.TheVariants.{Found, Behind}
use Rattle.report_places.specs.declared.paths.Wanted.{Wanted}
use Rattle.report_places.specs.declared.paths.Wanted.TheVariants.{At, Evaluating}

-- an Emit from start up to finish evaluates the expression
abbrev pub is_within : (start finish expression : ℕ) → Bool
is_within start finish e = nat_le start e && nat_lt e finish

abbrev simple_evaluates : ℕ → Simple → Bool
simple_evaluates e (Emit start finish) = is_within start finish e
simple_evaluates e (Atomic pointer fun value result) = nat_eq result e
simple_evaluates e (WorkGroupUniformLoad pointer result) = nat_eq result e
simple_evaluates e (Call c arguments (Some result)) = nat_eq result e
simple_evaluates e (RayQuery query (Proceed result)) = nat_eq result e
simple_evaluates e (SubgroupBallot result predicate) = nat_eq result e
simple_evaluates e (SubgroupGather mode argument result) = nat_eq result e
simple_evaluates e (SubgroupCollectiveOperation op collective_op argument result) = nat_eq result e
simple_evaluates e _ = false

-- a statement evaluates an expression: by an Emit, or as its result
abbrev pub evaluates : ℕ → Step → Bool
evaluates e (Leaf simple) = simple_evaluates e simple
evaluates e _ = false

abbrev pub is_wanted : Wanted → ℕ → Step → Bool
is_wanted (At position) n s = nat_eq n position
is_wanted (Evaluating e) n s = evaluates e s

abbrev pub or_else : Option (List PathStep) → Option (List PathStep) → Option (List PathStep)
or_else (Some way) other = Some way
or_else None other = other

abbrev pub after : PathStep → Option (List PathStep) → Option (List PathStep)
after step way = option_map (λ steps. step ∷ steps) way

-- the way to the first statement that is wanted
abbrev mutual
  -- in the blocks of the statement at n
  pub way_in_step : ℕ → Wanted → Step → Option (List PathStep)
  way_in_step n w (Leaf simple) = None
  way_in_step n w (Nested x) = after to.Block (way_in_block 0 (n + 1) w x)
  way_in_step n w (If c x y) =
      or_else (after to.Accept (way_in_block 0 (n + 1) w x)) (after to.Reject (way_in_block 0 (block_end (n + 1) x) w y))
  way_in_step n w (Switch e cs) = way_in_cases 0 ((n + 1) + 1) w cs
  way_in_step n w (Loop x y k) =
      or_else (after to.Body (way_in_block 0 ((n + 1) + 1) w x))
      (after to.Continuing (way_in_block 0 (block_end ((n + 1) + 1) x) w y))

  -- among the statements of a block from number i on, of which the first is at n
  pub way_in_block : (i n : ℕ) → Wanted → Body → Option (List PathStep)
  way_in_block i n w End = None
  way_in_block i n w (Then s b) =
      if is_wanted w n s then Some (to.Statement i ∷ [])
      else or_else (after (to.Statement i) (way_in_step n w s)) (way_in_block (i + 1) (step_end n s) w b)

  -- in the cases from number i on, of which the first is at n
  pub way_in_cases : (i n : ℕ) → Wanted → Cases → Option (List PathStep)
  way_in_cases i n w NoCase = None
  way_in_cases i n w (Case v x fall cs) =
      or_else (after (to.Case i) (way_in_block 0 n w x)) (way_in_cases (i + 1) (block_end n x) w cs)

-- the way to the first statement of a body that is wanted
abbrev pub way_to : Wanted → Body → Option (List PathStep)
way_to w body = way_in_block 0 1 w body

-- what a search has found
abbrev pub path_of : Search → Option (List PathStep)
path_of (Found way statement) = Some way.items
path_of (Behind position) = None

abbrev pub end_of : Search → Option ℕ
end_of (Found way statement) = None
end_of (Behind position) = Some position

-- a search that found nothing ends there
abbrev pub IsEnd : Search → ℕ → Type 0
IsEnd (Found way statement) end = ⊤
IsEnd (Behind position) end = position ≡ end
