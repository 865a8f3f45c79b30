-- Where flow is apart: only some of the invocations that entered the call come there.
use Rattle.std.specs.Prelude.{ℕ, ◌+◌, Bool, true, false, List, [], ◌∷◌, ◌++◌, Option, Some, None, slice_get}
use Rattle.std.specs.List.{flat_map}
use Rattle.shader_ir.specs.declared.statement.RayPipelineFunction.TheVariants.{TraceRay}
use Rattle.shader_ir.specs.declared.statement.RayQueryFunction.TheVariants.{Proceed}
use Rattle.shader_uniformity.specs.Words.{Body, End, Then, Step, Leaf, Nested, If, Switch, Loop, Cases, NoCase, Case, Simple, Emit}
use Rattle.shader_uniformity.specs.Words.{Break, Continue, Return, ControlBarrier, MemoryBarrier, Store, Atomic}
use Rattle.shader_uniformity.specs.Words.{WorkGroupUniformLoad, Call, RayQuery, RayPipeline, SubgroupBallot, SubgroupGather}
use Rattle.shader_uniformity.specs.Words.{SubgroupCollectiveOperation, CooperativeStore, Expression, RayQueryFunction, positions_between}
use Rattle.shader_uniformity.specs.Calls.{call_rules}
use Rattle.shader_uniformity.specs.Differs.{emit_rules, store_rule, store_rules}
use Rattle.shader_uniformity.specs.Leaves.{pass_rules, all_pass_rules, part_rules, case_rules, cases_escape}
use Rattle.shader_uniformity.specs.Marks.{leads}
use Rattle.shader_uniformity.specs.Needs.{need}
use Rattle.shader_uniformity.specs.Positions.{step_end, block_end, cases_end, reads_at}
use Rattle.shader_uniformity.specs.declared.facts.Fact.TheVariants.{Always, Apart, Leaves, Differs, Must, Gives}
use Rattle.shader_uniformity.specs.declared.facts.Jump.TheVariants as jump
use Rattle.shader_uniformity.specs.declared.facts.Place.{Place}
use Rattle.shader_uniformity.specs.declared.facts.Rule.{Rule}

-- the value that a Return gives
abbrev pub value_rules : ℕ → Option ℕ → List Rule
value_rules n (Some value) = leads (Differs value) Gives ∷ leads (Apart n) Gives ∷ []
value_rules n None = []

-- a block that a statement enters by the value of an expression
abbrev pub branch_rules : (position condition block : ℕ) → List Rule
branch_rules n c p = leads (Apart n) (Apart p) ∷ leads (Differs c) (Apart p) ∷ []

-- a case, behind one that falls through
abbrev pub fall_rules : Option ℕ → ℕ → List Rule
fall_rules (Some fallen) p = leads (Apart fallen) (Apart p) ∷ part_rules fallen p
fall_rules None p = []

abbrev pub falls_from : Bool → ℕ → Option ℕ
falls_from true p = Some p
falls_from false p = None

abbrev pub enter_case_rules : (switch selector : ℕ) → Option ℕ → ℕ → List Rule
enter_case_rules n e fallen p = branch_rules n e p ++ fall_rules fallen p

-- the end of a Loop's rounds
abbrev pub end_rules : ℕ → Option ℕ → List Rule
end_rules rounds (Some condition) = leads (Differs condition) (Apart rounds) ∷ []
end_rules rounds None = []

-- the rounds of the Loop at n, which are apart together, and its body
abbrev pub enter_loop_rules : (position rounds body : ℕ) → Option ℕ → List Rule
enter_loop_rules n rounds body k = leads (Apart n) (Apart rounds) ∷ leads (Apart rounds) (Apart body) ∷ end_rules rounds k

abbrev pub continuing_rules : (rounds continuing : ℕ) → List Rule
continuing_rules rounds continuing = leads (Apart rounds) (Apart continuing) ∷ []

-- what leaves a body or continuing block parts the rounds, and a Return goes on
abbrev pub leave_loop_rules : (rounds body continuing outer behind : ℕ) → List Rule
leave_loop_rules rounds body continuing outer behind =
    part_rules body rounds ++ part_rules continuing rounds
    ++ pass_rules body outer behind jump.Return ++ pass_rules continuing outer behind jump.Return

-- where something leaves a Switch for good, its Breaks count too
abbrev pub break_rules : Bool → (cases behind : ℕ) → List Rule
break_rules true cases behind = leads (Leaves jump.Break cases) (Apart behind) ∷ []
break_rules false cases behind = []

abbrev pub leave_switch_rules : (cases outer behind : ℕ) → Bool → List Rule
leave_switch_rules cases outer behind escapes =
    pass_rules cases outer behind jump.Continue ++ pass_rules cases outer behind jump.Return ++ break_rules escapes cases behind

abbrev pub query_rules : List Place → (position : ℕ) → Option ℕ → (query : ℕ) → RayQueryFunction → List Rule
query_rules places n around query (Proceed result) =
    leads Always (Differs result) ∷ store_rule places n around query Always ∷ []
query_rules places n around query _ = store_rule places n around query Always ∷ []

-- the value that all invocations are given
abbrev pub uniform_load_rules : (position pointer value : ℕ) → List Rule
uniform_load_rules n pointer value = leads (Apart n) Must ∷ leads (Differs pointer) Must ∷ leads (Apart n) (Differs value) ∷ []

-- `callees`: what is known of the functions that may be called. `severe`: the filters leave what needs uniform flow an error
module _ (expressions : List Expression) (places : List Place) (callees : List (List Rule)) (severe : Bool) where
  -- a statement without blocks, at n in the block at q
  abbrev pub simple_rules : (block position : ℕ) → Option ℕ → Simple → List Rule
  simple_rules q n around (Emit start finish) =
      flat_map (emit_rules places n around severe expressions) (positions_between start finish)
  simple_rules q n around Break = leads (Apart n) (Leaves jump.Break q) ∷ []
  simple_rules q n around Continue = leads (Apart n) (Leaves jump.Continue q) ∷ []
  simple_rules q n around (Return value) = leads (Apart n) (Leaves jump.Return q) ∷ value_rules n value
  simple_rules q n around (ControlBarrier barrier) = need n
  simple_rules q n around (MemoryBarrier barrier) = need n
  simple_rules q n around (Store pointer value) = store_rules places n around pointer value
  simple_rules q n around (Atomic pointer fun value result) =
      leads Always (Differs result) ∷ store_rule places n around pointer Always ∷ []
  simple_rules q n around (WorkGroupUniformLoad pointer result) = uniform_load_rules n pointer result
  simple_rules q n around (Call c arguments result) = call_rules places n around arguments result (slice_get callees c)
  simple_rules q n around (RayQuery query fun) = query_rules places n around query fun
  simple_rules q n around (RayPipeline (TraceRay acceleration_structure descriptor payload)) =
      store_rule places n around payload Always ∷ []
  simple_rules q n around (SubgroupBallot result predicate) = leads Always (Differs result) ∷ []
  simple_rules q n around (SubgroupGather mode argument result) = leads Always (Differs result) ∷ []
  simple_rules q n around (SubgroupCollectiveOperation op collective_op argument result) = leads Always (Differs result) ∷ []
  simple_rules q n around (CooperativeStore target tile) =
      leads (Apart n) Must ∷ store_rules places n around tile.pointer target
  simple_rules q n around _ = []

  -- a statement with blocks has rules of its own too
  abbrev pub own_rules : (block position : ℕ) → Option ℕ → Step → List Rule
  own_rules q n around (Leaf simple) = simple_rules q n around simple
  own_rules q n around _ = []

  abbrev mutual
    -- a statement at n in the block at q
    pub step_rules : (block position : ℕ) → Option ℕ → Step → List Rule
    step_rules q n around (Leaf simple) = simple_rules q n around simple
    step_rules q n around (Nested x) =
        leads (Apart n) (Apart (n + 1)) ∷ (block_rules (n + 1) (n + 1) around x ++ all_pass_rules (n + 1) q (block_end (n + 1) x))
    step_rules q n around (If c x y) =
        branch_rules n c (n + 1) ++ block_rules (n + 1) (n + 1) around x
        ++ branch_rules n c (block_end (n + 1) x) ++ block_rules (block_end (n + 1) x) (block_end (n + 1) x) around y
        ++ all_pass_rules (n + 1) q (block_end (block_end (n + 1) x) y)
        ++ all_pass_rules (block_end (n + 1) x) q (block_end (block_end (n + 1) x) y)
    step_rules q n around (Switch e cs) =
        cases_rules n e None ((n + 1) + 1) around cs
        ++ leave_switch_rules (n + 1) q (cases_end ((n + 1) + 1) cs) (cases_escape true cs)
    step_rules q n around (Loop x y k) =
        enter_loop_rules n (n + 1) ((n + 1) + 1) k
        ++ block_rules ((n + 1) + 1) ((n + 1) + 1) (Some (reads_at n around)) x
        ++ continuing_rules (n + 1) (block_end ((n + 1) + 1) x)
        ++ block_rules (block_end ((n + 1) + 1) x) (block_end ((n + 1) + 1) x) (Some (reads_at n around)) y
        ++ leave_loop_rules (n + 1) ((n + 1) + 1) (block_end ((n + 1) + 1) x) q (block_end (block_end ((n + 1) + 1) x) y)

    -- the statements from n on of the block at q: each is apart where the one before it is
    pub block_rules : (block position : ℕ) → Option ℕ → Body → List Rule
    block_rules q n around End = []
    block_rules q n around (Then s b) =
        step_rules q n around s ++ leads (Apart n) (Apart (step_end n s)) ∷ block_rules q (step_end n s) around b

    -- the cases from p on of the Switch at n on e; `fallen`: the case before, where it falls through
    pub cases_rules : (switch selector : ℕ) → Option ℕ → ℕ → Option ℕ → Cases → List Rule
    cases_rules n e fallen p around NoCase = []
    cases_rules n e fallen p around (Case v x fall cs) =
        enter_case_rules n e fallen p ++ block_rules p p around x
        ++ case_rules p (n + 1) ++ cases_rules n e (falls_from fall p) (block_end p x) around cs
