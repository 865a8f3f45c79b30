-- Flags that decide disruption by one recursion. No code computes them: the pass over the blocks has a disruptor in place of each flag.
use Rattle.std.specs.Prelude.{ℕ, Bool, false, ◌&&◌, ◌||◌, IsTrue, ◌↔◌}
use Rattle.shader_analysis_spec.specs.Program.{Step, Leaf, Simple, Nested, If, Switch, Loop, Return}
use Rattle.shader_analysis_spec.specs.Program.{Kill, Call, Body, End, Then, Cases, NoCase, Case}
use Rattle.shader_analysis_spec.specs.Flow.{At, start, rest, inside, Child, inner, accept, reject, body, continuing}
use Rattle.shader_analysis_spec.specs.Flow.{case_of, CasesIn, from_first, after, Disrupted, Exits}

-- `varies` decides which expressions have an origin, `is_killing` which functions kill
module _ (varies is_killing : ℕ → Bool) where
  -- true if a statement without blocks exits, given whether it is disrupted
  abbrev pub simple_exits : Bool → Simple → Bool
  simple_exits d (Return value) = d
  simple_exits d Kill = d
  simple_exits d (Call c arguments result) = is_killing c
  simple_exits d _ = false

  abbrev mutual
    -- true if a statement exits
    pub step_exits : Bool → Step → Bool
    step_exits d (Leaf simple) = simple_exits d simple
    step_exits d (Nested x) = block_exits d x
    step_exits d (If c x y) = block_exits (d || varies c) x || block_exits (d || varies c) y
    step_exits d (Switch e cs) = cases_exit (d || varies e) (d || varies e) cs
    step_exits d (Loop x y k) = block_exits d x || block_exits (d || block_exits d x) y

    pub block_exits : Bool → Body → Bool
    block_exits d End = false
    block_exits d (Then s b) = step_exits d s || block_exits (d || step_exits d s) b

    -- the second flag is that of the first case
    pub cases_exit : Bool → Bool → Cases → Bool
    cases_exit d d' NoCase = false
    cases_exit d d' (Case v x fall cs) = block_exits d' x || cases_exit d (d || (fall && (d' || block_exits d' x))) cs

  abbrev pub case_flag : {all cs : Cases} → Bool → CasesIn all cs → Bool
  case_flag d from_first = d
  case_flag d (after {x = x} {fall = fall} k) = d || (fall && (case_flag d k || block_exits (case_flag d k) x))

  abbrev pub child_flag : {s : Step} {x : Body} → Bool → Child s x → Bool
  child_flag d inner = d
  child_flag d (accept {c = c}) = d || varies c
  child_flag d (reject {c = c}) = d || varies c
  child_flag d body = d
  child_flag d (continuing {x = x}) = d || block_exits d x
  child_flag d (case_of {e = e} k) = case_flag (d || varies e) k

  -- true if the path point is disrupted
  abbrev pub flag : {root b : Body} → At root b → Bool
  flag start = false
  flag (rest {s = s} p) = flag p || step_exits (flag p) s
  flag (inside p child) = child_flag (flag p) child

-- the flags decide the least relations
abbrev pub FlagsAreLeast : Type 0
FlagsAreLeast = (varies is_killing : ℕ → Bool) (root : Body) →
    ((b : Body) (p : At root b) → IsTrue (flag varies is_killing p)
    ↔ Disrupted (λ e. IsTrue (varies e)) (λ c. IsTrue (is_killing c)) root b p)
    × ((s : Step) (b : Body) (p : At root (Then s b)) →
    IsTrue (step_exits varies is_killing (flag varies is_killing p) s)
    ↔ Exits (λ e. IsTrue (varies e)) (λ c. IsTrue (is_killing c)) root s b p)

-- `bad` selects statements, e.g. Kills, or Emits of expressions that need undisrupted flow
module _ (varies is_killing : ℕ → Bool) (bad : Step → Bool) where
  abbrev mutual
    pub found_within : Bool → Step → Bool
    found_within d (Leaf simple) = false
    found_within d (Nested x) = found d x
    found_within d (If c x y) = found (d || varies c) x || found (d || varies c) y
    found_within d (Switch e cs) = found_in_cases (d || varies e) (d || varies e) cs
    found_within d (Loop x y k) = found d x || found (d || block_exits varies is_killing d x) y

    pub found : Bool → Body → Bool
    found d End = false
    found d (Then s b) = (d && bad s) || (found_within d s || found (d || step_exits varies is_killing d s) b)

    pub found_in_cases : Bool → Bool → Cases → Bool
    found_in_cases d d' NoCase = false
    found_in_cases d d' (Case v x fall cs) = found d' x || found_in_cases d (d || (fall && (d' || block_exits varies is_killing d' x))) cs

-- the recursion detects a bad statement exactly if there is a disrupted one
abbrev pub FlagsFindStatements : Type 0
FlagsFindStatements = (varies is_killing : ℕ → Bool) (bad : Step → Bool) (root : Body) →
    IsTrue (found varies is_killing bad false root) ↔
    ((s : Step) × (b : Body) × (p : At root (Then s b)) × IsTrue (bad s) ×
    Disrupted (λ e. IsTrue (varies e)) (λ c. IsTrue (is_killing c)) root _ p)
