-- Laws: the recursion over the blocks that the pass computes decides disruption.
use Rattle.std.specs.Prelude.{ℕ, ◌⊎◌, ◌↔◌, Bool, IsTrue, List, Option, None, is_some}
use Rattle.std.specs.List.{Contains}
use Rattle.shader_arena.specs.Positions.{positions_between}
use Rattle.shader_analysis_spec.specs.Flow.{At, Disrupted, Exits}
use Rattle.shader_analysis_spec.specs.Program.{Step, Leaf, Emit, Kill, Call, Body, Then, statements}
use Rattle.shader_passes.specs.Facts.{Fact}
use Rattle.shader_passes.specs.Ends.{block_ends, block_fault, exit_cause, requires_uniform_flow, step_ends}
use Rattle.shader_pass_laws.specs.Disruptors.{disruptor_at}

-- `origin` gives an origin of an expression, if it has one, and `is_killing` decides which functions kill
module _ (origin : ℕ → Option ℕ) (is_killing : ℕ → Bool) (root : Body) where
  abbrev pub IsDisrupted : (b : Body) → At root b → Type 0
  IsDisrupted b p = Disrupted (λ e. IsTrue (is_some (origin e))) (λ c. IsTrue (is_killing c)) root b p

  abbrev pub DoesExit : (s : Step) (b : Body) → At root (Then s b) → Type 0
  DoesExit s b p = Exits (λ e. IsTrue (is_some (origin e))) (λ c. IsTrue (is_killing c)) root s b p

  -- an expression that needs undisrupted flow is emitted in disrupted flow
  pub record EmitsDisrupted (facts : List Fact) : Type 0 where
    pub start : ℕ
    pub finish : ℕ
    pub left : Body
    pub at : At root (Then (Leaf (Emit start finish)) left)
    pub expression : ℕ
    pub within : Contains (positions_between start finish) expression
    pub requires_flow : IsTrue (requires_uniform_flow facts expression)
    pub disrupted : IsDisrupted _ at

  abbrev pub KillsDisrupted : Type 0
  KillsDisrupted = (left : Body) × (p : At root (Then (Leaf Kill) left)) × IsDisrupted _ p

-- a function that kills is called
abbrev pub CallsKilling : (is_killing : ℕ → Bool) → Body → Type 0
CallsKilling is_killing root = (c : ℕ) × (arguments : List ℕ) × (result : Option ℕ)
    × Contains (statements root) (Leaf (Call c arguments result)) × IsTrue (is_killing c)

-- the recursion decides the least relations: it has a disruptor exactly where flow is disrupted, and exits of the statements that exit
abbrev pub PassIsLeast : Type 0
PassIsLeast = (origin : ℕ → Option ℕ) (is_killing : ℕ → Bool) (root : Body) →
    ((b : Body) (p : At root b) → IsTrue (is_some (disruptor_at origin is_killing p)) ↔ IsDisrupted origin is_killing root b p)
    × ((s : Step) (b : Body) (p : At root (Then s b)) →
    IsTrue (is_some (exit_cause (step_ends origin is_killing (disruptor_at origin is_killing p) s)))
    ↔ DoesExit origin is_killing root s b p)

-- it finds a violation exactly where there is one
abbrev pub PassFindsViolations : Type 0
PassFindsViolations = (origin : ℕ → Option ℕ) (is_killing : ℕ → Bool) (facts : List Fact) (root : Body) →
    IsTrue (is_some (block_fault origin is_killing facts None root)) ↔ EmitsDisrupted origin is_killing root facts

-- a body kills, by the recursion, exactly if it has a disrupted Kill or a call of a function that kills
abbrev pub PassFindsKills : Type 0
PassFindsKills = (origin : ℕ → Option ℕ) (is_killing : ℕ → Bool) (root : Body) →
    IsTrue (block_ends origin is_killing None root).kills ↔ (KillsDisrupted origin is_killing root ⊎ CallsKilling is_killing root)
