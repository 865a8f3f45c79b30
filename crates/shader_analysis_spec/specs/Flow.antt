-- Disruption, i.e. non-uniform control flow: path points that only some of the invocations may reach.
use Rattle.std.specs.Prelude.{ℕ, Bool, true, List, Option}
use Rattle.shader_ir.specs.declared.statement.SwitchValue.{SwitchValue}
use Rattle.shader_analysis_spec.specs.Program.{Step, Leaf, Nested, If, Switch, Loop, Return, Kill, Call, Body, Then, Cases, Case}

-- the cases of a switch from one of them on
pub data CasesIn (all : Cases) : Cases → Type 0 where
  from_first : CasesIn all all
  after : {v : SwitchValue} {x : Body} {fall : Bool} {cs : Cases} → CasesIn all (Case v x fall cs) → CasesIn all cs

-- a block of a statement
pub data Child : Step → Body → Type 0 where
  inner : {x : Body} → Child (Nested x) x
  accept : {c : ℕ} {x y : Body} → Child (If c x y) x
  reject : {c : ℕ} {x y : Body} → Child (If c x y) y
  body : {x y : Body} {k : Option ℕ} → Child (Loop x y k) x
  continuing : {x y : Body} {k : Option ℕ} → Child (Loop x y k) y
  case_of : {e : ℕ} {all : Cases} {v : SwitchValue} {x : Body} {fall : Bool} {cs : Cases} → CasesIn all (Case v x fall cs) →
      Child (Switch e all) x

-- a path point in a body: the start of a block, or the rest of one after some of its statements. A statement is at the path point whose
-- first statement it is
pub data At (root : Body) : Body → Type 0 where
  start : At root root
  rest : {s : Step} {b : Body} → At root (Then s b) → At root b
  inside : {s : Step} {b x : Body} → At root (Then s b) → Child s x → At root x

-- a block that is entered depending on the value of an expression
pub data BranchOn (e : ℕ) : (s : Step) (x : Body) → Child s x → Type 0 where
  accepts : {x y : Body} → BranchOn e _ _ (accept {c = e} {x = x} {y = y})
  rejects : {x y : Body} → BranchOn e _ _ (reject {c = e} {x = x} {y = y})
  selects : {all : Cases} {v : SwitchValue} {x : Body} {fall : Bool} {cs : Cases} (k : CasesIn all (Case v x fall cs)) →
      BranchOn e _ _ (case_of {e = e} k)

-- `Varies e`: expression e has an origin. `Kills c`: the function at position c kills
module _ (Varies Kills : ℕ → Type 0) (root : Body) where
  mutual
    pub data Disrupted : (b : Body) → At root b → Type 0 where
      -- a block of a disrupted statement
      in_disrupted : {s : Step} {b x : Body} {p : At root (Then s b)} {child : Child s x} → Disrupted _ p → Disrupted _ (inside p child)
      -- a branch of an If or a case of a Switch on an expression that has an origin
      in_branch : {s : Step} {b x : Body} {e : ℕ} (p : At root (Then s b)) {child : Child s x} → BranchOn e s x child → Varies e →
          Disrupted _ (inside p child)
      -- the continuing block of a Loop whose body exits
      in_continuing : {b x y : Body} {k : Option ℕ} {p : At root (Then (Loop x y k) b)} → BlockExits _ (inside p body) →
          Disrupted _ (inside p continuing)
      -- a case into which the previous case falls, if that one is disrupted or exits
      fallen_into : {v w : SwitchValue} {b x y : Body} {e : ℕ} {all cs : Cases} {fall : Bool} {p : At root (Then (Switch e all) b)}
          {k : CasesIn all (Case v x true (Case w y fall cs))} → Disrupted _ (inside p (case_of k)) →
          Disrupted _ (inside p (case_of (after k)))
      fallen_out : {v w : SwitchValue} {b x y : Body} {e : ℕ} {all cs : Cases} {fall : Bool} {p : At root (Then (Switch e all) b)}
          {k : CasesIn all (Case v x true (Case w y fall cs))} → BlockExits _ (inside p (case_of k)) →
          Disrupted _ (inside p (case_of (after k)))
      -- a statement of a disrupted block, or one after a statement that exits
      later : {s : Step} {b : Body} {p : At root (Then s b)} → Disrupted _ p → Disrupted _ (rest p)
      behind : {s : Step} {b : Body} {p : At root (Then s b)} → Exits _ _ p → Disrupted _ (rest p)

    -- the statement at a path point exits
    pub data Exits : (s : Step) (b : Body) → At root (Then s b) → Type 0 where
      returns : {value : Option ℕ} {b : Body} {p : At root (Then (Leaf (Return value)) b)} → Disrupted _ p → Exits _ _ p
      kills : {b : Body} {p : At root (Then (Leaf Kill) b)} → Disrupted _ p → Exits _ _ p
      calls : {c : ℕ} {arguments : List ℕ} {result : Option ℕ} {b : Body} (p : At root (Then (Leaf (Call c arguments result)) b)) →
          Kills c → Exits _ _ p
      contains : {s : Step} {b x : Body} {p : At root (Then s b)} {child : Child s x} → BlockExits _ (inside p child) → Exits _ _ p

    -- a statement of the block exits
    pub data BlockExits : (b : Body) → At root b → Type 0 where
      first : {s : Step} {b : Body} {p : At root (Then s b)} → Exits _ _ p → BlockExits _ p
      further : {s : Step} {b : Body} {p : At root (Then s b)} → BlockExits _ (rest p) → BlockExits _ p
