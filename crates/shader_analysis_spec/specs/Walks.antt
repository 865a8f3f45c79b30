-- Walks through a body without loops, and noninterference between two of them.
use Rattle.std.specs.Prelude.{◌≡◌, ℕ, suc, min, ◌≤◌, Bool, true, false, Option, List, IsTrue, ◌↔◌}
use Rattle.shader_ir.specs.declared.statement.SwitchValue.{SwitchValue}
use Rattle.shader_analysis_spec.specs.Program.{Step, Leaf, Simple, Nested, If, Switch, Loop, Break, Continue}
use Rattle.shader_analysis_spec.specs.Program.{Return, Kill, Call, Body, End, Then, Cases, NoCase, Case}
use Rattle.shader_analysis_spec.specs.Flow.{At, start, rest, inside, Child, inner, accept, reject, case_of, CasesIn, from_first, after}
use Rattle.shader_analysis_spec.specs.Flow.{Disrupted}

-- true for all but Break and Continue
abbrev pub is_plain_leaf : Simple → Bool
is_plain_leaf Break = false
is_plain_leaf Continue = false
is_plain_leaf _ = true

abbrev pub is_plain : Step → Bool
is_plain (Leaf simple) = is_plain_leaf simple
is_plain (Loop x y k) = false
is_plain _ = true

abbrev pub HasNoLoop : Body → Type 0
HasNoLoop root = (s : Step) (b : Body) → At root (Then s b) → IsTrue (is_plain s)

-- the choices of a walk at every path point that it may reach; it passes each path point at most once
pub record Walk (Kills : ℕ → Type 0) (root : Body) : Type 0 where
  -- true if an If leads into its first branch
  pub accepts : {c : ℕ} {x y b : Body} → At root (Then (If c x y) b) → Bool
  -- the number of the case that a Switch leads into; the count of its cases or more if it enters none
  pub selects : {e : ℕ} {cs : Cases} {b : Body} → At root (Then (Switch e cs) b) → ℕ
  -- true if the walk ends in a Call
  pub ends : {c : ℕ} {arguments : List ℕ} {result : Option ℕ} {b : Body} → At root (Then (Leaf (Call c arguments result)) b) → Bool
  pub ends_by_kill : {c : ℕ} {arguments : List ℕ} {result : Option ℕ} {b : Body} (p : At root (Then (Leaf (Call c arguments result)) b)) →
      IsTrue (ends p) → Kills c

abbrev pub count : Cases → ℕ
count NoCase = 0
count (Case v x fall cs) = suc (count cs)

-- the number of a case in its switch
abbrev pub case_number : {all cs : Cases} → CasesIn all cs → ℕ
case_number from_first = 0
case_number (after k) = suc (case_number k)

abbrev pub falls_on : Bool → Cases → Bool
falls_on true (Case v x fall cs) = true
falls_on _ _ = false

-- true for a case that falls through to another
abbrev pub falls : {s : Step} {x : Body} → Child s x → Bool
falls (case_of {fall = fall} {cs = cs} k) = falls_on fall cs
falls _ = false

-- true for a statement without blocks that a walk always completes
abbrev pub passes_on : Simple → Bool
passes_on Break = false
passes_on Continue = false
passes_on (Return value) = false
passes_on Kill = false
passes_on (Call c arguments result) = false
passes_on _ = true

abbrev pub is_simple : Step → Bool
is_simple (Leaf simple) = passes_on simple
is_simple _ = false

module _ {Kills : ℕ → Type 0} {root : Body} (w : Walk Kills root) where
  mutual
    -- the walk, once at a statement, enters a block of it
    pub data Enters : (s : Step) (b x : Body) → At root (Then s b) → Child s x → Type 0 where
      to_inner : {b x : Body} {p : At root (Then (Nested x) b)} → Enters _ _ _ p inner
      to_accept : {c : ℕ} {b x y : Body} {p : At root (Then (If c x y) b)} → w.accepts p ≡ true → Enters _ _ _ p accept
      to_reject : {c : ℕ} {b x y : Body} {p : At root (Then (If c x y) b)} → w.accepts p ≡ false → Enters _ _ _ p reject
      selected : {e : ℕ} {all cs : Cases} {v : SwitchValue} {b x : Body} {fall : Bool} {p : At root (Then (Switch e all) b)}
          (k : CasesIn all (Case v x fall cs)) →
          w.selects p ≡ case_number k → Enters _ _ _ p (case_of k)
      fallen : {e : ℕ} {all cs : Cases} {v u : SwitchValue} {b x y : Body} {fall : Bool} {p : At root (Then (Switch e all) b)}
          {k : CasesIn all (Case v x true (Case u y fall cs))} → Enters _ _ _ p (case_of k) → Finishes _ (inside p (case_of k)) →
          Enters _ _ _ p (case_of (after k))

    -- the walk, once at a path point, reaches the end of the block
    pub data Finishes : (b : Body) → At root b → Type 0 where
      at_end : {p : At root End} → Finishes _ p
      on : {s : Step} {b : Body} {p : At root (Then s b)} → Leaves _ _ p → Finishes _ (rest p) → Finishes _ p

    -- the walk, once at a statement, completes it
    pub data Leaves : (s : Step) (b : Body) → At root (Then s b) → Type 0 where
      simply : {s : Step} {b : Body} {p : At root (Then s b)} → IsTrue (is_simple s) → Leaves _ _ p
      call : {c : ℕ} {arguments : List ℕ} {result : Option ℕ} {b : Body} {p : At root (Then (Leaf (Call c arguments result)) b)} →
          w.ends p ≡ false → Leaves _ _ p
      through : {s : Step} {b x : Body} {p : At root (Then s b)} {child : Child s x} → Enters _ _ _ p child → Finishes _ (inside p child) →
          falls child ≡ false → Leaves _ _ p
      past : {e : ℕ} {all : Cases} {b : Body} {p : At root (Then (Switch e all) b)} → count all ≤ w.selects p → Leaves _ _ p

  -- the walk passes a path point
  pub data Passes : (b : Body) → At root b → Type 0 where
    starts : Passes _ start
    on : {s : Step} {b : Body} {p : At root (Then s b)} → Passes _ p → Leaves _ _ p → Passes _ (rest p)
    into : {s : Step} {b x : Body} {p : At root (Then s b)} {child : Child s x} → Passes _ p → Enters _ _ _ p child →
        Passes _ (inside p child)

-- two walks agree at every If and Switch that both pass and whose condition or selector has no origin; at a Switch they also agree if both
-- enter no case, whatever their numbers
pub record Alike (Varies : ℕ → Type 0) {Kills : ℕ → Type 0} {root : Body} (w v : Walk Kills root) : Type 0 where
  pub branches : {c : ℕ} {x y b : Body} (p : At root (Then (If c x y) b)) → Passes w _ p → Passes v _ p → (Varies c → ⊥) →
      w.accepts p ≡ v.accepts p
  pub cases : {e : ℕ} {cs : Cases} {b : Body} (p : At root (Then (Switch e cs) b)) → Passes w _ p → Passes v _ p → (Varies e → ⊥) →
      min (count cs) (w.selects p) ≡ min (count cs) (v.selects p)

-- two walks that agree on uniform choices pass the same undisrupted path points, hence the same undisrupted Emits
abbrev pub AlikeWalksAgree : (Varies Kills : ℕ → Type 0) → Body → Type 0
AlikeWalksAgree Varies Kills root = (w v : Walk Kills root) → Alike Varies w v →
    (b : Body) (p : At root b) → (Disrupted Varies Kills root b p → ⊥) → Passes w b p ↔ Passes v b p
