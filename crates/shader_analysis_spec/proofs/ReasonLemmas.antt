-- Every disrupted path point has a disruptor that may be reported.
use Rattle.std.proofs.Common.{ℕ, Bool, true}
use Rattle.shader_ir.specs.declared.statement.SwitchValue.{SwitchValue}
use Rattle.shader_analysis_spec.specs.Program.{Function, Module, Step, Leaf, Switch, Call, Body, Then, Cases, Case}
use Rattle.shader_analysis_spec.specs.Faults.{Settings, Disruptor, Source, EarlierReturn, EarlierDiscard, IsEnclosedBy}
use Rattle.shader_analysis_spec.specs.Faults.{branch, deeper, MayDisrupt, a_source, a_return, a_kill, a_call}
use Rattle.shader_analysis_spec.specs.Faults as faults
use Rattle.shader_analysis_spec.specs.Flow.{At, rest, inside, case_of, CasesIn, after, selects, Disrupted, Exits}
use Rattle.shader_analysis_spec.specs.Flow.{BlockExits, in_disrupted, in_branch, in_continuing, fallen_into, fallen_out}
use Rattle.shader_analysis_spec.specs.Flow.{later, behind, returns, kills, calls, contains, first, further}
use Rattle.shader_analysis_spec.specs.Infos.{Resource}
use Rattle.shader_analysis_spec.specs.Needs.{Need}
use Rattle.shader_analysis_spec.proofs.FlowLemmas.{occurs_within}

module _ (O : ℕ → ℕ → Type 0) (K : ℕ → Type 0) (N : Need → ℕ → Type 0) (P : ℕ → Resource → Resource →
    Type 0) (m : Module) (settings : Settings) (f : Function) where
  abbrev V : ℕ → Type 0
  V e = (h : ℕ) × O e h

  abbrev Disrupts : (b : Body) → At f.body b → Disruptor → Type 0
  Disrupts b p d = MayDisrupt O K N P m settings f b p d

  abbrev Reason : (b : Body) → At f.body b → Type 0
  Reason b p = (d : Disruptor) × Disrupts b p d

  -- a disruptor at one path point is one at another if a source around the first is around the other
  moved : (b c : Body) (p : At f.body b) (q : At f.body c) →
      ((h : ℕ) → IsEnclosedBy O h f.body b p → IsEnclosedBy O h f.body c q) → (d : Disruptor) →
      Disrupts b p d → Disrupts c q d
  moved b c p q around _ (a_source a) = a_source (around _ a)
  moved b c p q around _ (a_return r d) = a_return r d
  moved b c p q around _ (a_kill r d) = a_kill r d
  moved b c p q around _ (a_call holds k) = a_call holds k

  next_case : (h e : ℕ) (all cs : Cases) (t u : SwitchValue) (b x y : Body) (fall : Bool) (p : At f.body (Then (Switch e all) b))
      (k : CasesIn all (Case t x true (Case u y fall cs))) → IsEnclosedBy O h f.body x (inside p (case_of k)) →
      IsEnclosedBy O h f.body y (inside p (case_of (after k)))
  next_case h e all cs t u b x y fall p k (branch _ (selects _) is) = branch p (selects (after k)) is
  next_case h e all cs t u b x y fall p k (deeper a) = deeper a

  mutual
    -- the disruptor that an exit gives at any path point
    exit_reason : (s : Step) (b : Body) (p : At f.body (Then s b)) → Exits V K f.body s b p → (c : Body) (q : At f.body c) → Reason c q
    exit_reason _ _ p (returns d) c q = (EarlierReturn, a_return p d)
    exit_reason _ _ p (kills d) c q = (EarlierDiscard, a_kill p d)
    exit_reason _ _ _ (calls {c = callee} {arguments = arguments} {result = result} {b = b} p k) c q =
        (EarlierDiscard, a_call (occurs_within f.body (Leaf (Call callee arguments result)) b p) k)
    exit_reason _ _ _ (contains x) c q = block_reason _ _ x c q

    block_reason : (b : Body) (p : At f.body b) → BlockExits V K f.body b p → (c : Body) (q : At f.body c) → Reason c q
    block_reason _ _ (first x) c q = exit_reason _ _ _ x c q
    block_reason _ _ (further x) c q = block_reason _ _ x c q

  pub reason : (b : Body) (p : At f.body b) → Disrupted V K f.body b p → Reason b p
  reason _ _ (in_disrupted {p = p} {child = child} d) = let (r, is) = reason _ _ d in
      (r, moved _ _ p (inside p child) (λ h a. deeper a) r is)
  reason _ _ (in_branch {e = e} p o (h, is)) = (Source h, a_source (branch p o is))
  reason _ _ (in_continuing x) = block_reason _ _ x _ _
  reason _ _ (fallen_into {v = t} {w = u} {b = b} {x = x} {y = y} {e = e} {all = all} {cs = cs} {fall = fall} {p = p} {k = k} d) =
      let (r, is) = reason _ _ d in
      (r, moved x y (inside p (case_of k)) (inside p (case_of (after k))) (λ h a. next_case h e all cs t u b x y fall p k a) r is)
  reason _ _ (fallen_out x) = block_reason _ _ x _ _
  reason _ _ (later {p = p} d) = let (r, is) = reason _ _ d in (r, moved _ _ p (rest p) (λ h a. faults.later a) r is)
  reason _ _ (behind x) = exit_reason _ _ _ x _ _
