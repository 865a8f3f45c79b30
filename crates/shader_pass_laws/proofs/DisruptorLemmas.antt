-- The disruptors of the pass decide disruption, as the flags do.
use Rattle.std.proofs.Common.{◌≡◌, refl, sym, ap, ◌∙◌, ◌↔◌, ℕ, ◌⊎◌, inl, inr, List, Bool, false, ◌||◌, ◌&&◌, IsTrue, Option}
use Rattle.std.proofs.Common.{None, is_some}
use Rattle.std.specs.List.{Contains, list_any}
use Rattle.std.proofs.lemmas.Bool.{or_cases, or_left, or_right}
use Rattle.shader_arena.specs.Positions.{positions_between}
use Rattle.shader_analysis_spec.specs.Flow.{At, start, rest, inside, Child, inner, accept, reject, body, continuing}
use Rattle.shader_analysis_spec.specs.Flow.{case_of, CasesIn, from_first, after}
use Rattle.shader_analysis_spec.specs.Program.{Step, Leaf, Emit, Kill, Call, Body, Then, Cases, statements}
use Rattle.shader_analysis_spec.proofs.FindLemmas.{flags_find_statements}
use Rattle.shader_analysis_spec.proofs.Flags.{case_flag, child_flag, flag, found, step_exits, block_exits}
use Rattle.shader_analysis_spec.proofs.PassLemmas.{flags_are_least}
use Rattle.shader_info.specs.declared.error.UniformityDisruptor.{UniformityDisruptor}
use Rattle.shader_passes.specs.Facts.{Fact}
use Rattle.shader_passes.specs.Ends.{block_ends, exit_cause, on_branch, requires_uniform_flow, step_ends}
use Rattle.shader_pass_laws.proofs.EndsLemmas.{Covers, block_first, block_kills, branch_some, entered_covers, exit_some, flag_behind}
use Rattle.shader_pass_laws.proofs.EndsLemmas.{flag_continuing, flag_entered, or_same, step_is}
use Rattle.shader_pass_laws.proofs.FlowWords.{calls_kill, emits_requiring, is_kill}
use Rattle.shader_pass_laws.proofs.StepKills.{any_to, of_any}
use Rattle.shader_pass_laws.specs.Disruptors.{disruptor_at, disruptor_in_case, disruptor_in_child}
use Rattle.shader_pass_laws.specs.FlowLaws.{CallsKilling, EmitsDisrupted, IsDisrupted, KillsDisrupted, PassFindsKills}
use Rattle.shader_pass_laws.specs.FlowLaws.{PassFindsViolations, PassIsLeast}

module _ (origin : ℕ → Option ℕ) (K : ℕ → Bool) where
  abbrev V : ℕ → Bool
  V e = is_some (origin e)

  same : (e : ℕ) → is_some (origin e) ≡ V e
  same e = refl

  case_covers : (all cs : Cases) (k : CasesIn all cs) (o : Option UniformityDisruptor) → Covers o (disruptor_in_case origin K o k)
  case_covers all _ from_first o = or_same (is_some o)
  case_covers all _ (after {x = x} {fall = fall} k) o =
      let here = disruptor_in_case origin K o k in
      entered_covers o here fall (block_ends origin K here x) (case_covers all _ k o)

  -- the flag of a case is that it has a disruptor
  case_is : (all cs : Cases) (k : CasesIn all cs) (o : Option UniformityDisruptor) →
      is_some (disruptor_in_case origin K o k) ≡ case_flag V K (is_some o) k
  case_is all _ from_first o = refl
  case_is all _ (after {x = x} {fall = fall} k) o =
      let here = disruptor_in_case origin K o k in
      flag_entered origin V same K x fall o here (case_covers all _ k o)
      ∙ ap (λ v. is_some o || (fall && (v || block_exits V K v x))) (case_is all _ k o)

  child_is : (s : Step) (x : Body) (child : Child s x) (o : Option UniformityDisruptor) →
      is_some (disruptor_in_child origin K o child) ≡ child_flag V K (is_some o) child
  child_is _ x inner o = refl
  child_is _ x (accept {c = c}) o = branch_some origin V same K o c
  child_is _ x (reject {c = c}) o = branch_some origin V same K o c
  child_is _ x body o = refl
  child_is _ y (continuing {x = x}) o = flag_continuing origin V same K x o
  child_is _ x (case_of {e = e} k) o =
      case_is _ _ k (on_branch origin o e) ∙ ap (λ v. case_flag V K v k) (branch_some origin V same K o e)

  disruptor_is : (root b : Body) (p : At root b) → is_some (disruptor_at origin K p) ≡ flag V K p
  disruptor_is root _ start = refl
  disruptor_is root _ (rest {s = s} p) =
      flag_behind origin V same K s (disruptor_at origin K p) ∙ ap (λ v. v || step_exits V K v s) (disruptor_is root _ p)
  disruptor_is root _ (inside {s = s} {x = x} p child) =
      child_is s x child (disruptor_at origin K p) ∙ ap (λ v. child_flag V K v child) (disruptor_is root _ p)

  exits_are : (root : Body) (s : Step) (b : Body) (p : At root (Then s b)) →
      is_some (exit_cause (step_ends origin K (disruptor_at origin K p) s)) ≡ step_exits V K (flag V K p) s
  exits_are root s b p =
      let o = disruptor_at origin K p in
      let exits = step_ends origin K o s in
      exit_some exits.returns exits.kills
      ∙ (step_is origin V same K s o ∙ ap (λ v. step_exits V K v s) (disruptor_is root (Then s b) p))

  violation_to : (facts : List Fact) (root : Body) (s : Step) (b : Body) (p : At root (Then s b)) →
      IsTrue (emits_requiring facts s) → IsDisrupted origin K root (Then s b) p → EmitsDisrupted origin K root facts
  violation_to facts root (Leaf (Emit first finish)) b p needs d =
      let one = any_to (requires_uniform_flow facts) (positions_between first finish) needs in
      record {
        start = first;
        finish = finish;
        left = b;
        at = p;
        expression = one.0;
        within = one.1;
        requires_flow = one.2;
        disrupted = d;
      }
  violation_to facts root s b p needs d = absurd (cc)

  kill_to : (root : Body) (s : Step) (b : Body) (p : At root (Then s b)) → IsTrue (is_kill s) →
      IsDisrupted origin K root (Then s b) p → KillsDisrupted origin K root
  kill_to root (Leaf Kill) b p is d = (b, p, d)
  kill_to root s b p is d = absurd (cc)

  call_to : (root : Body) (s : Step) → Contains (statements root) s → IsTrue (calls_kill K s) → CallsKilling K root
  call_to root (Leaf (Call c arguments result)) holds is = (c, arguments, result, holds, is)
  call_to root s holds is = absurd (cc)

-- one flag that is another decides the same
decided : (a b : Bool) (P : Type 0) → a ≡ b → IsTrue b ↔ P → IsTrue a ↔ P
decided a b P is d = (λ h. d.0 (sym is ∙ h), λ p. is ∙ d.1 p)

pub pass_is_least : PassIsLeast
pass_is_least origin K root = (
  λ b p. decided _ _ _ (disruptor_is origin K root b p) ((flags_are_least (V origin K) K root).0 b p),
  λ s b p. decided _ _ _ (exits_are origin K root s b p) ((flags_are_least (V origin K) K root).1 s b p),
)

pub pass_finds_violations : PassFindsViolations
pass_finds_violations origin K facts root =
    let there = flags_find_statements (V origin K) K (emits_requiring facts) root in
    decided _ _ (EmitsDisrupted origin K root facts) (block_first origin (V origin K) (same origin K) K facts root None) (
      λ h. let (s, b, p, is, d) = there.0 h in violation_to origin K facts root s b p is d,
      λ v. there.1 (
        Leaf (Emit v.start v.finish),
        v.left,
        v.at,
        of_any (requires_uniform_flow facts) (positions_between v.start v.finish) v.expression v.within v.requires_flow,
        v.disrupted,
      ),
    )

pub pass_finds_kills : PassFindsKills
pass_finds_kills origin K root =
    let own : Bool = found (V origin K) K is_kill false root in
    let called : Bool = list_any (calls_kill K) (statements root) in
    let there = flags_find_statements (V origin K) K is_kill root in
    decided _ (own || called) (KillsDisrupted origin K root ⊎ CallsKilling K root)
    (block_kills origin (V origin K) (same origin K) K root None) (
      λ h. elim (or_cases own called h) [
        | inl one ↦ let (s, b, p, is, d) = there.0 one in inl (kill_to origin K root s b p is d)
        | inr one ↦ let c = any_to (calls_kill K) (statements root) one in inr (call_to origin K root c.0 c.1 c.2)
      ],
      λ v. elim v [
        | inl (left, p, d) ↦ or_left own called (there.1 (Leaf Kill, left, p, refl, d))
        | inr (c, arguments, result, holds, is) ↦
            or_right own called (of_any (calls_kill K) (statements root) (Leaf (Call c arguments result)) holds is)
      ],
    )
