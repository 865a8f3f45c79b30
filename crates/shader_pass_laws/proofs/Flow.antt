-- The reported disruptor disrupts the flow, and each exit is one of the function.
use Rattle.std.proofs.Common.{◌≡◌, refl, sym, ap, ◌∙◌, ℕ, ◌⊎◌, inl, inr, List, Bool, true, false, ◌||◌}
use Rattle.std.proofs.Common.{◌&&◌, IsTrue, Option, Some, None, is_some, slice_get, unwrap_or}
use Rattle.std.specs.Option.{option_and_then, option_map}
use Rattle.std.specs.List.{Contains}
use Rattle.std.proofs.lemmas.Bool.{or_cases}
use Rattle.shader_ir.specs.declared.statement.SwitchValue.{SwitchValue}
use Rattle.shader_analysis_spec.specs.Faults.{IsEnclosedBy, branch, deeper, Disruptor, Source, EarlierReturn, EarlierDiscard}
use Rattle.shader_analysis_spec.specs.Faults.{MayDisrupt, a_source, a_return, a_kill, a_call, Settings}
use Rattle.shader_analysis_spec.specs.StepFaults.{RecordsPair}
use Rattle.shader_analysis_spec.specs.Faults as faults
use Rattle.shader_analysis_spec.specs.Flow.{At, rest, inside, Child, inner, accept, reject, body, continuing}
use Rattle.shader_analysis_spec.specs.Flow.{case_of, CasesIn, from_first, after, BranchOn, Disrupted}
use Rattle.shader_analysis_spec.specs.Program.{Function, Module, Simple, Return, Kill, Call, Step, Leaf, Nested}
use Rattle.shader_analysis_spec.specs.Program.{If, Switch, Loop, Body, End, Then, Cases, NoCase, Case, statements}
use Rattle.shader_analysis_spec.specs.Steps.{RecordsKills, StepExpressionNeed, StepOrigin}
use Rattle.shader_analysis_spec.proofs.Flags.{flag, case_flag, step_exits, block_exits}
use Rattle.shader_analysis_spec.proofs.FlowLemmas.{more_disrupted, occurs_within}
use Rattle.shader_analysis_spec.proofs.PassLemmas.{flags_are_least}
use Rattle.shader_info.specs.declared.error.UniformityDisruptor.{UniformityDisruptor}
use Rattle.shader_info.specs.declared.error.UniformityDisruptor.TheVariants as cause
use Rattle.shader_info.specs.declared.info.FunctionInfo.{FunctionInfo}
use Rattle.shader_passes.specs.Causes.{disruptor_of}
use Rattle.shader_passes.specs.Results.{computed_facts}
use Rattle.shader_pass_laws.proofs.EndsLemmas.{Covers, branch_some, flag_behind, flag_continuing, flag_entered, entered_covers}
use Rattle.shader_pass_laws.proofs.FlowWords.{varies}
use Rattle.shader_pass_laws.proofs.StepKills.{killing_to}
use Rattle.shader_passes.specs.Facts.{Fact}
use Rattle.shader_passes.specs.declared.flow.Exits.{Exits}
use Rattle.shader_passes.specs.Ends.{either, exit_of, disruptor_after, case_disruptor, is_killing, leaf_ends, on_branch, step_ends}
use Rattle.shader_passes.specs.Ends.{block_ends, cases_end}
use Rattle.shader_passes.specs.Facts.{origin_at}
use Rattle.shader_passes.specs.InfoOf.{PointsBackwards, infos_of}
use Rattle.shader_pass_laws.proofs.Varied.{origin_is, to_origin}

-- an expression varies if an origin is recorded
pub varies_is : (facts : List Fact) (e : ℕ) → is_some (origin_at facts e) ≡ varies facts e
varies_is facts e = at (slice_get facts e) where
  at : (o : Option Fact) → is_some (option_and_then (λ fact. fact.origin) o) ≡ unwrap_or (option_map (λ fact. is_some fact.origin) o) false
  at None = refl
  at (Some fact) = refl

pub or_same : (a : Bool) → (a || a) ≡ a
or_same true = refl
or_same false = refl

module _ (m : Module) (infos : List FunctionInfo) (f : Function) (settings : Settings) (below : PointsBackwards f) where
  abbrev pub facts : List Fact
  facts = computed_facts m infos f

  abbrev pub origin : ℕ → Option ℕ
  origin = origin_at facts

  abbrev pub VB : ℕ → Bool
  VB = varies facts

  abbrev pub KB : ℕ → Bool
  KB = is_killing infos

  abbrev pub O : ℕ → ℕ → Type 0
  O e h = StepOrigin m (infos_of infos) f e h

  abbrev pub V : ℕ → Type 0
  V e = (h : ℕ) × O e h

  abbrev pub K : ℕ → Type 0
  K c = RecordsKills (infos_of infos) c

  abbrev pub D : (b : Body) → At f.body b → Type 0
  D b p = Disrupted V K f.body b p

  abbrev pub F : {b : Body} → At f.body b → Bool
  F p = flag VB KB p

  abbrev pub IsDisruptor : (b : Body) → At f.body b → Disruptor → Type 0
  IsDisruptor b p d = MayDisrupt (StepOrigin m (infos_of infos) f) (RecordsKills (infos_of infos)) (StepExpressionNeed (infos_of infos) f)
      (RecordsPair (infos_of infos)) m settings f b p d

  -- the disruptor reported at a path point, if any, may be blamed
  abbrev pub Reported : (b : Body) → At f.body b → Option UniformityDisruptor → Type 0
  Reported b p (Some d) = IsDisruptor b p (disruptor_of d)
  Reported b p None = Unit {0}

  disrupts_child : (s : Step) (b x : Body) (p : At f.body (Then s b)) (child : Child s x) (d : Disruptor) → IsDisruptor (Then s b) p d →
      IsDisruptor x (inside p child) d
  disrupts_child s b x p child _ (a_source w) = a_source (deeper w)
  disrupts_child s b x p child _ (a_return q d) = a_return q d
  disrupts_child s b x p child _ (a_kill q d) = a_kill q d
  disrupts_child s b x p child _ (a_call holds k) = a_call holds k

  disrupts_rest : (s : Step) (b : Body) (p : At f.body (Then s b)) (d : Disruptor) → IsDisruptor (Then s b) p d → IsDisruptor b (rest p) d
  disrupts_rest s b p _ (a_source w) = a_source (faults.IsEnclosedBy.later w)
  disrupts_rest s b p _ (a_return q d) = a_return q d
  disrupts_rest s b p _ (a_kill q d) = a_kill q d
  disrupts_rest s b p _ (a_call holds k) = a_call holds k

  pub child_given : (s : Step) (b x : Body) (p : At f.body (Then s b)) (child : Child s x) (o : Option UniformityDisruptor) →
      Reported (Then s b) p o → Reported x (inside p child) o
  child_given s b x p child (Some d) w = disrupts_child s b x p child (disruptor_of d) w
  child_given s b x p child None w = tt

  pub reported_rest : (s : Step) (b : Body) (p : At f.body (Then s b)) (o : Option UniformityDisruptor) → Reported (Then s b) p o →
      Reported b (rest p) o
  reported_rest s b p (Some d) w = disrupts_rest s b p (disruptor_of d) w
  reported_rest s b p None w = tt

  pub reported_branch : (s : Step) (b x : Body) (p : At f.body (Then s b)) (child : Child s x) (e : ℕ) → BranchOn e s x child →
      (o : Option UniformityDisruptor) →
      Reported (Then s b) p o → Reported x (inside p child) (on_branch origin o e)
  reported_branch s b x p child e is (Some d) w = disrupts_child s b x p child (disruptor_of d) w
  reported_branch s b x p child e is None w = at (origin e) refl where
    at : (o : Option ℕ) → origin e ≡ o → Reported x (inside p child) (option_map (λ h. cause.Expression h) o)
    at (Some h) k = a_source (branch p is (origin_is m infos f below e h k))
    at None k = tt

  -- a Return or a Kill that is reported
  abbrev SomeReturn : Type 0
  SomeReturn = (value : Option ℕ) × (left : Body) × (q : At f.body (Then (Leaf (Return value)) left)) × D _ q

  abbrev SomeKill : Type 0
  SomeKill = (left : Body) × (q : At f.body (Then (Leaf Kill) left)) × D _ q

  abbrev SomeCall : Type 0
  SomeCall = (c : ℕ) × (arguments : List ℕ) × (result : Option ℕ) × Contains (statements f.body) (Leaf (Call c arguments result)) × K c

  -- the exits are exits of the function
  abbrev pub Left : Exits → Type 0
  Left e = (IsTrue e.returns → SomeReturn) × (IsTrue e.kills → SomeKill ⊎ SomeCall)

  left_either : (a b : Exits) → Left a → Left b → Left (either a b)
  left_either a b l r = (
    λ h. elim (or_cases a.returns b.returns h) [ inl x ↦ l.0 x | inr y ↦ r.0 y ],
    λ h. elim (or_cases a.kills b.kills h) [ inl x ↦ l.1 x | inr y ↦ r.1 y ],
  )

  left_none : Left (record { returns = false; kills = false })
  left_none = (λ h. absurd (cc), λ h. absurd (cc))

  reported_kill : (b : Body) (p : At f.body b) → SomeKill ⊎ SomeCall → IsDisruptor b p EarlierDiscard
  reported_kill b p (inl (left, q, d)) = a_kill q d
  reported_kill b p (inr (c, arguments, result, holds, k)) = a_call holds k

  reported_return : (b : Body) (p : At f.body b) → SomeReturn → IsDisruptor b p EarlierReturn
  reported_return b p (value, left, q, d) = a_return q d

  reported_exit : (b : Body) (p : At f.body b) (returns kills : Bool) → (IsTrue returns → SomeReturn) →
      (IsTrue kills → SomeKill ⊎ SomeCall) →
      Reported b p (exit_of returns kills)
  reported_exit b p true kills r k = reported_return b p (r refl)
  reported_exit b p false true r k = reported_kill b p (k refl)
  reported_exit b p false false r k = tt

  pub reported_behind : (b : Body) (p : At f.body b) (o : Option UniformityDisruptor) (e : Exits) → Reported b p o → Left e →
      Reported b p (disruptor_after o e)
  reported_behind b p (Some d) e w l = w
  reported_behind b p None e w l = reported_exit b p e.returns e.kills l.0 l.1

  pub disrupted_at : (b : Body) (p : At f.body b) → IsTrue (F p) → D b p
  disrupted_at b p h = more_disrupted (λ e. IsTrue (VB e)) V (λ c. IsTrue (KB c)) K f.body (to_origin m infos f below)
      (λ c _ _ _ _ k. killing_to infos c k) b p
      (((flags_are_least VB KB f.body).0 b p).0 h)

  -- the disruptor determines the flag
  abbrev pub Flags : {b : Body} → At f.body b → Option UniformityDisruptor → Type 0
  Flags p o = is_some o ≡ F p

  pub flag_rest : (s : Step) (b : Body) (p : At f.body (Then s b)) (o : Option UniformityDisruptor) → Flags p o →
      Flags (rest p) (disruptor_after o (step_ends origin KB o s))
  flag_rest s b p o is = flag_behind origin VB (varies_is facts) KB s o ∙ ap (λ v. v || step_exits VB KB v s) is

  pub flag_branch : (b : Body) (s : Step) (p : At f.body (Then s b)) (o : Option UniformityDisruptor) (e : ℕ) → Flags p o →
      is_some (on_branch origin o e) ≡ (F p || VB e)
  flag_branch b s p o e is = branch_some origin VB (varies_is facts) KB o e ∙ ap (λ v. v || VB e) is

  pub flag_again : (x : Body) (b : Body) (s : Step) (p : At f.body (Then s b)) (o : Option UniformityDisruptor) → Flags p o →
      is_some (disruptor_after o (block_ends origin KB o x)) ≡ (F p || block_exits VB KB (F p) x)
  flag_again x b s p o is = flag_continuing origin VB (varies_is facts) KB x o ∙ ap (λ v. v || block_exits VB KB v x) is

  pub flag_next : (v : SwitchValue) (x : Body) (fall : Bool) (e : ℕ) (all cs : Cases) (b : Body) (p : At f.body (Then (Switch e all) b))
      (k : CasesIn all (Case v x fall cs)) (o now : Option UniformityDisruptor) → is_some o ≡ (F p || VB e) →
      is_some now ≡ case_flag VB KB (F p || VB e) k →
      Covers o now → is_some (case_disruptor o now fall (block_ends origin KB now x)) ≡ case_flag VB KB (F p || VB e) (after k)
  flag_next v x fall e all cs b p k o now is is_now le =
      flag_entered origin VB (varies_is facts) KB x fall o now le
      ∙ (ap (λ w. w || (fall && (is_some now || block_exits VB KB (is_some now) x))) is
      ∙ ap (λ w. (F p || VB e) || (fall && (w || block_exits VB KB w x))) is_now)

  left_leaf : (simple : Simple) (b : Body) (p : At f.body (Then (Leaf simple) b)) (o : Option UniformityDisruptor) → Flags p o →
      Left (leaf_ends KB o simple)
  left_leaf (Return v) b p o is = (λ h. (v, b, p, disrupted_at (Then (Leaf (Return v)) b) p (sym is ∙ h)), λ h. absurd (cc))
  left_leaf Kill b p o is = (λ h. absurd (cc), λ h. inl (b, p, disrupted_at (Then (Leaf Kill) b) p (sym is ∙ h)))
  left_leaf (Call c arguments result) b p o is =
      (λ h. absurd (cc), λ h. inr (c, arguments, result, occurs_within f.body (Leaf (Call c arguments result)) b p, killing_to infos c h))
  left_leaf simple b p o is = left_none

  mutual
    pub left_block : (b : Body) (p : At f.body b) (o : Option UniformityDisruptor) → Flags p o → Left (block_ends origin KB o b)
    left_block End p o is = left_none
    left_block (Then s b) p o is =
        left_either (step_ends origin KB o s) (block_ends origin KB (disruptor_after o (step_ends origin KB o s)) b) (left_step s b p o is)
        (left_block b (rest p) (disruptor_after o (step_ends origin KB o s)) (flag_rest s b p o is))

    pub left_step : (s : Step) (b : Body) (p : At f.body (Then s b)) (o : Option UniformityDisruptor) → Flags p o →
        Left (step_ends origin KB o s)
    left_step (Leaf simple) b p o is = left_leaf simple b p o is
    left_step (Nested x) b p o is = left_block x (inside p inner) o is
    left_step (If c x y) b p o is =
        left_either (block_ends origin KB (on_branch origin o c) x) (block_ends origin KB (on_branch origin o c) y)
        (left_block x (inside p accept) (on_branch origin o c) (flag_branch b (If c x y) p o c is))
        (left_block y (inside p reject) (on_branch origin o c) (flag_branch b (If c x y) p o c is))
    left_step (Loop x y k) b p o is =
        left_either (block_ends origin KB o x) (block_ends origin KB (disruptor_after o (block_ends origin KB o x)) y)
        (left_block x (inside p body) o is)
        (left_block y (inside p continuing) (disruptor_after o (block_ends origin KB o x)) (flag_again x b (Loop x y k) p o is))
    left_step (Switch e cs) b p o is =
        left_cases cs e cs b p from_first (on_branch origin o e) (on_branch origin o e) (flag_branch b (Switch e cs) p o e is)
        (flag_branch b (Switch e cs) p o e is)
        (or_same (is_some (on_branch origin o e)))

    left_cases : (cs : Cases) (e : ℕ) (all : Cases) (b : Body) (p : At f.body (Then (Switch e all) b)) (k : CasesIn all cs)
        (o now : Option UniformityDisruptor) →
        is_some o ≡ (F p || VB e) → is_some now ≡ case_flag VB KB (F p || VB e) k → Covers o now → Left (cases_end origin KB o now cs)
    left_cases NoCase e all b p k o now is is_now le = left_none
    left_cases (Case v x fall cs) e all b p k o now is is_now le =
        let one = block_ends origin KB now x in
        left_either one (cases_end origin KB o (case_disruptor o now fall one) cs) (left_block x (inside p (case_of k)) now is_now)
        (left_cases cs e all b p (after k) o (case_disruptor o now fall one) is (flag_next v x fall e all cs b p k o now is is_now le)
        (entered_covers o now fall one le))
