-- The first violation is emitted in disrupted flow, and its disruptor may be blamed.
use Rattle.std.proofs.Common.{◌≡◌, refl, sym, ap, subst, ◌∙◌, ℕ, ◌<◌, ◌⊎◌, inl, inr, List, [], ◌∷◌}
use Rattle.std.proofs.Common.{Bool, true, false, ◌||◌, IsTrue, Option, Some, None, is_some}
use Rattle.std.specs.Option.{option_or}
use Rattle.std.specs.List.{Contains}
use Rattle.shader_arena.specs.Positions.{positions_between}
use Rattle.shader_ir.specs.declared.statement.SwitchValue.{SwitchValue}
use Rattle.shader_analysis_spec.specs.Faults.{Disruptor, Settings}
use Rattle.shader_analysis_spec.specs.Flow.{At, start, rest, inside, inner, accept, reject, body, continuing}
use Rattle.shader_analysis_spec.specs.Flow.{case_of, CasesIn, from_first, after, accepts, rejects, selects}
use Rattle.shader_analysis_spec.specs.Needs.{Need, bit_of_need, has_need}
use Rattle.shader_analysis_spec.specs.Program.{Function, Module, Simple, Emit, Step, Leaf, Nested, If}
use Rattle.shader_analysis_spec.specs.Program.{Switch, Loop, Body, End, Then, Cases, NoCase, Case}
use Rattle.shader_analysis_spec.specs.Steps.{StepExpressionNeed}
use Rattle.shader_analysis_spec.proofs.Flags.{case_flag, found}
use Rattle.shader_analysis_spec.proofs.FindLemmas.{flags_find_statements}
use Rattle.shader_analysis_spec.proofs.FlowLemmas.{more_disrupted}
use Rattle.shader_analysis_spec.proofs.JoinLemmas.{of_range, range_to}
use Rattle.shader_analysis_spec.proofs.ListLemmas.{here, there}
use Rattle.shader_info.specs.declared.error.UniformityDisruptor.{UniformityDisruptor}
use Rattle.shader_info.specs.declared.info.FunctionInfo.{FunctionInfo}
use Rattle.shader_passes.specs.Causes.{disruptor_of}
use Rattle.shader_pass_laws.proofs.EndsLemmas.{Covers, block_first, entered_covers}
use Rattle.shader_pass_laws.proofs.FlowWords.{emits_requiring}
use Rattle.shader_pass_laws.proofs.StepKills.{of_any, of_killing}
use Rattle.shader_passes.specs.Facts.{Fact}
use Rattle.shader_passes.specs.declared.flow.Exits.{Exits}
use Rattle.shader_passes.specs.declared.flow.FlowViolation.{FlowViolation}
use Rattle.shader_passes.specs.Ends.{disruptor_after, case_disruptor, requires_uniform_flow, leaf_fault, on_branch, step_ends, block_ends}
use Rattle.shader_passes.specs.Ends.{requiring_or, first_requiring, flow_violation, step_fault, block_fault, cases_fault}
use Rattle.shader_passes.specs.Facts.{needs_at}
use Rattle.shader_passes.specs.InfoOf.{PointsBackwards, infos_of}
use Rattle.shader_pass_laws.specs.Refused.{IsComputedViolation, FlowViolationsAreFaults, computed_violation}
use Rattle.shader_pass_laws.proofs.Flow as flow
use Rattle.shader_analysis_spec.proofs.NeedsLemmas.{bit_of}
use Rattle.shader_pass_laws.proofs.Needs.{need_within, needs_bits, needs_small, requiring_within, number_requiring, some_need}
use Rattle.shader_pass_laws.proofs.Varied.{of_origin}

-- the first expression that needs undisrupted flow is one of the list
requiring_to : (facts : List Fact) (es : List ℕ) (e : ℕ) → first_requiring facts es ≡ Some e → Contains es e
    × IsTrue (requires_uniform_flow facts e)
requiring_to facts [] e h = absurd (cc)
requiring_to facts (x ∷ xs) e h = at (requires_uniform_flow facts x) refl h (λ k. requiring_to facts xs e k) where
  at : (b : Bool) → requires_uniform_flow facts x ≡ b → requiring_or b x (first_requiring facts xs) ≡ Some e →
      (first_requiring facts xs ≡ Some e → Contains xs e × IsTrue (requires_uniform_flow facts e)) →
      Contains (x ∷ xs) e × IsTrue (requires_uniform_flow facts e)
  at true t k back =
      let same : x ≡ e = cc in
      let P : ℕ → Type 0 = λ v. Contains (x ∷ xs) v × IsTrue (requires_uniform_flow facts v) in subst P same (here x xs, t)
  at false t k back = let r = back k in (there x xs e r.0, r.1)

either_fault : (a b : Option FlowViolation) (x : FlowViolation) → option_or a b ≡ Some x → (a ≡ Some x) ⊎ (b ≡ Some x)
either_fault (Some y) b x h = inl h
either_fault None b x h = inr h

module _ (m : Module) (infos : List FunctionInfo) (f : Function) (settings : Settings) (below : PointsBackwards f) where
  abbrev facts : List Fact
  facts = flow.facts m infos f settings below

  abbrev origin : ℕ → Option ℕ
  origin = flow.origin m infos f settings below

  abbrev VB : ℕ → Bool
  VB = flow.VB m infos f settings below

  abbrev KB : ℕ → Bool
  KB = flow.KB m infos f settings below

  abbrev F : {b : Body} → At f.body b → Bool
  F p = flow.F m infos f settings below p

  abbrev Flags : {b : Body} → At f.body b → Option UniformityDisruptor → Type 0
  Flags p o = is_some o ≡ F p

  abbrev Reported : (b : Body) → At f.body b → Option UniformityDisruptor → Type 0
  Reported = flow.Reported m infos f settings below

  abbrev Left : Exits → Type 0
  Left = flow.Left m infos f settings below

  abbrev Bad : FlowViolation → Type 0
  Bad x = (x.requirements.0 < 16)
      × IsComputedViolation m infos f settings (has_need x.requirements.0) x.expression (disruptor_of x.disruptor)

  emitted : (begin finish : ℕ) (b : Body) (p : At f.body (Then (Leaf (Emit begin finish)) b)) (o : Option UniformityDisruptor)
      (r : Option ℕ) →
      first_requiring facts (positions_between begin finish) ≡ r → Flags p o → Reported (Then (Leaf (Emit begin finish)) b) p o →
      (x : FlowViolation) →
      flow_violation facts o r ≡ Some x → Bad x
  emitted begin finish b p (Some d) (Some e) k is w x h =
      let same : record { requirements = record { 0 = needs_at facts e }; expression = e; disruptor = d } ≡ x = cc in
      let n = requiring_to facts (positions_between begin finish) e k in
      let within = range_to begin finish e n.0 in
      let lt = requiring_within m infos f e n.1 in
      let small = needs_small m infos f e in
      let some = some_need (needs_at facts e) small n.1 in
      let P : FlowViolation → Type 0 = λ v. Bad v in
      subst P same (
        small,
        record {
          start = begin;
          finish = finish;
          left = b;
          at = p;
          from = within.0;
          to = within.1;
          disrupted = flow.disrupted_at m infos f settings below (Then (Leaf (Emit begin finish)) b) p (sym is);
          need = some.0;
          needed = (needs_bits m infos f e some.0 lt).0 some.1;
          all = λ need.
              let bit = bit_of (needs_at facts e) need in
              let exact = needs_bits m infos f e need lt in
              (λ is. exact.0 (bit.0 is), λ needed. bit.1 (exact.1 needed));
          disrupts = w;
        },
      )
  emitted begin finish b p (Some d) None k is w x h = absurd (cc)
  emitted begin finish b p None r k is w x h = absurd (cc)

  -- the disruptor at each of the cases
  abbrev ReportedCases : (e : ℕ) (all : Cases) (b : Body) → At f.body (Then (Switch e all) b) → Option UniformityDisruptor → Type 0
  ReportedCases e all b p o = (v : SwitchValue) (x : Body) (fall : Bool) (cs : Cases) (k : CasesIn all (Case v x fall cs)) →
      Reported x (inside p (case_of k)) o

  reported_next : (e : ℕ) (all : Cases) (b : Body) (p : At f.body (Then (Switch e all) b)) (o now : Option UniformityDisruptor) (fall :
      Bool)
      (one : Exits) →
      ReportedCases e all b p o → ReportedCases e all b p now → Left one → ReportedCases e all b p (case_disruptor o now fall one)
  reported_next e all b p o now true one w w_now l v y fall cs k =
      flow.reported_behind m infos f settings below y (inside p (case_of k)) now one (w_now v y fall cs k) l
  reported_next e all b p o now false one w w_now l v y fall cs k = w v y fall cs k

  bad_leaf : (simple : Simple) (b : Body) (p : At f.body (Then (Leaf simple) b)) (o : Option UniformityDisruptor) → Flags p o →
      Reported (Then (Leaf simple) b) p o →
      (x : FlowViolation) → leaf_fault facts o simple ≡ Some x → Bad x
  bad_leaf (Emit begin finish) b p o is w x h =
      emitted begin finish b p o (first_requiring facts (positions_between begin finish)) refl is w x h
  bad_leaf simple b p o is w x h = absurd (cc)

  mutual
    bad_block : (b : Body) (p : At f.body b) (o : Option UniformityDisruptor) → Flags p o → Reported b p o → (x : FlowViolation) →
        block_fault origin KB facts o b ≡ Some x → Bad x
    bad_block End p o is w x h = absurd (cc)
    bad_block (Then s b) p o is w x h =
        elim (either_fault (step_fault origin KB facts o s) (block_fault origin KB facts (disruptor_after o (step_ends origin KB o s)) b) x
        h) [
          | inl one ↦ bad_step s b p o is w x one
          | inr more ↦ bad_block b (rest p) (disruptor_after o (step_ends origin KB o s))
              (flow.flag_rest m infos f settings below s b p o is)
              (flow.reported_behind m infos f settings below b (rest p) o (step_ends origin KB o s)
              (flow.reported_rest m infos f settings below s b p o w)
              (flow.left_step m infos f settings below s b p o is)) x more
        ]

    bad_step : (s : Step) (b : Body) (p : At f.body (Then s b)) (o : Option UniformityDisruptor) → Flags p o → Reported (Then s b) p o →
        (x : FlowViolation) →
        step_fault origin KB facts o s ≡ Some x → Bad x
    bad_step (Leaf simple) b p o is w x h = bad_leaf simple b p o is w x h
    bad_step (Nested y) b p o is w x h = bad_block y (inside p inner) o is
        (flow.child_given m infos f settings below (Nested y) b y p inner o w) x h
    bad_step (If c y z) b p o is w x h =
        let branched = flow.flag_branch m infos f settings below b (If c y z) p o c is in
        elim (either_fault (block_fault origin KB facts (on_branch origin o c) y)
        (block_fault origin KB facts (on_branch origin o c) z) x h) [
          | inl one ↦ bad_block y (inside p accept) (on_branch origin o c) branched
              (flow.reported_branch m infos f settings below (If c y z) b y p accept c accepts o w) x one
          | inr more ↦ bad_block z (inside p reject) (on_branch origin o c) branched
              (flow.reported_branch m infos f settings below (If c y z) b z p reject c rejects o w) x more
        ]
    bad_step (Loop y z k) b p o is w x h =
        elim (either_fault (block_fault origin KB facts o y) (block_fault origin KB facts (disruptor_after o (block_ends origin KB o y)) z)
        x h) [
          | inl one ↦ bad_block y (inside p body) o is (flow.child_given m infos f settings below (Loop y z k) b y p body o w) x one
          | inr more ↦ bad_block z (inside p continuing) (disruptor_after o (block_ends origin KB o y))
              (flow.flag_again m infos f settings below y b (Loop y z k) p o is)
              (flow.reported_behind m infos f settings below z (inside p continuing) o (block_ends origin KB o y)
              (flow.child_given m infos f settings below (Loop y z k) b z p continuing o w)
              (flow.left_block m infos f settings below y (inside p body) o is)) x more
        ]
    bad_step (Switch e cs) b p o is w x h =
        let branched = flow.flag_branch m infos f settings below b (Switch e cs) p o e is in
        bad_cases cs e cs b p from_first (on_branch origin o e) (on_branch origin o e) branched branched
        (flow.or_same (is_some (on_branch origin o e)))
        (λ v y fall ds k. flow.reported_branch m infos f settings below (Switch e cs) b y p (case_of k) e (selects k) o w)
        (λ v y fall ds k. flow.reported_branch m infos f settings below (Switch e cs) b y p (case_of k) e (selects k) o w) x h

    bad_cases : (cs : Cases) (e : ℕ) (all : Cases) (b : Body) (p : At f.body (Then (Switch e all) b)) (k : CasesIn all cs)
        (o now : Option UniformityDisruptor) →
        is_some o ≡ (F p || VB e) → is_some now ≡ case_flag VB KB (F p || VB e) k → Covers o now → ReportedCases e all b p o →
        ReportedCases e all b p now →
        (x : FlowViolation) → cases_fault origin KB facts o now cs ≡ Some x → Bad x
    bad_cases NoCase e all b p k o now is is_now le w w_now x h = absurd (cc)
    bad_cases (Case v y fall cs) e all b p k o now is is_now le w w_now x h =
        let one = block_ends origin KB now y in
        elim (either_fault (block_fault origin KB facts now y) (cases_fault origin KB facts o (case_disruptor o now fall one) cs) x h) [
          | inl at_once ↦ bad_block y (inside p (case_of k)) now is_now (w_now v y fall cs k) x at_once
          | inr more ↦ bad_cases cs e all b p (after k) o (case_disruptor o now fall one) is
              (flow.flag_next m infos f settings below v y fall e all cs b p k o now is is_now le)
              (entered_covers o now fall one le) w
              (reported_next e all b p o now fall one w w_now (flow.left_block m infos f settings below y (inside p (case_of k)) now
              is_now)) x more
        ]

  -- a violation is detected
  emits_needed : (begin finish e : ℕ) → Contains (positions_between begin finish) e → (n : Need) →
      StepExpressionNeed (infos_of infos) f n e →
      IsTrue (emits_requiring facts (Leaf (Emit begin finish)))
  emits_needed begin finish e h n needed =
      let set = (needs_bits m infos f e n (need_within m infos f e n needed)).1 needed in
      of_any (requires_uniform_flow facts) (positions_between begin finish) e h (number_requiring (needs_at facts e) (bit_of_need n) set)

  found_where : (needs : Need → Bool) (e : ℕ) (d : Disruptor) → IsComputedViolation m infos f settings needs e d →
      IsTrue (found VB KB (emits_requiring facts) false f.body)
  found_where needs e d x =
      (flags_find_statements VB KB (emits_requiring facts) f.body).1 (
        Leaf (Emit x.start x.finish),
        x.left,
        x.at,
        emits_needed x.start x.finish e (of_range x.start x.finish e x.from x.to) x.need x.needed,
        more_disrupted (flow.V m infos f settings below) (λ e. IsTrue (VB e)) (flow.K m infos f settings below) (λ c. IsTrue (KB c)) f.body
            (of_origin m infos f below) (λ c _ _ _ _ k. of_killing infos c k) _ x.at x.disrupted,
      )

  none_found : computed_violation m infos f ≡ None → IsTrue (found VB KB (emits_requiring facts) false f.body) → ⊥
  none_found none some =
      let is : is_some (computed_violation m infos f) ≡ found VB KB (emits_requiring facts) false f.body =
      block_first origin VB (flow.varies_is facts) KB facts f.body None in
      let never : false ≡ found VB KB (emits_requiring facts) false f.body = sym (ap is_some none) ∙ is in
      absurd (cc)

pub flow_violations_are_faults : FlowViolationsAreFaults
flow_violations_are_faults m infos f settings below = (
  λ x h. bad_block m infos f settings below f.body start None refl tt x h,
  λ none needs e d x. none_found m infos f settings below none (found_where m infos f settings below needs e d x),
)
