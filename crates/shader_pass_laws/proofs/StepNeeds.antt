-- The computed needs meet their step equations.
use Rattle.std.proofs.Common.{◌≡◌, refl, sym, ap, subst, ◌∙◌, ℕ, ◌<◌, ◌≤◌, ◌⊎◌, inl, inr, ◌↔◌, List, [], Bool, true, false, IsTrue, Option}
use Rattle.std.proofs.Common.{Some, None, map, slice_get, slice_index, length, fold, bit_and, bit_or, unwrap_or, arith, get_or, nat_lt, ◌^◌}
use borrow.Author.Tests.{ltb-true, ltb-false}
use Rattle.std.specs.List.{Contains, enumerate_from}
use Rattle.std.specs.Int.{IsBitSet}
use Rattle.std.specs.Option.{option_map}
use Rattle.std.proofs.lemmas.Nat.{and_assoc}
use Rattle.std.proofs.lemmas.Option.{slice_get-map, slice_get-get_or, get_or_from_slice_get, slice_get_past}
use Rattle.shader_arena.specs.Positions.{positions_between}
use Rattle.shader_ir.specs.declared.expression.Expression.TheVariants as form
use Rattle.shader_ir.specs.declared.expression.SampleLevel.{SampleLevel}
use Rattle.shader_ir.specs.declared.expression.SampleLevel.TheVariants as level
use Rattle.shader_analysis_spec.specs.Infos.{Info}
use Rattle.shader_analysis_spec.specs.Needs.{Need, WorkGroupBarrier, Derivative, ImplicitLevel, CooperativeOperation}
use Rattle.shader_analysis_spec.specs.Needs.{bit_of_need, expression_requires, statement_requires, is_implicit}
use Rattle.shader_analysis_spec.specs.Program.{Function, Module, Expression, Step, Leaf, Emit, ControlBarrier, MemoryBarrier}
use Rattle.shader_analysis_spec.specs.Program.{WorkGroupUniformLoad, CooperativeStore, Call, IsExpressionAt, statements}
use Rattle.shader_analysis_spec.specs.Steps.{StepExpressionNeed, StepNeed}
use Rattle.shader_analysis_spec.specs.Steps as step
use Rattle.shader_info.specs.declared.info.FunctionInfo.{FunctionInfo}
use Rattle.shader_passes.specs.Facts.{Fact}
use Rattle.shader_passes.specs.Facts.{callee_of, called_needs, entry, form_needs, level_needs, needs_at, own_needs, result_needs}
use Rattle.shader_passes.specs.Facts.{facts_after}
use Rattle.shader_passes.specs.InfoOf.{info_of, infos_of}
use Rattle.shader_passes.specs.CalleeUses.{with_needs_of, statement_needs}
use Rattle.shader_passes.proofs.FactLemmas.{is_there_between, get_seam}
use Rattle.shader_passes.proofs.StoredInfoLemmas.{stored_of, of_stored}
use Rattle.shader_passes.proofs.StepOrigins.{same_expression, facts_long}
use Rattle.shader_analysis_spec.proofs.JoinLemmas.{no_bit, not_bit, of_bit, or_to, or_of, joined_to, joined_of, range_to}
use Rattle.shader_analysis_spec.proofs.JoinLemmas.{of_range}

-- the bits with a name are those of the needs
bit_power : Need → ℕ
bit_power WorkGroupBarrier = 1
bit_power Derivative = 2
bit_power ImplicitLevel = 4
bit_power CooperativeOperation = 8

same_bit : (v : ℕ) (n : Need) → bit_and (bit_and v 15) (2 ^ bit_of_need n) ≡ bit_and v (2 ^ bit_of_need n)
same_bit v WorkGroupBarrier = and_assoc 1 v 15
same_bit v Derivative = and_assoc 2 v 15
same_bit v ImplicitLevel = and_assoc 4 v 15
same_bit v CooperativeOperation = and_assoc 8 v 15

masked_to : (v : ℕ) (n : Need) → IsBitSet (bit_and v 15) (bit_of_need n) → IsBitSet v (bit_of_need n)
masked_to v n h = λ none. h (same_bit v n ∙ none)

of_masked : (v : ℕ) (n : Need) → IsBitSet v (bit_of_need n) → IsBitSet (bit_and v 15) (bit_of_need n)
of_masked v n h = λ none. h (sym (same_bit v n) ∙ none)

-- the needs of a callee
module _ (infos : List FunctionInfo) (c : ℕ) (n : Need) where
  needs_to : IsBitSet (result_needs infos c) (bit_of_need n) →
      (i : Info) × (slice_get (infos_of infos) c ≡ Some i) × IsBitSet i.needs (bit_of_need n)
  needs_to h = at (slice_get infos c) h refl where
    at : (o : Option FunctionInfo) → IsBitSet (unwrap_or (option_map (λ (i : FunctionInfo). bit_and i.uniformity.requirements.0 15) o) 0)
        (bit_of_need n) → slice_get infos c ≡ o →
        (i : Info) × (slice_get (infos_of infos) c ≡ Some i) × IsBitSet i.needs (bit_of_need n)
    at None t e = absurd (no_bit (bit_of_need n) t)
    at (Some i) t e = (info_of i, stored_of infos c i e, masked_to i.uniformity.requirements.0 n t)

  of_needs : (i : Info) → slice_get (infos_of infos) c ≡ Some i → IsBitSet i.needs (bit_of_need n) →
      IsBitSet (result_needs infos c) (bit_of_need n)
  of_needs i e t =
      let at = of_stored infos c i e in
      let P : Option FunctionInfo → Type 0 = λ v. IsBitSet (unwrap_or
      (option_map (λ (i : FunctionInfo). bit_and i.uniformity.requirements.0 15) v) 0) (bit_of_need n) in
      let Q : Info → Type 0 = λ v. IsBitSet v.needs (bit_of_need n) in
      subst P (sym at.1) (of_masked at.0.uniformity.requirements.0 n (subst Q (sym at.2) t))

-- the needs of an expression by its own variant
level_to : (l : SampleLevel) (n : Need) → IsBitSet (level_needs l) (bit_of_need n) → (n ≡ ImplicitLevel) × (is_implicit l ≡ true)
level_to level.Auto WorkGroupBarrier h = absurd (not_bit 4 0 refl h)
level_to level.Auto Derivative h = absurd (not_bit 4 1 refl h)
level_to level.Auto ImplicitLevel h = (refl, refl)
level_to level.Auto CooperativeOperation h = absurd (not_bit 4 3 refl h)
level_to (level.Bias b) WorkGroupBarrier h = absurd (not_bit 4 0 refl h)
level_to (level.Bias b) Derivative h = absurd (not_bit 4 1 refl h)
level_to (level.Bias b) ImplicitLevel h = (refl, refl)
level_to (level.Bias b) CooperativeOperation h = absurd (not_bit 4 3 refl h)
level_to l n h = absurd (no_bit (bit_of_need n) h)

of_level : (l : SampleLevel) → is_implicit l ≡ true → IsBitSet (level_needs l) 2
of_level level.Auto h = of_bit 4 2 refl
of_level (level.Bias b) h = of_bit 4 2 refl
of_level l h = absurd (cc)

derivative_to : (n : Need) → IsBitSet 2 (bit_of_need n) → n ≡ Derivative
derivative_to WorkGroupBarrier h = absurd (not_bit 2 0 refl h)
derivative_to Derivative h = refl
derivative_to ImplicitLevel h = absurd (not_bit 2 2 refl h)
derivative_to CooperativeOperation h = absurd (not_bit 2 3 refl h)

cooperative_to : (n : Need) → IsBitSet 8 (bit_of_need n) → n ≡ CooperativeOperation
cooperative_to WorkGroupBarrier h = absurd (not_bit 8 0 refl h)
cooperative_to Derivative h = absurd (not_bit 8 1 refl h)
cooperative_to ImplicitLevel h = absurd (not_bit 8 2 refl h)
cooperative_to CooperativeOperation h = refl

barrier_to : (n : Need) → IsBitSet 1 (bit_of_need n) → n ≡ WorkGroupBarrier
barrier_to WorkGroupBarrier h = refl
barrier_to Derivative h = absurd (not_bit 1 1 refl h)
barrier_to ImplicitLevel h = absurd (not_bit 1 2 refl h)
barrier_to CooperativeOperation h = absurd (not_bit 1 3 refl h)

form_to : (x : Expression) (n : Need) → IsBitSet (form_needs x) (bit_of_need n) → IsTrue (expression_requires x n)
form_to (form.ImageSample i s g k c a o l d) n h =
    let r = level_to l n h in
    let P : Need → Type 0 = λ v. IsTrue (expression_requires (form.ImageSample i s g k c a o l d) v) in subst P (sym r.0) r.1
form_to (form.Derivative a c e) n h = let P : Need → Type 0 = λ v. IsTrue (expression_requires (form.Derivative a c e) v) in
    subst P (sym (derivative_to n h)) refl
form_to (form.CooperativeLoad a b r t) n h = let P : Need → Type 0 = λ v. IsTrue (expression_requires (form.CooperativeLoad a b r t) v) in
    subst P (sym (cooperative_to n h)) refl
form_to (form.CooperativeMultiplyAdd a b c) n h = let P : Need → Type 0 =
    λ v. IsTrue (expression_requires (form.CooperativeMultiplyAdd a b c) v) in subst P (sym (cooperative_to n h)) refl
form_to x n h = absurd (no_bit (bit_of_need n) h)

of_form : (x : Expression) (n : Need) → IsTrue (expression_requires x n) → IsBitSet (form_needs x) (bit_of_need n)
of_form (form.ImageSample i s g k c a o l d) ImplicitLevel h = of_level l h
of_form (form.Derivative a c e) Derivative h = of_bit 2 1 refl
of_form (form.CooperativeLoad a b r t) CooperativeOperation h = of_bit 8 3 refl
of_form (form.CooperativeMultiplyAdd a b c) CooperativeOperation h = of_bit 8 3 refl
of_form x n h = absurd (cc)

-- a CallResult has no needs by its own variant
callee_form : (x : Expression) (c : ℕ) → callee_of x ≡ Some c → x ≡ form.CallResult c
callee_form (form.CallResult d) c h = cc
callee_form x c h = absurd (cc)

module _ (infos : List FunctionInfo) (f : Function) (n : Need) where
  own_to : (e : ℕ) (x : Expression) → IsExpressionAt f e x → IsBitSet (own_needs infos x) (bit_of_need n) →
      StepExpressionNeed (infos_of infos) f n e
  own_to e x s h = at (callee_of x) refl h where
    at : (o : Option ℕ) → callee_of x ≡ o → IsBitSet (called_needs infos o (form_needs x)) (bit_of_need n) →
        StepExpressionNeed (infos_of infos) f n e
    at (Some c) is t =
        let P : Expression → Type 0 = λ v. IsExpressionAt f e v in
        let r = needs_to infos c n t in step.StepExpressionNeed.callee (subst P (callee_form x c is) s) r.1 r.2
    at None is t = step.StepExpressionNeed.own s (form_to x n t)

  of_own : (e : ℕ) (x : Expression) → IsExpressionAt f e x → StepExpressionNeed (infos_of infos) f n e →
      IsBitSet (own_needs infos x) (bit_of_need n)
  of_own e x s (step.StepExpressionNeed.own {x = y} t required) = at y (same_expression f e y x t s) required where
    plain : (y : Expression) → IsTrue (expression_requires y n) → IsBitSet (own_needs infos y) (bit_of_need n)
    plain (form.CallResult c) required = absurd (cc)
    plain y required = of_form y n required

    at : (y : Expression) → y ≡ x → IsTrue (expression_requires y n) → IsBitSet (own_needs infos x) (bit_of_need n)
    at y same required = let P : Expression → Type 0 = λ v. IsBitSet (own_needs infos v) (bit_of_need n) in subst P same (plain y required)
  of_own e x s (step.StepExpressionNeed.callee {c = c} {info = i} t stored is) =
      let P : Expression → Type 0 = λ v. IsBitSet (own_needs infos v) (bit_of_need n) in
      subst P (same_expression f e (form.CallResult c) x t s) (of_needs infos c n i stored is)

abbrev pub rq : Fact → ℕ
rq fact = fact.requirements.0

module _ (m : Module) (infos : List FunctionInfo) (f : Function) (all : List Fact)
    (is : all ≡ facts_after m infos f [] (enumerate_from 0 f.expressions)) where
  needs_are : (e : ℕ) (x : Expression) → IsExpressionAt f e x → (i : Fact) × (slice_get all e ≡ Some i) × (rq i ≡ own_needs infos x)
  needs_are e x s =
      let b = is_there_between m infos f f.expressions e x s in
      let one = entry m infos f b.prior e x in
      (one, ap (λ v. slice_get v e) (is ∙ b.is) ∙ get_seam b.prior one b.later e b.long, refl)

  needs_is : (e : ℕ) (x : Expression) → IsExpressionAt f e x → needs_at all e ≡ own_needs infos x
  needs_is e x s = let r = needs_are e x s in ap (λ (v : Option Fact). unwrap_or (option_map rq v) 0) r.1 ∙ r.2

  recorded_is : (e : ℕ) (x : Expression) → IsExpressionAt f e x → slice_index (map rq all) e ≡ own_needs infos x
  recorded_is e x s =
      let r = needs_are e x s in
      get_or_from_slice_get (map rq all) e (rq r.0) 0 (slice_get-map rq all e ∙ ap (option_map rq) r.1) ∙ r.2

  is_there_at : (e : ℕ) → e < length f.expressions → (x : Expression) × IsExpressionAt f e x
  is_there_at e lt = (get_or f.expressions e form.RayQueryProceedResult, slice_get-get_or f.expressions e form.RayQueryProceedResult lt)

  pub step_expression_needs : (n : Need) (e : ℕ) → e < length f.expressions →
      IsBitSet (slice_index (map rq all) e) (bit_of_need n) ↔ StepExpressionNeed (infos_of infos) f n e
  step_expression_needs n e lt =
      let x = is_there_at e lt in
      let P : ℕ → Type 0 = λ v. IsBitSet v (bit_of_need n) in (
        λ h. own_to infos f n e x.0 x.1 (subst P (recorded_is e x.0 x.1) h),
        λ t. subst P (sym (recorded_is e x.0 x.1)) (of_own infos f n e x.0 x.1 t),
      )

  -- the needs that a statement adds
  abbrev Requires : Step → ℕ → Type 0
  Requires s k = IsBitSet (statement_needs infos all s) k

  adds : (v k : ℕ) (s : Step) → IsBitSet (with_needs_of infos all v s) k → IsBitSet v k ⊎ Requires s k
  adds v k s h = or_to v (statement_needs infos all s) k h

  gains : (v k : ℕ) (s : Step) → IsBitSet v k ⊎ Requires s k → IsBitSet (with_needs_of infos all v s) k
  gains v k s h = or_of v (statement_needs infos all s) k h

  one_adds : (v k e : ℕ) → IsBitSet (bit_or v (needs_at all e)) k → IsBitSet v k ⊎ IsBitSet (needs_at all e) k
  one_adds v k e h = or_to v (needs_at all e) k h

  one_gains : (v k e : ℕ) → IsBitSet v k ⊎ IsBitSet (needs_at all e) k → IsBitSet (bit_or v (needs_at all e)) k
  one_gains v k e h = or_of v (needs_at all e) k h

  emitted_to : (n : Need) (start finish e : ℕ) → Contains (statements f.body) (Leaf (Emit start finish)) → start ≤ e → e < finish →
      IsBitSet (needs_at all e) (bit_of_need n) →
      StepNeed (infos_of infos) f n
  emitted_to n start finish e h from to t = at (nat_lt e (length f.expressions)) refl where
    at : (b : Bool) → nat_lt e (length f.expressions) ≡ b → StepNeed (infos_of infos) f n
    at true test =
        let x = is_there_at e (omega (arith, ltb-true, test)) in
        let P : ℕ → Type 0 = λ v. IsBitSet v (bit_of_need n) in
        step.StepNeed.expression e (record { start = start; finish = finish; holds = h; from = from; to = to })
        (own_to infos f n e x.0 x.1 (subst P (needs_is e x.0 x.1) t))
    at false test =
        let none = slice_get_past all e (omega (arith, ltb-false, test, facts_long m infos f all is)) in
        let P : Option Fact → Type 0 = λ v. IsBitSet (unwrap_or (option_map rq v) 0) (bit_of_need n) in
        absurd (no_bit (bit_of_need n) (subst P none t))

  requires_to : (n : Need) (s : Step) → Contains (statements f.body) s → Requires s (bit_of_need n) → StepNeed (infos_of infos) f n
  requires_to n (Leaf (Emit start finish)) h t =
      elim (joined_to (λ v e. bit_or v (needs_at all e)) (λ e k. IsBitSet (needs_at all e) k) one_adds one_gains 0 (bit_of_need n)
      (positions_between start finish) t) [
        | inl none ↦ absurd (no_bit (bit_of_need n) none)
        | inr one ↦ let r = range_to start finish one.0 one.1 in emitted_to n start finish one.0 h r.0 r.1 one.2
      ]
  requires_to n (Leaf (ControlBarrier b)) h t =
      let P : Need → Type 0 = λ v. IsTrue (statement_requires (Leaf (ControlBarrier b)) v) in
      step.StepNeed.statement h (subst P (sym (barrier_to n t)) refl)
  requires_to n (Leaf (MemoryBarrier b)) h t =
      let P : Need → Type 0 = λ v. IsTrue (statement_requires (Leaf (MemoryBarrier b)) v) in
      step.StepNeed.statement h (subst P (sym (barrier_to n t)) refl)
  requires_to n (Leaf (WorkGroupUniformLoad p r)) h t =
      let P : Need → Type 0 = λ v. IsTrue (statement_requires (Leaf (WorkGroupUniformLoad p r)) v) in
      step.StepNeed.statement h (subst P (sym (barrier_to n t)) refl)
  requires_to n (Leaf (CooperativeStore p r)) h t =
      let P : Need → Type 0 = λ v. IsTrue (statement_requires (Leaf (CooperativeStore p r)) v) in
      step.StepNeed.statement h (subst P (sym (cooperative_to n t)) refl)
  requires_to n (Leaf (Call c arguments result)) h t =
      let r = needs_to infos c n t in step.StepNeed.callee (record { callee = c; result = result; holds = h; stored = r.1 }) r.2
  requires_to n s h t = absurd (no_bit (bit_of_need n) t)

  requires_statement : (s : Step) (n : Need) → IsTrue (statement_requires s n) → Requires s (bit_of_need n)
  requires_statement (Leaf (ControlBarrier b)) WorkGroupBarrier h = of_bit 1 0 refl
  requires_statement (Leaf (MemoryBarrier b)) WorkGroupBarrier h = of_bit 1 0 refl
  requires_statement (Leaf (WorkGroupUniformLoad p r)) WorkGroupBarrier h = of_bit 1 0 refl
  requires_statement (Leaf (CooperativeStore p r)) CooperativeOperation h = of_bit 8 3 refl
  requires_statement s n h = absurd (cc)

  occurs_of : (n : Need) (e : ℕ) → StepExpressionNeed (infos_of infos) f n e → (x : Expression) × IsExpressionAt f e x
  occurs_of n e (step.StepExpressionNeed.own {x = x} s required) = (x, s)
  occurs_of n e (step.StepExpressionNeed.callee {c = c} s stored is) = (form.CallResult c, s)

  of_requires : (n : Need) → StepNeed (infos_of infos) f n → (s : Step) × Contains (statements f.body) s × Requires s (bit_of_need n)
  of_requires n (step.StepNeed.statement {s = s} h required) = (s, h, requires_statement s n required)
  of_requires n (step.StepNeed.expression e emitted needs) =
      let x = occurs_of n e needs in
      let P : ℕ → Type 0 = λ v. IsBitSet v (bit_of_need n) in (
        Leaf (Emit emitted.start emitted.finish),
        emitted.holds,
        joined_of (λ v e. bit_or v (needs_at all e)) (λ e k. IsBitSet (needs_at all e) k) one_adds one_gains 0 (bit_of_need n)
            (positions_between emitted.start emitted.finish) e
            (of_range emitted.start emitted.finish e emitted.from emitted.to)
            (subst P (sym (needs_is e x.0 x.1)) (of_own infos f n e x.0 x.1 needs)),
      )
  of_requires n (step.StepNeed.callee {arguments = arguments} {info = i} call h) =
      (Leaf (Call call.callee arguments call.result), call.holds, of_needs infos call.callee n i call.stored h)

  pub step_needs : (ss : List Step) (needs : ℕ) → ss ≡ statements f.body → needs ≡ fold (with_needs_of infos all) 0 ss →
      (n : Need) → IsBitSet needs (bit_of_need n) ↔ StepNeed (infos_of infos) f n
  step_needs ss needs same e n =
      let k = bit_of_need n in
      let P : ℕ → Type 0 = λ v. IsBitSet v k in
      let whole : needs ≡ fold (with_needs_of infos all) 0 (statements f.body) = e ∙ ap (λ v. fold (with_needs_of infos all) 0 v) same in (
        λ h. elim (joined_to (with_needs_of infos all) Requires adds gains 0 k (statements f.body) (subst P whole h)) [
          | inl none ↦ absurd (no_bit k none)
          | inr one ↦ requires_to n one.0 one.1 one.2
        ],
        λ t. let one = of_requires n t in
            subst P (sym whole) (joined_of (with_needs_of infos all) Requires adds gains 0 k (statements f.body) one.0 one.1 one.2),
      )
