-- The computed origin of a function's result meets its step equation.
use Rattle.std.proofs.Common.{◌≡◌, refl, sym, ap, subst, ◌∙◌, ℕ, ◌<◌, inl, inr, List, [], Option}
use Rattle.std.proofs.Common.{Some, None, map, slice_get, length, fold, arith, get_or}
use Rattle.std.specs.List.{Contains, enumerate_from}
use Rattle.std.specs.Option.{option_map, option_and_then}
use Rattle.std.proofs.lemmas.Option.{slice_get-map, slice_get_within, slice_get-get_or}
use Rattle.shader_ir.specs.declared.expression.Expression.TheVariants as form
use Rattle.shader_ir.specs.declared.proc.operands.Label.TheVariants as label
use Rattle.shader_analysis_spec.specs.Infos.{IsWitness}
use Rattle.shader_analysis_spec.specs.Origins.{DependsOn, IsSource, HasResultValue}
use Rattle.shader_analysis_spec.specs.Origins as source
use Rattle.shader_analysis_spec.specs.Program.{Function, Module, Expression, Label, Step, Leaf, Return, CooperativeStore}
use Rattle.shader_analysis_spec.specs.Program.{Call, IsExpressionAt, statements, statement_operands}
use Rattle.shader_analysis_spec.specs.Steps.{StepOrigin, StepResult}
use Rattle.shader_analysis_spec.specs.Steps as step
use Rattle.shader_analysis_spec.proofs.OriginsLemmas.{IsWitness-same, IsWitness-some}
use Rattle.shader_analysis_spec.proofs.RetainedLemmas.{retained}
use Rattle.shader_info.specs.declared.info.FunctionInfo.{FunctionInfo}
use Rattle.shader_passes.specs.Facts.{Fact}
use Rattle.shader_passes.specs.Facts.{origin_at, result_origin_at, facts_after}
use Rattle.shader_passes.specs.InfoOf.{infos_of, PointsBackwards}
use Rattle.shader_passes.specs.CalleeUses.{result_origin_after}
use Rattle.shader_passes.proofs.StoredInfoLemmas.{result_to, of_result}
use Rattle.shader_analysis_spec.proofs.ListLemmas.{nowhere, here, cases}
use Rattle.shader_passes.proofs.StepOrigins.{nu, OfOperand, first_is, origins_long, step_origins}

picks_itself : (o : Option ℕ) → IsWitness (λ h. o ≡ Some h) o
picks_itself (Some h) = refl
picks_itself None = λ h e. absurd (cc)

module _ (m : Module) (infos : List FunctionInfo) (f : Function) (all : List Fact)
    (is : all ≡ facts_after m infos f [] (enumerate_from 0 f.expressions))
    (below : PointsBackwards f) where
  abbrev Origin : ℕ → ℕ → Type 0
  Origin e h = StepOrigin m (infos_of infos) f e h

  origin_to : (e h : ℕ) → origin_at all e ≡ Some h → Origin e h
  origin_to e h t = at (slice_get all e) refl t where
    at : (o : Option Fact) → slice_get all e ≡ o → option_and_then nu o ≡ Some h → Origin e h
    at None here' reported = absurd (cc)
    at (Some i) here' reported = step_origins m infos f all is below e (Some h) (slice_get-map nu all e
        ∙ (ap (option_map nu) here' ∙ ap (λ (v : Option ℕ). Some v) reported))

  occurs_of : (e h : ℕ) → DependsOn f e h → (IsSource m f h → (x : Expression) × IsExpressionAt f e x)
  occurs_of e h source.DependsOn.itself is_source = (is_source.expression, is_source.is_there)
  occurs_of e h (source.DependsOn.through {x = x} s c l) is_source = (x, s)

  led_of : (e k c : ℕ) → DependsOn f e k → IsExpressionAt f k (form.CallResult c) → (x : Expression) × IsExpressionAt f e x
  led_of e k c source.DependsOn.itself s = (form.CallResult c, s)
  led_of e k c (source.DependsOn.through {x = x} t o l) s = (x, t)

  origin_occurs : (e h : ℕ) → Origin e h → (x : Expression) × IsExpressionAt f e x
  origin_occurs e h (step.StepOrigin.own leads is_source) = occurs_of e h leads is_source
  origin_occurs e h (step.StepOrigin.callee {k = k} {c = c} leads s stored reported) = led_of e k c leads s

  origin_from : (e h : ℕ) → Origin e h → (k : ℕ) × (origin_at all e ≡ Some k)
  origin_from e h t =
      let x = origin_occurs e h t in
      let lt : e < length (map nu all) = omega (arith, slice_get_within f.expressions e x.0 x.1, origins_long m infos f all is) in
      let r = get_or (map nu all) e None in
      let there : slice_get (map nu all) e ≡ Some r = slice_get-get_or (map nu all) e None lt in
      let k = IsWitness-some (Origin e) r h t (step_origins m infos f all is below e r there) in
      (k.0, at (slice_get all e) k.0 (sym (slice_get-map nu all e) ∙ (there ∙ ap (λ (v : Option ℕ). Some v) k.1))) where
        at : (o : Option Fact) (k : ℕ) → option_map nu o ≡ Some (Some k) → option_and_then nu o ≡ Some k
        at None k t = absurd (cc)
        at (Some i) k t = cc

  -- the origins that a statement contributes
  abbrev Given : Step → ℕ → Type 0
  Given (Leaf (Return value)) h = OfOperand all (statement_operands (Leaf (Return value))) h
  Given (Leaf (CooperativeStore target tile)) h = OfOperand all (statement_operands (Leaf (CooperativeStore target tile))) h
  Given (Leaf (Call c arguments result)) h = result_origin_at infos c ≡ Some h
  Given s h = ⊥

  given_picks : (s : Step) → IsWitness (Given s) (result_origin_after infos all None s)
  given_picks (Leaf (Return value)) = first_is all (statement_operands (Leaf (Return value)))
  given_picks (Leaf (CooperativeStore target tile)) = first_is all (statement_operands (Leaf (CooperativeStore target tile)))
  given_picks (Leaf (Call c arguments result)) = picks_itself (result_origin_at infos c)
  given_picks s = λ h t. t

  given_preserves : (s : Step) (h : ℕ) → result_origin_after infos all (Some h) s ≡ Some h
  given_preserves s h = refl

  returned : (value : Option ℕ) (o : ℕ × Label) → Contains (statement_operands (Leaf (Return value))) o → value ≡ Some o.0
  returned None o k = absurd (nowhere o k)
  returned (Some e) o k = elim (cases (e, label.Read) [] o k) [
    | inl same ↦ ap (λ (v : ℕ × Label). Some v.0) same
    | inr none ↦ absurd (nowhere o none)
  ]

  given_to : (h : ℕ) (s : Step) → Contains (statements f.body) s → Given s h → StepResult m (infos_of infos) f h
  given_to h (Leaf (Return value)) k t =
      let P : Option ℕ → Type 0 = λ v. Contains (statements f.body) (Leaf (Return v)) in
      step.StepResult.own (source.HasResultValue.returned (subst P (returned value t.0 t.1) k)) (origin_to t.0.0 h t.2)
  given_to h (Leaf (CooperativeStore target tile)) k t = step.StepResult.own (source.HasResultValue.stored k t.1) (origin_to t.0.0 h t.2)
  given_to h (Leaf (Call c arguments result)) k t =
      let r = result_to infos c h t in step.StepResult.callee (record { callee = c; result = result; holds = k; stored = r.1 }) r.2
  given_to h s k t = absurd t

  abbrev SomeGiven : ℕ → Type 0
  SomeGiven h = (s : Step) × Contains (statements f.body) s × Given s h

  given_of : (e h : ℕ) → HasResultValue f e → Origin e h → (k : ℕ) × SomeGiven k
  given_of e h (source.HasResultValue.returned holds) origin =
      let k = origin_from e h origin in (k.0, (Leaf (Return (Some e)), holds, ((e, label.Read), here (e, label.Read) [], k.1)))
  given_of e h (source.HasResultValue.stored {target = target} {tile = tile} {label = l} holds used) origin =
      let k = origin_from e h origin in (k.0, (Leaf (CooperativeStore target tile), holds, ((e, l), used, k.1)))

  of_given : (h : ℕ) → StepResult m (infos_of infos) f h → (k : ℕ) × SomeGiven k
  of_given h (step.StepResult.own {e = e} gives origin) = given_of e h gives origin
  of_given h (step.StepResult.callee {arguments = arguments} {info = i} call r) =
      (h, (Leaf (Call call.callee arguments call.result), call.holds, of_result infos call.callee h i call.stored r))

  pub step_result : (ss : List Step) (o : Option ℕ) → ss ≡ statements f.body → o ≡ fold (result_origin_after infos all) None ss →
      IsWitness (StepResult m (infos_of infos) f) o
  step_result ss o same e =
      let whole : o ≡ fold (result_origin_after infos all) None (statements f.body) =
      e ∙ ap (λ v. fold (result_origin_after infos all) None v) same in
      let Q : Option ℕ → Type 0 = λ v. IsWitness (StepResult m (infos_of infos) f) v in
      subst Q (sym whole) (IsWitness-same SomeGiven (StepResult m (infos_of infos) f) _ (λ h t. given_to h t.0 t.1 t.2) of_given
      (retained (result_origin_after infos all) Given given_preserves given_picks (statements f.body)))
