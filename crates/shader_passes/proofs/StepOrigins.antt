-- The computed origins meet their step equation.
use Rattle.std.proofs.Common.{◌≡◌, refl, sym, ap, subst, ◌∙◌, ℕ, ◌<◌, ◌⊎◌, inl, inr, List, [], ◌∷◌, Bool, true}
use Rattle.std.proofs.Common.{false, if◌then◌else◌, Option, Some, None, map, slice_get, length, arith, get_or}
use Rattle.std.specs.List.{Contains, enumerate_from}
use Rattle.std.specs.Option.{option_map, option_and_then, option_or}
use Rattle.std.proofs.lemmas.Option.{slice_get-map, slice_get_within, slice_get-get_or}
use Rattle.std.proofs.lemmas.List.{length-map}
use Rattle.shader_ir.specs.declared.expression.Expression.TheVariants as form
use Rattle.shader_analysis_spec.specs.Stored.{StepOperand, itself, operand, callee}
use Rattle.shader_analysis_spec.specs.Infos.{IsWitness}
use Rattle.shader_analysis_spec.specs.Origins.{is_source}
use Rattle.shader_analysis_spec.specs.Program.{Function, Module, Expression, Label, expression_operands, IsExpressionAt}
use Rattle.shader_analysis_spec.specs.Steps.{StepOrigin}
use Rattle.shader_analysis_spec.proofs.StoredLemmas.{operands_give_origins}
use Rattle.shader_analysis_spec.proofs.OriginsLemmas.{IsWitness-same}
use Rattle.shader_info.specs.declared.info.FunctionInfo.{FunctionInfo}
use Rattle.shader_passes.specs.Facts.{Fact}
use Rattle.shader_passes.specs.Facts.{callee_of, callee_origin, entry, first_origin, origin_at, own_origin, result_origin_at, facts_after}
use Rattle.shader_passes.specs.InfoOf.{infos_of, PointsBackwards}
use Rattle.shader_passes.proofs.FactLemmas.{is_there_between, facts_after_long, get_seam, get_left}
use Rattle.shader_passes.proofs.StoredInfoLemmas.{result_to, of_result}
use Rattle.shader_analysis_spec.proofs.ListLemmas.{nowhere, here, there, cases}

abbrev pub nu : Fact → Option ℕ
nu fact = fact.origin

or_picks : (P Q : ℕ → Type 0) (a b : Option ℕ) → IsWitness P a → IsWitness Q b → IsWitness (λ h. P h ⊎ Q h) (option_or a b)
or_picks P Q (Some h) b p q = inl p
or_picks P Q None (Some h) p q = inr q
or_picks P Q None None p q = λ h t. elim t [ inl l ↦ p h l | inr r ↦ q h r ]

-- the first origin is one of the operands' origins
abbrev pub OfOperand : List Fact → List (ℕ × Label) → ℕ → Type 0
OfOperand prior os h = (o : ℕ × Label) × Contains os o × (origin_at prior o.0 ≡ Some h)

pub first_is : (prior : List Fact) (os : List (ℕ × Label)) → IsWitness (OfOperand prior os) (first_origin prior os)
first_is prior [] = λ h k. nowhere k.0 k.1
first_is prior (o ∷ os) = at (origin_at prior o.0) (first_is prior os) refl where
  at : (v : Option ℕ) → IsWitness (OfOperand prior os) (first_origin prior os) → origin_at prior o.0 ≡ v →
      IsWitness (OfOperand prior (o ∷ os)) (option_or v (first_origin prior os))
  at (Some h) rest k = (o, here o os, k)
  at None rest k = IsWitness-same (OfOperand prior os) (OfOperand prior (o ∷ os)) (first_origin prior os)
      (λ h t. (t.0, there o os t.0 t.1, t.2))
      (λ h t. elim (cases o os t.0 t.1) [
        | inl is ↦ let P : ℕ × Label → Type 0 = λ v. origin_at prior v.0 ≡ None in let none = subst P is k in let some = t.2 in absurd (cc)
        | inr later ↦ (h, (t.0, later, t.2))
      ]) rest

-- the result of the function whose result the expression is
abbrev OfCallee : List FunctionInfo → Expression → ℕ → Type 0
OfCallee infos x h = (c : ℕ) × (callee_of x ≡ Some c) × (result_origin_at infos c ≡ Some h)

callee_picks : (infos : List FunctionInfo) (x : Expression) → IsWitness (OfCallee infos x) (callee_origin infos (callee_of x))
callee_picks infos x = at (callee_of x) refl where
  result : (c : ℕ) → callee_of x ≡ Some c → (o : Option ℕ) → result_origin_at infos c ≡ o → IsWitness (OfCallee infos x) o
  result c is (Some h) r = (c, is, r)
  result c is None r = λ h t.
      let same : c ≡ t.0 = let other = t.1 in cc in
      let P : ℕ → Type 0 = λ v. result_origin_at infos v ≡ None in
      let none = subst P same r in let some = t.2 in absurd (cc)

  at : (o : Option ℕ) → callee_of x ≡ o → IsWitness (OfCallee infos x) (callee_origin infos o)
  at (Some c) is = result c is (result_origin_at infos c) refl
  at None is = λ h t. let some = t.1 in absurd (cc)

callee_is : (x : Expression) (c : ℕ) → callee_of x ≡ Some c → x ≡ form.CallResult c
callee_is (form.CallResult d) c h = cc
callee_is x c h = absurd (cc)

pub same_expression : (f : Function) (e : ℕ) (x y : Expression) → IsExpressionAt f e x → IsExpressionAt f e y → x ≡ y
same_expression f e x y h k = let both : Some x ≡ Some y = sym h ∙ k in cc

if_picks : (P : ℕ → Type 0) (b : Bool) (x y : Option ℕ) → (b ≡ true → IsWitness P x) → (b ≡ false → IsWitness P y) →
    IsWitness P (if b then x else y)
if_picks P true x y p q = p refl
if_picks P false x y p q = q refl

module _ (m : Module) (infos : List FunctionInfo) (f : Function) (e : ℕ) (recorded : List (Option ℕ)) (prior : List Fact)
    (same : (o : ℕ) → o < e → slice_get recorded o ≡ option_map nu (slice_get prior o)) where
  abbrev Step : ℕ → Type 0
  Step h = StepOperand m (infos_of infos) f recorded e h

  -- the record of an operand
  origin_to : (o h : ℕ) → o < e → origin_at prior o ≡ Some h → slice_get recorded o ≡ Some (Some h)
  origin_to o h lt k = same o lt ∙ at (slice_get prior o) k where
    at : (i : Option Fact) → option_and_then nu i ≡ Some h → option_map nu i ≡ Some (Some h)
    at None t = absurd (cc)
    at (Some i) t = ap (λ (v : Option ℕ). Some v) t

  of_origin : (o h : ℕ) → o < e → slice_get recorded o ≡ Some (Some h) → origin_at prior o ≡ Some h
  of_origin o h lt k = at (slice_get prior o) (sym (same o lt) ∙ k) where
    at : (i : Option Fact) → option_map nu i ≡ Some (Some h) → option_and_then nu i ≡ Some h
    at None t = absurd (cc)
    at (Some i) t = cc

  abbrev Results : Expression → ℕ → Type 0
  Results x h = OfCallee infos x h ⊎ OfOperand prior (expression_operands x) h

  led : (x : Expression) → IsExpressionAt f e x → is_source m f x ≡ false →
      ((o : ℕ × Label) → Contains (expression_operands x) o → o.0 < e) →
      IsWitness Step (option_or (callee_origin infos (callee_of x)) (first_origin prior (expression_operands x)))
  led x s none below = IsWitness-same (Results x) Step _ to from
      (or_picks (OfCallee infos x) (OfOperand prior (expression_operands x)) _ _ (callee_picks infos x)
      (first_is prior (expression_operands x))) where
        to : (h : ℕ) → Results x h → Step h
        to h (inl callee_pairs) =
            let P : Expression → Type 0 = λ v. IsExpressionAt f e v in
            let stored = result_to infos callee_pairs.0 h callee_pairs.2 in
            callee (subst P (callee_is x callee_pairs.0 callee_pairs.1) s) stored.1 stored.2
        to h (inr used) = operand s used.1 (origin_to used.0.0 h (below used.0 used.1) used.2)

        from : (h : ℕ) → Step h → (k : ℕ) × Results x k
        from h (itself t) =
            let P : Expression → Type 0 = λ v. is_source m f v ≡ true in
            let some = subst P (same_expression f e t.expression x t.is_there s) t.source in absurd (cc)
        from h (operand {x = y} {o = o} t c r) =
            let P : Expression → Type 0 = λ v. Contains (expression_operands v) o in
            let c' = subst P (same_expression f e y x t s) c in
            (h, inr (o, c', of_origin o.0 h (below o c') r))
        from h (callee {c = c} {info = i} t g r) =
            let P : Expression → Type 0 = λ v. callee_of v ≡ Some c in
            (h, inl (c, subst P (same_expression f e (form.CallResult c) x t s) refl, of_result infos c h i g r))

  picks : (x : Expression) → IsExpressionAt f e x → ((o : ℕ × Label) → Contains (expression_operands x) o → o.0 < e) →
      IsWitness Step (own_origin m infos f prior e x)
  picks x s below =
      if_picks Step (is_source m f x) (Some e) _ (λ is. itself (record { expression = x; is_there = s; source = is }))
      (λ none. led x s none below)

module _ (m : Module) (infos : List FunctionInfo) (f : Function) (all : List Fact)
    (is : all ≡ facts_after m infos f [] (enumerate_from 0 f.expressions)) where
  pub facts_long : length all ≡ length f.expressions
  facts_long = ap length is ∙ facts_after_long m infos f f.expressions

  pub origins_long : length (map nu all) ≡ length f.expressions
  origins_long = length-map all nu ∙ facts_long

  pub step_origins : PointsBackwards f → (e : ℕ) (o : Option ℕ) → slice_get (map nu all) e ≡ Some o →
      IsWitness (StepOrigin m (infos_of infos) f e) o
  step_origins below = operands_give_origins m (infos_of infos) f (map nu all) origins_long below each where
    at : (e : ℕ) (r : Option ℕ) (x : Expression) → IsExpressionAt f e x → slice_get (map nu all) e ≡ Some r →
        IsWitness (StepOperand m (infos_of infos) f (map nu all) e) r
    at e r x s g =
        let b = is_there_between m infos f f.expressions e x s in
        let one = entry m infos f b.prior e x in
        let split = is ∙ b.is in
        let stood : slice_get all e ≡ Some one = ap (λ v. slice_get v e) split ∙ get_seam b.prior one b.later e b.long in
        let own : Some r ≡ Some (own_origin m infos f b.prior e x) = sym g ∙ (slice_get-map nu all e ∙ ap (option_map nu) stood) in
        let value : own_origin m infos f b.prior e x ≡ r = cc in
        let same = λ (o : ℕ) (lt : o < e). slice_get-map nu all o ∙ ap (option_map nu) (ap (λ v. slice_get v o) split ∙
        get_left b.prior (one ∷ b.later) o (omega (arith, b.long))) in
        let P : Option ℕ → Type 0 = λ v. IsWitness (StepOperand m (infos_of infos) f (map nu all) e) v in
        subst P value (picks m infos f e (map nu all) b.prior same x s (λ o c. below e x o s c))

    each : (e : ℕ) (r : Option ℕ) → slice_get (map nu all) e ≡ Some r → IsWitness (StepOperand m (infos_of infos) f (map nu all) e) r
    each e r g =
        let lt : e < length f.expressions = omega (arith, origins_long, slice_get_within (map nu all) e r g) in
        at e r (get_or f.expressions e form.RayQueryProceedResult) (slice_get-get_or f.expressions e form.RayQueryProceedResult lt) g
