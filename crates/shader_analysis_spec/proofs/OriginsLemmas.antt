-- The step equations of origins give the interprocedural origins.
use Rattle.std.proofs.Common.{◌≡◌, refl, ℕ, List, Option, Some, None, sym, ◌∙◌, subst, ap}
use Rattle.std.proofs.lemmas.Option.{same_Some}
use Rattle.shader_analysis_spec.specs.Program.{Function, Module}
use Rattle.shader_analysis_spec.specs.Calls.{here, via, CallsTo}
use Rattle.shader_analysis_spec.specs.Infos.{Info, EachNamed, IsWitness, by_result}
use Rattle.shader_analysis_spec.specs.Origins.{Origin, source, result, ResultOrigin, of_value}
use Rattle.shader_analysis_spec.specs.Steps.{StepOrigin, StepResult, own, callee}
use Rattle.shader_analysis_spec.proofs.Order.{info_of_call, call_of_info}

-- o stays right if each member of P is one of Q, and Q has members only if P has
pub IsWitness-same : (P Q : ℕ → Type 0) (o : Option ℕ) → ((h : ℕ) → P h → Q h) → ((h : ℕ) → Q h → (k : ℕ) × P k) → IsWitness P o →
    IsWitness Q o
IsWitness-same P Q (Some h) to from p = to h p
IsWitness-same P Q None to from none = λ h q. let (k, p) = from h q in none k p

-- if P has a member, one is picked
pub IsWitness-some : (P : ℕ → Type 0) (o : Option ℕ) (h : ℕ) → P h → IsWitness P o → (k : ℕ) × (o ≡ Some k)
IsWitness-some P (Some k) h p picks = (k, refl)
IsWitness-some P None h p none = absurd (none h p)

IsWitness-of : (P : ℕ → Type 0) (o : Option ℕ) (h : ℕ) → o ≡ Some h → IsWitness P o → P h
IsWitness-of P o h e picks = subst (IsWitness P) e picks

abbrev pub ResultFrom : Module → Function → ℕ → Type 0
ResultFrom m f h = (r : Function) × ResultOrigin m f r h

-- the info records an origin of the function's result
abbrev pub HasResult : Module → Function → Info → Type 0
HasResult m f info = IsWitness (ResultFrom m f) info.non_uniform_result

module _ (m : Module) (infos : List Info) (f : Function) (named : EachNamed (HasResult m) m infos f) where
  pub of_step : (e h : ℕ) → StepOrigin m infos f e h → (r : Function) × Origin m f e r h
  of_step e h (own leads is) = (f, source leads is)
  of_step e h (callee {k = k} {c = c} {info = info} leads is_there stored is) =
      let (d, info', is_d, is_info, has) = named c (by_result k is_there) in
      let same : info ≡ info' = same_Some info info' (sym stored ∙ is_info) in
      let (r, from) = IsWitness-of (ResultFrom m d) info'.non_uniform_result h (sym (ap (λ i. i.non_uniform_result) same) ∙ is) has in
      (r, result leads is_there is_d from)

  pub to_step : (e h : ℕ) (r : Function) → Origin m f e r h → (k : ℕ) × StepOrigin m infos f e k
  to_step e h r (source leads is) = (h, own leads is)
  to_step e h r (result {k = k} {c = c} {d = d} leads is_there is_d from) =
      let (d', info, is_d', is_info, has) = named c (by_result k is_there) in
      let same : d ≡ d' = same_Some d d' (sym is_d ∙ is_d') in
      let (h', is) = IsWitness-some (ResultFrom m d') info.non_uniform_result h (r, subst (λ x. ResultOrigin m x r h) same from) has in
      (h', callee leads is_there is_info is)

  of_step_result : (h : ℕ) → StepResult m infos f h → ResultFrom m f h
  of_step_result h (own {e = e} gives step) = let (r, origin) = of_step e h step in (r, of_value here gives origin)
  of_step_result h (callee {info = info} stored is) =
      let (d, call, _, has) = call_of_info (HasResult m) m infos f named stored in
      let (r, from) = IsWitness-of (ResultFrom m d) info.non_uniform_result h is has in
      (r, further d call r from)
    where
      further : (d : Function) → CallsTo m f d → (r : Function) → ResultOrigin m d r h → ResultOrigin m f r h
      further d call r (of_value path gives origin) = of_value (via call path) gives origin

  to_step_result : (h : ℕ) (r : Function) → ResultOrigin m f r h → (k : ℕ) × StepResult m infos f k
  to_step_result h r (of_value {e = e} here gives origin) = let (k, step) = to_step e h r origin in (k, own gives step)
  to_step_result h r (of_value (via {c = d} call path) gives origin) =
      let (info, stored, has) = info_of_call (HasResult m) m infos f named d call in
      let (k, is) = IsWitness-some (ResultFrom m d) info.non_uniform_result h (r, of_value path gives origin) has in
      (k, callee stored is)

  pub exact_origin : (e : ℕ) (o : Option ℕ) → IsWitness (StepOrigin m infos f e) o → IsWitness (λ h. (r : Function) × Origin m f e r h) o
  exact_origin e o =
      IsWitness-same (StepOrigin m infos f e) (λ h. (r : Function) × Origin m f e r h) o (of_step e) (λ h q. to_step e h q.0 q.1)

  pub exact_result : (info : Info) → IsWitness (StepResult m infos f) info.non_uniform_result → HasResult m f info
  exact_result info = IsWitness-same (StepResult m infos f) (ResultFrom m f) info.non_uniform_result of_step_result
      (λ h q. to_step_result h q.0 q.1)
