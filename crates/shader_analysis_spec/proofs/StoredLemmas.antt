-- Composition of the step over the infos stored so far.
use Rattle.std.proofs.Common.{◌≡◌, refl, sym, ◌∙◌, ap, subst, ℕ, zero, suc, ◌<◌, List, [], ◌∷◌}
use Rattle.std.proofs.Common.{◌++◌, Option, Some, None, length, get_or, ◌⊎◌, inl, inr, arith}
use Rattle.std.specs.List.{Contains, slice_get}
use Rattle.std.proofs.lemmas.Option.{slice_get_within, slice_get-get_or, same_Some}
use Rattle.shader_analysis_spec.specs.Program.{Function, Module, Expression, Label, expression_operands, IsExpressionAt}
use Rattle.shader_analysis_spec.specs.Infos.{Info, IsWitness, HasCallee, EachNamed, Pairwise}
use Rattle.shader_analysis_spec.specs.Origins.{DependsOn, itself, through}
use Rattle.shader_analysis_spec.specs.Steps.{StepOrigin}
use Rattle.shader_analysis_spec.specs.Steps
use Rattle.shader_analysis_spec.specs.Exact.{IsExact}
use Rattle.shader_analysis_spec.specs.Stored
use Rattle.shader_analysis_spec.specs.Stored.{NextIsExact, EntryIsExact, StepOperand, OperandsGiveOrigins}
use Rattle.shader_analysis_spec.proofs.Summaries.{step_is_exact}
use Rattle.shader_analysis_spec.proofs.OriginsLemmas.{IsWitness-same, IsWitness-some}

-- an element of a list with one more element is one of the list's or the last
get_last : {A : Type 0} (xs : List A) (y : A) (i : ℕ) (x : A) → slice_get (xs ++ y ∷ []) i ≡ Some x →
    (slice_get xs i ≡ Some x) ⊎ ((i ≡ length xs) × (y ≡ x))
get_last [] y zero x e = inr (refl, same_Some y x e)
get_last [] y (suc i) x e = absurd (cc)
get_last (z ∷ xs) y zero x e = inl e
get_last (z ∷ xs) y (suc i) x e = elim (get_last xs y i x e) [ inl h ↦ inl h | inr h ↦ inr (ap suc h.0, h.1) ]

pub named_within : (m : Module) (stored : List Info) (f : Function) →
    ((c : ℕ) → HasCallee f c → (c < length stored) × (c < length m.functions)) →
    Pairwise (IsExact m) m stored → EachNamed (IsExact m) m stored f
named_within m stored f within exact c mention =
    let (a, b) = within c mention in
    nonempty m.functions b (λ r is_r. nonempty stored a (λ i is_i. (r, i, is_r, is_i, exact c r i is_r is_i)))
  where
    nonempty : {A P : Type 0} (xs : List A) → c < length xs → ((x : A) → slice_get xs c ≡ Some x → P) → P
    nonempty [] lt k = absurd (omega arith)
    nonempty (x ∷ xs) lt k = k (get_or (x ∷ xs) c x) (slice_get-get_or (x ∷ xs) c x lt)

pub next_is_exact : NextIsExact
next_is_exact m stored f info ordered is_f exact steps i g j is_g is_j =
    elim (get_last stored info i j is_j) [
      | inl h ↦ exact i g j is_g h
      | inr h ↦
          let same_f : f ≡ g = same_Some f g (sym is_f ∙ (ap (slice_get m.functions) (sym h.0) ∙ is_g)) in
          let within = slice_get_within m.functions (length stored) f is_f in
          let named = named_within m stored f (λ c mention. let lt = ordered (length stored) f is_f c mention in (lt, omega arith)) exact in
          let done : IsExact m f info = step_is_exact m stored f info named steps in
          subst (λ x. IsExact m x j) same_f (subst (IsExact m f) h.1 done)
    ]

pub entry_is_exact : EntryIsExact
entry_is_exact m stored f info same within exact steps =
    step_is_exact m stored f info (named_within m stored f (λ c mention. let lt = within c mention in (omega arith, lt)) exact) steps

module _ (m : Module) (infos : List Info) (f : Function) (recorded : List (Option ℕ)) (complete : length recorded ≡ length f.expressions)
    (earlier : (e : ℕ) (x : Expression) (o : ℕ × Label) → IsExpressionAt f e x → Contains (expression_operands x) o → o.0 < e)
    (step : (e : ℕ) (r : Option ℕ) → slice_get recorded e ≡ Some r → IsWitness (StepOperand m infos f recorded e) r) where
  abbrev Good : ℕ → Type 0
  Good e = (r : Option ℕ) → slice_get recorded e ≡ Some r → IsWitness (StepOrigin m infos f e) r

  longer : (e o h : ℕ) (x : Expression) (c : ℕ × Label) → IsExpressionAt f e x → Contains (expression_operands x) c → c.0 ≡ o →
      StepOrigin m infos f o h → StepOrigin m infos f e h
  longer e o h x c s k is (Steps.own leads source) = Steps.own (through s k (subst (λ i. DependsOn f i h) (sym is) leads)) source
  longer e o h x c s k is (Steps.callee {k = u} leads is_there stored res) =
      Steps.callee (through s k (subst (λ i. DependsOn f i u) (sym is) leads)) is_there stored res

  module _ (e : ℕ) (below : (o : ℕ) → o < e → Good o) where
    to_origin : (h : ℕ) → StepOperand m infos f recorded e h → StepOrigin m infos f e h
    to_origin _ (Stored.itself source) = Steps.own itself source
    to_origin h (Stored.operand {x = x} {o = o} s k is) = longer e o.0 h x o s k refl (below o.0 (earlier e x o s k) (Some h) is)
    to_origin h (Stored.callee s stored res) = Steps.callee itself s stored res

    -- an operand that leads to an origin has a recorded one
    operand_has : (h : ℕ) (x : Expression) (o : ℕ × Label) → IsExpressionAt f e x → Contains (expression_operands x) o →
        StepOrigin m infos f o.0 h →
        (k : ℕ) × StepOperand m infos f recorded e k
    operand_has h x o s k origin =
        let lt = earlier e x o s k in
        let within = slice_get_within f.expressions e x s in
        let is = slice_get-get_or recorded o.0 None (omega arith) in
        let (j, some) = IsWitness-some (StepOrigin m infos f o.0) (get_or recorded o.0 None) h origin (below o.0 lt _ is) in
        (j, Stored.operand s k (is ∙ ap Some some))

    of_origin : (h : ℕ) → StepOrigin m infos f e h → (k : ℕ) × StepOperand m infos f recorded e k
    of_origin h (Steps.own itself source) = (e, Stored.itself source)
    of_origin h (Steps.own (through {x = x} {o = o} s k leads) source) = operand_has h x o s k (Steps.own leads source)
    of_origin h (Steps.callee itself is_there stored res) = (h, Stored.callee is_there stored res)
    of_origin h (Steps.callee (through {x = x} {o = o} s k leads) is_there stored res) =
        operand_has h x o s k (Steps.callee leads is_there stored res)

    good : Good e
    good r is = IsWitness-same (StepOperand m infos f recorded e) (StepOrigin m infos f e) r to_origin of_origin (step e r is)

  all_good : (n e : ℕ) → e < n → Good e
  all_good zero e lt = absurd (omega arith)
  all_good (suc n) e lt = good e (λ o o_lt. all_good n o (omega arith))

pub operands_give_origins : OperandsGiveOrigins
operands_give_origins m infos f recorded complete earlier step e r is =
    all_good m infos f recorded complete earlier step (suc e) e (omega arith) r is
