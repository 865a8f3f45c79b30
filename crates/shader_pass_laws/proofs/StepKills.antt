-- The kills that the pass over the blocks detects meet their step equation.
use Rattle.std.proofs.Common.{◌≡◌, refl, sym, ap, subst, ◌∙◌, ℕ, inl, inr, ◌↔◌, List, [], ◌∷◌, Bool, true}
use Rattle.std.proofs.Common.{false, ◌||◌, IsTrue, Option, Some, None, map, slice_get, unwrap_or, is_some}
use Rattle.std.specs.List.{Contains, list_any}
use Rattle.std.specs.Option.{option_map}
use Rattle.std.proofs.lemmas.Bool.{or_cases}
use Rattle.std.proofs.lemmas.Option.{slice_get-map}
use Rattle.shader_analysis_spec.specs.Program.{Function, Step, Leaf, Kill, Call, Body, Then, statements}
use Rattle.shader_analysis_spec.specs.Flow.{At, Disrupted}
use Rattle.shader_analysis_spec.proofs.Flags.{found}
use Rattle.shader_analysis_spec.specs.Infos.{Info}
use Rattle.shader_analysis_spec.specs.Steps.{CalleeInfo, StepKill, RecordsVaried, RecordsKills}
use Rattle.shader_analysis_spec.specs.Steps as step
use Rattle.shader_analysis_spec.proofs.FindLemmas.{flags_find_statements}
use Rattle.shader_analysis_spec.proofs.FlowLemmas.{more_disrupted}
use Rattle.shader_passes.specs.Facts.{Fact}
use Rattle.shader_info.specs.declared.info.FunctionInfo.{FunctionInfo}
use Rattle.shader_passes.specs.Ends.{is_killing}
use Rattle.shader_pass_laws.proofs.FlowWords.{calls_kill, is_kill, varies}
use Rattle.shader_passes.specs.InfoOf.{info_of, infos_of}
use Rattle.shader_passes.proofs.StepOrigins.{nu}
use Rattle.shader_analysis_spec.proofs.ListLemmas.{nowhere, here, there, cases}
use Rattle.shader_passes.proofs.StoredInfoLemmas.{stored_of, of_stored}

or_left : (a b : Bool) → IsTrue a → IsTrue (a || b)
or_left true b h = refl
or_left false b h = absurd (cc)

or_right : (a b : Bool) → IsTrue b → IsTrue (a || b)
or_right true b h = refl
or_right false b h = h

pub any_to : {X : Type 0} (p : X → Bool) (xs : List X) → IsTrue (list_any p xs) → (x : X) × Contains xs x × IsTrue (p x)
any_to p [] h = absurd (cc)
any_to p (x ∷ xs) h = elim (or_cases (p x) (list_any p xs) h) [
  | inl one ↦ (x, here x xs, one)
  | inr rest ↦ let r = any_to p xs rest in (r.0, there x xs r.0 r.1, r.2)
]

pub of_any : {X : Type 0} (p : X → Bool) (xs : List X) (x : X) → Contains xs x → IsTrue (p x) → IsTrue (list_any p xs)
of_any p [] x h k = absurd (nowhere x h)
of_any {X} p (z ∷ zs) x h k = elim (cases z zs x h) [
  | inl e ↦ let P : X → Type 0 = λ v. IsTrue (p v) in or_left (p z) (list_any p zs) (subst P (sym e) k)
  | inr rest ↦ or_right (p z) (list_any p zs) (of_any p zs x rest k)
]

-- an expression that varies has a recorded origin
pub varied_to : (infos : List Fact) (e : ℕ) → IsTrue (varies infos e) → (h : ℕ) × (slice_get (map nu infos) e ≡ Some (Some h))
varied_to infos e h = at (slice_get infos e) h refl where
  some : (i : Fact) (o : Option ℕ) → IsTrue (is_some o) → i.origin ≡ o → slice_get infos e ≡ Some i →
      (h : ℕ) × (slice_get (map nu infos) e ≡ Some (Some h))
  some i None t k g = absurd (cc)
  some i (Some h) t k g = (h, slice_get-map nu infos e ∙ (ap (option_map nu) g ∙ ap (λ (v : Option ℕ). Some v) k))

  at : (o : Option Fact) → IsTrue (unwrap_or (option_map (λ i. is_some i.origin) o) false) → slice_get infos e ≡ o →
      (h : ℕ) × (slice_get (map nu infos) e ≡ Some (Some h))
  at None t k = absurd (cc)
  at (Some i) t k = some i i.origin t refl k

pub of_varied : (infos : List Fact) (e h : ℕ) → slice_get (map nu infos) e ≡ Some (Some h) → IsTrue (varies infos e)
of_varied infos e h g = at (slice_get infos e) (sym (slice_get-map nu infos e) ∙ g) refl where
  at : (o : Option Fact) → option_map nu o ≡ Some (Some h) → slice_get infos e ≡ o → IsTrue (varies infos e)
  at None t k = absurd (cc)
  at (Some i) t k =
      let n : i.origin ≡ Some h = cc in
      let P : Option Fact → Type 0 = λ v. IsTrue (unwrap_or (option_map (λ i. is_some i.origin) v) false) in
      subst P (sym k) (ap is_some n)

-- a function that kills has an info that records it
pub killing_to : (infos : List FunctionInfo) (c : ℕ) → IsTrue (is_killing infos c) → RecordsKills (infos_of infos) c
killing_to infos c h = at (slice_get infos c) h refl where
  at : (o : Option FunctionInfo) → IsTrue (unwrap_or (option_map (λ i. i.may_kill) o) false) → slice_get infos c ≡ o →
      RecordsKills (infos_of infos) c
  at None t k = absurd (cc)
  at (Some i) t k = (info_of i, stored_of infos c i k, t)

pub of_killing : (infos : List FunctionInfo) (c : ℕ) → RecordsKills (infos_of infos) c → IsTrue (is_killing infos c)
of_killing infos c h =
    let at = of_stored infos c h.0 h.1 in
    let P : Option FunctionInfo → Type 0 = λ v. IsTrue (unwrap_or (option_map (λ i. i.may_kill) v) false) in
    let Q : Info → Type 0 = λ v. IsTrue v.may_kill in
    subst P (sym at.1) (subst Q (sym at.2) h.2)

is_kill_to : (s : Step) → IsTrue (is_kill s) → s ≡ Leaf Kill
is_kill_to (Leaf Kill) h = refl
is_kill_to s h = absurd (cc)

module _ (infos : List FunctionInfo) (f : Function) (infos_here : List Fact) (info : Info)
    (same : map nu infos_here ≡ info.non_uniform) where
  abbrev V : ℕ → Bool
  V = varies infos_here

  abbrev K : ℕ → Bool
  K = is_killing infos

  own_to : (s : Step) (b : Body) (p : At f.body (Then s b)) → s ≡ Leaf Kill → Disrupted (λ e. IsTrue (V e)) (λ c. IsTrue (K c)) f.body _ p →
      StepKill (infos_of infos) f info
  own_to (Leaf Kill) b p e d = step.StepKill.own p (more_disrupted _ _ _ _ f.body (λ e t. let r = varied_to infos_here e t in
      let P : List (Option ℕ) → Type 0 = λ v. slice_get v e ≡ Some (Some r.0) in
      (r.0, subst P same r.1)) (λ c _ _ _ _ t. killing_to infos c t) _ p d)
  own_to s b p e d = absurd (cc)

  call_to : (s : Step) → Contains (statements f.body) s → IsTrue (calls_kill K s) → StepKill (infos_of infos) f info
  call_to (Leaf (Call c arguments result)) h t =
      let k = killing_to infos c t in
      step.StepKill.callee (record { callee = c; result = result; holds = h; stored = k.1 }) k.2
  call_to s h t = absurd (cc)

  kill_to : IsTrue (found V K is_kill false f.body || list_any (calls_kill K) (statements f.body)) → StepKill (infos_of infos) f info
  kill_to h = elim (or_cases (found V K is_kill false f.body) (list_any (calls_kill K) (statements f.body)) h) [
    | inl own ↦ let at = (flags_find_statements V K is_kill f.body).0 own in own_to at.0 at.1 at.2 (is_kill_to at.0 at.3) at.4
    | inr call ↦ let at = any_to (calls_kill K) (statements f.body) call in call_to at.0 at.1 at.2
  ]

  kill_from : StepKill (infos_of infos) f info → IsTrue (found V K is_kill false f.body
      || list_any (calls_kill K) (statements f.body))
  kill_from (step.StepKill.own {b = b} p d) =
      or_left (found V K is_kill false f.body) (list_any (calls_kill K) (statements f.body))
      ((flags_find_statements V K is_kill f.body).1 (
        Leaf Kill,
        b,
        p,
        refl,
        more_disrupted _ _ _ _ f.body (λ e t. let P : List (Option ℕ) → Type 0 = λ v. slice_get v e ≡ Some (Some t.0) in
            of_varied infos_here e t.0 (subst P (sym same) t.1)) (λ c _ _ _ _ t. of_killing infos c t) _ p d,
      ))
  kill_from (step.StepKill.callee {arguments = arguments} {i = i} call t) =
      or_right (found V K is_kill false f.body) (list_any (calls_kill K) (statements f.body))
      (of_any (calls_kill K) (statements f.body) (Leaf (Call call.callee arguments call.result)) call.holds
      (of_killing infos call.callee (i, call.stored, t)))

  pub step_kills : (all : List Step) (own called : Bool) → all ≡ statements f.body → own ≡ (false || found V K is_kill false f.body) →
      called ≡ list_any (calls_kill K) all → IsTrue (own || called) ↔ StepKill (infos_of infos) f info
  step_kills all own called e a b =
      let here : called ≡ list_any (calls_kill K) (statements f.body) = b ∙ ap (list_any (calls_kill K)) e in
      let whole : (own || called) ≡ (found V K is_kill false f.body || list_any (calls_kill K) (statements f.body)) = cc in
      (λ h. kill_to (sym whole ∙ h), λ h. whole ∙ kill_from h)
