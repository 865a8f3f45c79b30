-- The collected pairs meet their step equation.
use Rattle.std.proofs.Common.{◌≡◌, refl, sym, ap, subst, ◌∙◌, ℕ, inl, inr, ◌↔◌, List, [], ◌++◌, Option, Some, None, slice_get, unwrap_or}
use Rattle.std.specs.List.{Contains, flat_map}
use Rattle.std.specs.Option.{option_map, option_and_then}
use Rattle.std.proofs.lemmas.Option.{slice_get_within, get_or_from_slice_get, slice_get-get_or}
use Rattle.std.proofs.lemmas.List.Elements.{Contains-append_left, Contains-append_right, Contains-append_cases}
use Rattle.shader_analysis_spec.specs.Infos.{Resource, Info}
use Rattle.shader_analysis_spec.specs.Pairs.{resource, in_caller, sampled_operands}
use Rattle.shader_analysis_spec.specs.Program.{Function, Step, Leaf, Call, Expression, IsExpressionAt, statements}
use Rattle.shader_analysis_spec.specs.Steps.{StepPair}
use Rattle.shader_analysis_spec.specs.Steps as step
use Rattle.shader_info.specs.declared.info.FunctionInfo.{FunctionInfo}
use Rattle.shader_passes.specs.InfoOf.{infos_of}
use Rattle.shader_passes.specs.RecordedPairs.{SameMembers, pair_of, resource_pair, pair_in_caller, pairs_in_caller, callee_pairs}
use Rattle.shader_passes.specs.RecordedPairs.{sampled_resources, info_pairs}
use Rattle.shader_passes.proofs.StoredInfoLemmas.{stored_of, of_stored}
use Rattle.shader_analysis_spec.proofs.ListLemmas.{nowhere, here, cases, in_flat, of_flat}

-- the item at a position is a member, and a member has a position
pub member_of : {X : Type 0} (xs : List X) (k : ℕ) (x : X) → slice_get xs k ≡ Some x → Contains xs x
member_of xs k x e = (k, slice_get_within xs k x e, get_or_from_slice_get xs k x x e)

pub position_of : {X : Type 0} (xs : List X) (x : X) → Contains xs x → (k : ℕ) × (slice_get xs k ≡ Some x)
position_of {X} xs x h = (h.0, slice_get-get_or xs h.0 x h.1 ∙ ap (λ (v : X). Some v) h.2)

both : (a b : Option Resource) (image sampler : Resource) → Contains (pair_of a b) (image, sampler) → (a ≡ Some image) × (b ≡ Some sampler)
both (Some p) (Some q) image sampler h = elim (cases (p, q) [] (image, sampler) h) [
  | inl e ↦ (ap (λ v. Some v.0) e, ap (λ v. Some v.1) e)
  | inr none ↦ absurd (nowhere (image, sampler) none)
]
both (Some p) None image sampler h = absurd (nowhere (image, sampler) h)
both None b image sampler h = absurd (nowhere (image, sampler) h)

of_both : (a b : Option Resource) (image sampler : Resource) → a ≡ Some image → b ≡ Some sampler → Contains (pair_of a b) (image, sampler)
of_both a b image sampler e d =
    let P : Option Resource → Type 0 = λ v. Contains (pair_of v b) (image, sampler) in
    let Q : Option Resource → Type 0 = λ v. Contains (pair_of (Some image) v) (image, sampler) in
    subst P (sym e) (subst Q (sym d) (here (image, sampler) []))

module _ (infos : List FunctionInfo) (f : Function) (image sampler : Resource) where
  resource_to : (e : ℕ) (x : Expression) → IsExpressionAt f e x → (o : Option (ℕ × ℕ)) → sampled_operands x ≡ o →
      Contains (resource_pair f o) (image, sampler) →
      StepPair (infos_of infos) f image sampler
  resource_to e x s None is k = absurd (nowhere (image, sampler) k)
  resource_to e x s (Some operands) is k =
      let two = both (resource f operands.0) (resource f operands.1) image sampler k in
      step.StepPair.own e (ap (option_and_then sampled_operands) s ∙ is) two.0 two.1

  sampled_to : (x : Expression) → Contains f.expressions x → Contains (sampled_resources f x) (image, sampler) →
      StepPair (infos_of infos) f image sampler
  sampled_to x h k = let at = position_of f.expressions x h in resource_to at.0 x at.1 (sampled_operands x) refl k

  info_to : (c : ℕ) (arguments : List ℕ) (result : Option ℕ) (o : Option FunctionInfo) →
      Contains (statements f.body) (Leaf (Call c arguments result)) → slice_get infos c ≡ o →
      Contains (pairs_in_caller f arguments (unwrap_or (option_map info_pairs o) [])) (image, sampler) →
      StepPair (infos_of infos) f image sampler
  info_to c arguments result None h e k = absurd (nowhere (image, sampler) k)
  info_to c arguments result (Some info) h e k =
      let at = in_flat (pair_in_caller f arguments) (info_pairs info) (image, sampler) k in
      let d = both (in_caller f arguments at.0.0) (in_caller f arguments at.0.1) image sampler at.2 in
      step.StepPair.callee (record { callee = c; result = result; holds = h; stored = stored_of infos c info e }) at.1 d.0 d.1

  called_to : (s : Step) → Contains (statements f.body) s → Contains (callee_pairs infos f s) (image, sampler) →
      StepPair (infos_of infos) f image sampler
  called_to (Leaf (Call c arguments result)) h k = info_to c arguments result (slice_get infos c) h refl k
  called_to s h k = absurd (nowhere (image, sampler) k)

  abbrev collected : List (Resource × Resource)
  collected = flat_map (callee_pairs infos f) (statements f.body) ++ (flat_map (sampled_resources f) f.expressions ++ [])

  collected_to : Contains collected (image, sampler) → StepPair (infos_of infos) f image sampler
  collected_to h = elim (Contains-append_cases (flat_map (callee_pairs infos f) (statements f.body))
      (flat_map (sampled_resources f) f.expressions ++ []) (image, sampler) h) [
        | inl by_call ↦ let at = in_flat (callee_pairs infos f) (statements f.body) (image, sampler) by_call in called_to at.0 at.1 at.2
        | inr own ↦ elim (Contains-append_cases (flat_map (sampled_resources f) f.expressions) [] (image, sampler) own) [
          | inl one ↦ let at = in_flat (sampled_resources f) f.expressions (image, sampler) one in sampled_to at.0 at.1 at.2
          | inr none ↦ absurd (nowhere (image, sampler) none)
        ]
      ]

  own_from : (e i s : ℕ) (o : Option Expression) → slice_get f.expressions e ≡ o → option_and_then sampled_operands o ≡ Some (i, s) →
      resource f i ≡ Some image → resource f s ≡ Some sampler →
      Contains (flat_map (sampled_resources f) f.expressions) (image, sampler)
  own_from e i s None is reported a b = absurd (cc)
  own_from e i s (Some x) is reported a b =
      let P : Option (ℕ × ℕ) → Type 0 = λ v. Contains (resource_pair f v) (image, sampler) in
      of_flat (sampled_resources f) f.expressions x (image, sampler) (member_of f.expressions e x is)
      (subst P (sym reported) (of_both (resource f i) (resource f s) image sampler a b))

  collected_from : StepPair (infos_of infos) f image sampler → Contains collected (image, sampler)
  collected_from (step.StepPair.own e {i = i} {s = s} reported a b) =
      Contains-append_right (flat_map (callee_pairs infos f) (statements f.body)) (flat_map (sampled_resources f) f.expressions
      ++ []) (image, sampler)
      (Contains-append_left (flat_map (sampled_resources f) f.expressions) [] (image, sampler)
      (own_from e i s (slice_get f.expressions e) refl reported a b))
  collected_from (step.StepPair.callee {arguments = arguments} {info = i} {p = p} {q = q} call h a b) =
      let at = of_stored infos call.callee i call.stored in
      let P : Info → Type 0 = λ v. Contains v.pairs (p, q) in
      let Q : Option FunctionInfo → Type 0 = λ v. Contains (pairs_in_caller f arguments (unwrap_or (option_map info_pairs v) []))
      (image, sampler) in
      Contains-append_left (flat_map (callee_pairs infos f) (statements f.body)) (flat_map (sampled_resources f) f.expressions
      ++ []) (image, sampler)
      (of_flat (callee_pairs infos f) (statements f.body) (Leaf (Call call.callee arguments call.result)) (image, sampler) call.holds
      (subst Q (sym at.1) (of_flat (pair_in_caller f arguments) (info_pairs at.0) (p, q) (image, sampler) (subst P (sym at.2) h)
      (of_both (in_caller f arguments p) (in_caller f arguments q) image sampler a b))))

  pub step_pairs : (ps : List (Resource × Resource)) (all : List Step) → all ≡ statements f.body →
      SameMembers ps (flat_map (callee_pairs infos f) all ++ (flat_map (sampled_resources f) f.expressions ++ [])) →
      Contains ps (image, sampler) ↔ StepPair (infos_of infos) f image sampler
  step_pairs ps all e same =
      let P : List Step → Type 0 =
      λ v. SameMembers ps (flat_map (callee_pairs infos f) v ++ (flat_map (sampled_resources f) f.expressions ++ [])) in
      let known = subst P e same in
      (λ h. collected_to (known.to (image, sampler) h), λ h. known.from (image, sampler) (collected_from h))
