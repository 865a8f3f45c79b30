-- The expressions for which the pass finds no resource.
use Rattle.std.proofs.Common.{◌≡◌, refl, sym, ap, subst, ◌∙◌, ℕ, ◌⊎◌, inl, inr, List, [], Option, Some, None, fold, slice_get, unwrap_or}
use Rattle.std.specs.Option.{option_and_then, option_map}
use Rattle.std.specs.List.{Contains, enumerate_from}
use Rattle.shader_analysis_spec.specs.Faults.{Cause, NoResource, Settings, untyped, no_capability, bad_element}
use Rattle.shader_analysis_spec.specs.StepFaults.{StepFault}
use Rattle.shader_analysis_spec.specs.Faults.{no_image_resource}
use Rattle.shader_analysis_spec.specs.Faults.{no_sampler_resource, no_image_passed, no_sampler_passed, flow_violation, count_full}
use Rattle.shader_analysis_spec.specs.Infos.{Info, Resource, InGlobal, InArgument, IsWitness}
use Rattle.shader_analysis_spec.specs.Pairs.{resource, in_caller, sampled_operands, samples}
use Rattle.shader_analysis_spec.specs.Program.{Function, Module, Expression, Step, Leaf, Call, IsExpressionAt, statements}
use Rattle.shader_analysis_spec.proofs.RetainedLemmas.{or_picks, preserves_all, retained, retained_after, picked, none_picked, is_there_at}
use Rattle.shader_analysis_spec.proofs.RetainedLemmas.{at_occurs}
use Rattle.shader_analysis_spec.proofs.ListLemmas.{nowhere}
use Rattle.shader_analysis_spec.proofs.OriginsLemmas.{IsWitness-same}
use Rattle.shader_info.specs.declared.info.FunctionInfo.{FunctionInfo}
use Rattle.shader_passes.specs.InfoOf.{info_of, infos_of}
use Rattle.shader_passes.specs.MissingResource.{missed_of, passed_for, operands_missed, sample_missed, pair_missed, call_missed}
use Rattle.shader_passes.specs.RecordedPairs.{recorded_pairs, info_pairs}
use Rattle.shader_passes.proofs.StoredInfoLemmas.{stored_of, of_stored}
use Rattle.shader_pass_laws.specs.Refused.{MissingResourcesAreFaults, computed_missing}

-- the resource of an expression is sought, and there is none
abbrev Sought : Option Resource → ℕ → ℕ → Type 0
Sought o e h = (h ≡ e) × (o ≡ None)

sought : (o : Option Resource) (e : ℕ) → IsWitness (Sought o e) (missed_of o (Some e))
sought (Some p) e = λ h t. let never = t.1 in absurd (cc)
sought None e = (refl, refl)

module _ (f : Function) where
  -- the image or the sampler of an expression is no resource
  abbrev OperandsLack : ℕ → Option (ℕ × ℕ) → ℕ → Type 0
  OperandsLack e (Some operands) h = Sought (resource f operands.0) e h ⊎ Sought (resource f operands.1) e h
  OperandsLack e None h = ⊥

  abbrev Lacks : ℕ × Expression → ℕ → Type 0
  Lacks item h = OperandsLack item.0 (sampled_operands item.1) h

  operands_picks : (e : ℕ) (o : Option (ℕ × ℕ)) → IsWitness (OperandsLack e o) (operands_missed f None e o)
  operands_picks e (Some operands) =
      or_picks (Sought (resource f operands.0) e) (Sought (resource f operands.1) e) (missed_of (resource f operands.0) (Some e))
      (missed_of (resource f operands.1) (Some e))
      (sought (resource f operands.0) e) (sought (resource f operands.1) e)
  operands_picks e None = λ h t. t

  operands_preserve : (e : ℕ) (o : Option (ℕ × ℕ)) (h : ℕ) → operands_missed f (Some h) e o ≡ Some h
  operands_preserve e (Some operands) h = refl
  operands_preserve e None h = refl

  sample_picks : (item : ℕ × Expression) → IsWitness (Lacks item) (sample_missed f None item)
  sample_picks item = operands_picks item.0 (sampled_operands item.1)

  sample_preserves : (item : ℕ × Expression) (h : ℕ) → sample_missed f (Some h) item ≡ Some h
  sample_preserves item h = operands_preserve item.0 (sampled_operands item.1) h

  module _ (arguments : List ℕ) where
    -- h is passed for a resource of the callee, and is no resource
    abbrev Passed : Resource → ℕ → Type 0
    Passed p h = (i : ℕ) × (p ≡ InArgument i) × (slice_get arguments i ≡ Some h) × (resource f h ≡ None)

    passed_picks : (p : Resource) → IsWitness (Passed p) (missed_of (in_caller f arguments p) (passed_for arguments p))
    passed_picks (InGlobal g) = λ h t. let never = t.1 in absurd (cc)
    passed_picks (InArgument i) = at (slice_get arguments i) refl where
      bound : (e : ℕ) (o : Option Resource) → slice_get arguments i ≡ Some e → resource f e ≡ o →
          IsWitness (Passed (InArgument i)) (missed_of o (Some e))
      bound e None a b = (i, refl, a, b)
      bound e (Some p) a b = λ h t.
          let number : i ≡ t.0 = let is = t.1 in cc in
          let P : ℕ → Type 0 = λ v. slice_get arguments v ≡ Some e in
          let same : e ≡ h = let one = subst P number a in let two = t.2 in cc in
          let none = t.3 in absurd (cc)

      at : (o : Option ℕ) → slice_get arguments i ≡ o → IsWitness (Passed (InArgument i)) (missed_of (option_and_then (resource f) o) o)
      at None a = λ h t.
          let number : i ≡ t.0 = let is = t.1 in cc in
          let P : ℕ → Type 0 = λ v. slice_get arguments v ≡ None in
          let one = subst P number a in let two = t.2 in absurd (cc)
      at (Some e) a = bound e (resource f e) a refl

    abbrev PairLacks : Resource × Resource → ℕ → Type 0
    PairLacks pair h = Passed pair.0 h ⊎ Passed pair.1 h

    pair_picks : (pair : Resource × Resource) → IsWitness (PairLacks pair) (pair_missed f arguments None pair)
    pair_picks pair = or_picks (Passed pair.0) (Passed pair.1) (missed_of (in_caller f arguments pair.0) (passed_for arguments pair.0))
        (missed_of (in_caller f arguments pair.1) (passed_for arguments pair.1)) (passed_picks pair.0) (passed_picks pair.1)

    pair_preserves : (pair : Resource × Resource) (h : ℕ) → pair_missed f arguments (Some h) pair ≡ Some h
    pair_preserves pair h = refl

  module _ (infos : List FunctionInfo) where
    abbrev CallLacks : Step → ℕ → Type 0
    CallLacks (Leaf (Call c arguments result)) h = (pair : Resource × Resource) × Contains (recorded_pairs infos c) pair ×
        PairLacks arguments pair h
    CallLacks s h = ⊥

    call_picks : (s : Step) → IsWitness (CallLacks s) (call_missed infos f None s)
    call_picks (Leaf (Call c arguments result)) =
        retained (pair_missed f arguments) (PairLacks arguments) (pair_preserves arguments) (pair_picks arguments) (recorded_pairs infos c)
    call_picks s = λ h t. t

    call_preserves : (s : Step) (h : ℕ) → call_missed infos f (Some h) s ≡ Some h
    call_preserves (Leaf (Call c arguments result)) h =
        preserves_all (pair_missed f arguments) (PairLacks arguments) (pair_preserves arguments) (pair_picks arguments) h
        (recorded_pairs infos c)
    call_preserves s h = refl

    abbrev OwnMissing : ℕ → Type 0
    OwnMissing h = (item : ℕ × Expression) × Contains (enumerate_from 0 f.expressions) item × Lacks item h

    abbrev Missing : ℕ → Type 0
    Missing h = OwnMissing h ⊎ ((s : Step) × Contains (statements f.body) s × CallLacks s h)

    missing_picks : IsWitness Missing (computed_missing infos f)
    missing_picks = retained_after (call_missed infos f) CallLacks call_preserves call_picks OwnMissing
        (fold (sample_missed f) None (enumerate_from 0 f.expressions))
        (retained (sample_missed f) Lacks sample_preserves sample_picks (enumerate_from 0 f.expressions)) (statements f.body)

    pairs_stored : (c : ℕ) (o : Option FunctionInfo) (pair : Resource × Resource) → slice_get infos c ≡ o →
        Contains (unwrap_or (option_map info_pairs o) []) pair →
        (i : Info) × (slice_get (infos_of infos) c ≡ Some i) × Contains i.pairs pair
    pairs_stored c None pair e h = absurd (nowhere pair h)
    pairs_stored c (Some info) pair e h = (info_of info, stored_of infos c info e, h)

    of_pairs_stored : (c : ℕ) (i : Info) (pair : Resource × Resource) → slice_get (infos_of infos) c ≡ Some i → Contains i.pairs pair →
        Contains (recorded_pairs infos c) pair
    of_pairs_stored c i pair e h =
        let at = of_stored infos c i e in
        let P : Info → Type 0 = λ v. Contains v.pairs pair in
        let Q : Option FunctionInfo → Type 0 = λ v. Contains (unwrap_or (option_map info_pairs v) []) pair in
        subst Q (sym at.1) (subst P (sym at.2) h)

    module _ (m : Module) (settings : Settings) where
      abbrev Fault : Cause → Type 0
      Fault cause = StepFault m (infos_of infos) f settings cause

      lacks_to : (e : ℕ) (x : Expression) (h : ℕ) → IsExpressionAt f e x → (o : Option (ℕ × ℕ)) → sampled_operands x ≡ o →
          OperandsLack e o h →
          Fault (NoResource h)
      lacks_to e x h is_there None is t = absurd t
      lacks_to e x h is_there (Some (image, sampler)) is t =
          let reported : samples f e ≡ Some (image, sampler) = ap (option_and_then sampled_operands) is_there ∙ is in
          let P : ℕ → Type 0 = λ v. samples f v ≡ Some (image, sampler) in
          elim t [
            | inl one ↦ no_image_resource (subst P (sym one.0) reported) one.1
            | inr other ↦ no_sampler_resource (subst P (sym other.0) reported) other.1
          ]

      call_to : (s : Step) (h : ℕ) → Contains (statements f.body) s → CallLacks s h → Fault (NoResource h)
      call_to (Leaf (Call c arguments result)) h k t =
          let stored = pairs_stored c (slice_get infos c) t.0 refl t.1 in
          elim t.2 [
            | inl one ↦
                let P : Resource → Type 0 = λ v. Contains stored.0.pairs (v, t.0.1) in
                no_image_passed {c = c} {i = one.0} {q = t.0.1} (record {
                  arguments = arguments;
                  result = result;
                  holds = k;
                  passed_argument =
                      one.2;
                }) one.3
                (stored.0, stored.1, subst P one.1 stored.2)
            | inr other ↦
                let P : Resource → Type 0 = λ v. Contains stored.0.pairs (t.0.0, v) in
                no_sampler_passed {c = c} {i = other.0} {p = t.0.0}
                (record { arguments = arguments; result = result; holds = k; passed_argument = other.2 }) other.3
                (stored.0, stored.1, subst P other.1 stored.2)
          ]
      call_to s h k t = absurd t

      missing_to : (h : ℕ) → Missing h → Fault (NoResource h)
      missing_to h (inl own) = lacks_to own.0.0 own.0.1 h (is_there_at f.expressions own.0 own.1) (sampled_operands own.0.1) refl own.2
      missing_to h (inr call) = call_to call.0 h call.1 call.2

      sample_occurs : (e : ℕ) (o : ℕ × ℕ) → samples f e ≡ Some o → (x : Expression) × IsExpressionAt f e x × (sampled_operands x ≡ Some o)
      sample_occurs e o reported = at (slice_get f.expressions e) refl reported where
        at : (v : Option Expression) → slice_get f.expressions e ≡ v → option_and_then sampled_operands v ≡ Some o →
            (x : Expression) × IsExpressionAt f e x × (sampled_operands x ≡ Some o)
        at None is t = absurd (cc)
        at (Some x) is t = (x, is, t)

      own_missing : (e : ℕ) (o : ℕ × ℕ) → samples f e ≡ Some o → OperandsLack e (Some o) e → Missing e
      own_missing e o reported t =
          let at = sample_occurs e o reported in
          let P : Option (ℕ × ℕ) → Type 0 = λ v. OperandsLack e v e in
          inl ((e, at.0), at_occurs f.expressions e at.0 at.1, subst P (sym at.2) t)

      -- the property that a fault of each cause implies
      abbrev Reported : Cause → Type 0
      Reported (NoResource h) = Missing h
      Reported _ = Unit {0}

      of_fault : (cause : Cause) → Fault cause → Reported cause
      of_fault _ (untyped refused) = tt
      of_fault _ (no_capability indexes element has lacks) = tt
      of_fault _ (bad_element indexes none) = tt
      of_fault _ (no_image_resource {e = e} {image = image} {sampler = sampler} reported none) =
          own_missing e (image, sampler) reported (inl (refl, none))
      of_fault _ (no_sampler_resource {e = e} {image = image} {sampler = sampler} reported none) =
          own_missing e (image, sampler) reported (inr (refl, none))
      of_fault _ (no_image_passed {c = c} {i = i} {q = q} passes none (info, stored, pair)) =
          inr (
            Leaf (Call c passes.arguments passes.result),
            passes.holds,
            ((InArgument i, q), of_pairs_stored c info (InArgument i, q) stored pair, inl (i, refl, passes.passed_argument, none)),
          )
      of_fault _ (no_sampler_passed {c = c} {i = i} {p = p} passes none (info, stored, pair)) =
          inr (
            Leaf (Call c passes.arguments passes.result),
            passes.holds,
            ((p, InArgument i), of_pairs_stored c info (p, InArgument i) stored pair, inr (i, refl, passes.passed_argument, none)),
          )
      of_fault _ (flow_violation on grave x) = tt
      of_fault _ (count_full most) = tt

      resources_picked : IsWitness (λ e. Fault (NoResource e)) (computed_missing infos f)
      resources_picked = IsWitness-same Missing (λ e. Fault (NoResource e)) (computed_missing infos f) missing_to
          (λ h t. (h, of_fault (NoResource h) t)) missing_picks

pub missing_resources_are_faults : MissingResourcesAreFaults
missing_resources_are_faults m infos f settings =
    let P : ℕ → Type 0 = λ e. StepFault m (infos_of infos) f settings (NoResource e) in
    let whole : IsWitness P (computed_missing infos f) = resources_picked f infos m settings in (
      λ e is. picked P (computed_missing infos f) e whole is,
      λ is. none_picked P (computed_missing infos f) whole is,
    )
