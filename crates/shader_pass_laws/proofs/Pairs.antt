-- The resources of the collected pairs exist.
use Rattle.std.proofs.Common.{◌≡◌, refl, sym, subst, ℕ, inl, inr, List, Option, Some, None, All, map, slice_get, length}
use Rattle.std.specs.List.{Contains}
use Rattle.std.specs.Option.{option_and_then}
use Rattle.std.proofs.lemmas.List.Elements.{All-contains, Contains-append_cases, Contains-append_left, Contains-append_right}
use Rattle.shader_ir.specs.declared.expression.Expression.TheVariants as form
use Rattle.shader_analysis_spec.specs.Infos.{Info, Resource, InGlobal, InArgument}
use Rattle.shader_analysis_spec.specs.Pairs.{global_resource, expression_resource, resource, in_caller}
use Rattle.shader_analysis_spec.specs.Program.{Function, Module, Expression}
use Rattle.shader_analysis_spec.specs.Steps.{StepPair, own, callee}
use Rattle.shader_analysis_spec.proofs.ListLemmas.{in_map, of_map}
use Rattle.shader_info.specs.declared.info.FunctionInfo.{FunctionInfo}
use Rattle.shader_info.specs.declared.info.GlobalOrArgument.{GlobalOrArgument}
use Rattle.shader_info.specs.declared.info.GlobalOrArgument.TheVariants.{Global, Argument}
use Rattle.shader_info.specs.declared.info.Sampling.{Sampling}
use Rattle.shader_info.specs.declared.info.SamplingKey.{SamplingKey}
use Rattle.shader_info.specs.Fit.{IsKnown, IsOpen, IsResourceInRange}
use Rattle.shader_passes.specs.Conditions.{GlobalsWithin}
use Rattle.shader_passes.specs.Results.{computed_pairs}
use Rattle.shader_pass_laws.proofs.ResultLemmas.{pairs_of_the_step}
use Rattle.shader_passes.specs.InfoOf.{infos_of}
use Rattle.shader_passes.specs.RecordedPairs.{SameMembers, key_pair, pairs_in, resource_view, sampling_pair}
use Rattle.shader_passes.proofs.StoredInfoLemmas.{of_stored}
use Rattle.shader_pass_laws.specs.PairsFit.{ArgumentsWithin, CollectedPairsFit, FitStored, ComputedPairsAreWithin, IsWithin}
use Rattle.shader_pass_laws.proofs.Members.{all_members}

-- resources as infos store them
module _ (globals arguments : ℕ) where
  of_point : (x : GlobalOrArgument) → IsResourceInRange globals arguments x → IsWithin globals arguments (resource_view x)
  of_point (Global g) h = h
  of_point (Argument i) h = h

  to_resource : (x : GlobalOrArgument) → IsWithin globals arguments (resource_view x) → IsResourceInRange globals arguments x
  to_resource (Global g) h = h
  to_resource (Argument i) h = h

  abbrev Both : Resource × Resource → Type 0
  Both pair = IsWithin globals arguments pair.0 × IsWithin globals arguments pair.1

  -- the pairs of two globals, and those with an argument
  of_pairs : (known : List SamplingKey) (open_pairs : List Sampling) → All (IsKnown globals) known →
      All (IsOpen globals arguments) open_pairs →
      (pair : Resource × Resource) → Contains (pairs_in known open_pairs) pair → Both pair
  of_pairs known open_pairs all_known all_open pair h =
      let P : Resource × Resource → Type 0 = λ v. Both v in
      elim (Contains-append_cases (map key_pair known) (map sampling_pair open_pairs) pair h) [
        | inl one ↦
            let at = in_map key_pair known pair one in
            let is = All-contains (IsKnown globals) known at.0 all_known at.1 in
            subst P at.2 (is.0, is.1)
        | inr one ↦
            let at = in_map sampling_pair open_pairs pair one in
            let is = All-contains (IsOpen globals arguments) open_pairs at.0 all_open at.1 in
            subst P at.2 (of_point at.0.image is.0, of_point at.0.sampler is.1)
      ]

  to_known : (known : List SamplingKey) (open_pairs : List Sampling) →
      ((pair : Resource × Resource) → Contains (pairs_in known open_pairs) pair → Both pair) →
      All (IsKnown globals) known
  to_known known open_pairs each = all_members (IsKnown globals) known (λ key h.
      let both = each (key_pair key) (Contains-append_left (map key_pair known) (map sampling_pair open_pairs) (key_pair key)
      (of_map key_pair known key h)) in
      (both.0, both.1))

  to_open : (known : List SamplingKey) (open_pairs : List Sampling) →
      ((pair : Resource × Resource) → Contains (pairs_in known open_pairs) pair → Both pair) →
      All (IsOpen globals arguments) open_pairs
  to_open known open_pairs each = all_members (IsOpen globals arguments) open_pairs (λ pair h.
      let both = each (sampling_pair pair) (Contains-append_right (map key_pair known) (map sampling_pair open_pairs) (sampling_pair pair)
      (of_map sampling_pair open_pairs pair h)) in
      (to_resource pair.image both.0, to_resource pair.sampler both.1))

module _ (m : Module) (infos : List FunctionInfo) (f : Function) (stored : FitStored m infos) (globals : GlobalsWithin m f)
    (arguments : ArgumentsWithin f) where
  abbrev Within : Resource → Type 0
  Within p = IsWithin (length m.global_variables) (length f.arguments) p

  global_within : (e : ℕ) (o : Option Expression) (p : Resource) → slice_get f.expressions e ≡ o → global_resource o ≡ Some p → Within p
  global_within e (Some (form.GlobalVariable g)) p is h =
      let same : InGlobal g ≡ p = cc in
      let P : Resource → Type 0 = λ v. Within v in subst P same (globals e g is)
  global_within e o p is h = absurd (cc)

  resource_within : (e : ℕ) (o : Option Expression) (p : Resource) → slice_get f.expressions e ≡ o → expression_resource f o ≡ Some p →
      Within p
  resource_within e (Some (form.GlobalVariable g)) p is h =
      let same : InGlobal g ≡ p = cc in
      let P : Resource → Type 0 = λ v. Within v in subst P same (globals e g is)
  resource_within e (Some (form.FunctionArgument i)) p is h =
      let same : InArgument i ≡ p = cc in
      let P : Resource → Type 0 = λ v. Within v in subst P same (arguments e i is)
  resource_within e (Some (form.Access base index)) p is h = global_within base (slice_get f.expressions base) p refl h
  resource_within e (Some (form.AccessIndex base index)) p is h = global_within base (slice_get f.expressions base) p refl h
  resource_within e o p is h = absurd (cc)

  -- the caller's resource for a callee's resource
  caller_within : (n : ℕ) (passed : List ℕ) (p q : Resource) → IsWithin (length m.global_variables) n p →
      in_caller f passed p ≡ Some q → Within q
  caller_within n passed (InGlobal g) q lt h =
      let same : InGlobal g ≡ q = cc in
      let P : Resource → Type 0 = λ v. Within v in subst P same lt
  caller_within n passed (InArgument i) q lt h = at (slice_get passed i) h where
    at : (o : Option ℕ) → option_and_then (resource f) o ≡ Some q → Within q
    at None t = absurd (cc)
    at (Some e) t = resource_within e (slice_get f.expressions e) q refl t

  step_within : (image sampler : Resource) → StepPair (infos_of infos) f image sampler → Within image × Within sampler
  step_within image sampler (own e {i = i} {s = s} reported a b) =
      (resource_within i (slice_get f.expressions i) image refl a, resource_within s (slice_get f.expressions s) sampler refl b)
  step_within image sampler (callee {arguments = passed} {info = i} {p = p} {q = q} call h a b) =
      let at = of_stored infos call.callee i call.stored in
      let r = stored.function call.callee at.0 at.1 in
      let fits = stored.fits call.callee r.0 at.0 r.1 at.1 in
      let P : Info → Type 0 = λ v. Contains v.pairs (p, q) in
      let n = length r.0.arguments in
      let both = of_pairs (length m.global_variables) n at.0.sampling_set.keys at.0.sampling.keys fits.known fits.with_arguments (
        p,
        q,
      ) (subst P (sym at.2) h) in
      (caller_within n passed p image both.0 a, caller_within n passed q sampler both.1 b)

pub computed_pairs_are_within : ComputedPairsAreWithin
computed_pairs_are_within m infos f stored globals arguments image sampler h =
    let same : SameMembers (computed_pairs infos f) (computed_pairs infos f) = record { to = λ x h. h; from = λ x h. h } in
    step_within m infos f stored globals arguments image sampler
    ((pairs_of_the_step infos f (computed_pairs infos f) same image sampler).0 h)

pub collected_pairs_fit : CollectedPairsFit
collected_pairs_fit m infos f stored globals arguments known open_pairs same =
    let each : (pair : Resource × Resource) → Contains (pairs_in known open_pairs) pair →
    Both (length m.global_variables) (length f.arguments) pair =
    λ pair h. computed_pairs_are_within m infos f stored globals arguments pair.0 pair.1 (same.to pair h) in (
      to_known (length m.global_variables) (length f.arguments) known open_pairs each,
      to_open (length m.global_variables) (length f.arguments) known open_pairs each,
    )
