-- An exact info keeps the pairs of two globals apart from those with an argument, at all locations.
use Rattle.std.proofs.Common.{◌≡◌, ◌∙◌, sym, subst, ap, ℕ, inl, inr, List, Some, map, slice_get}
use Rattle.std.specs.List.{Contains}
use Rattle.std.specs.Option.{option_map}
use Rattle.std.proofs.lemmas.List.Elements.{Contains-append_left, Contains-append_right, Contains-append_cases}
use Rattle.std.proofs.lemmas.Option.{slice_get-map}
use Rattle.shader_analysis_spec.proofs.ListLemmas.{in_map, of_map}
use Rattle.shader_analysis_spec.specs.Exact.{IsExact}
use Rattle.shader_analysis_spec.specs.Faults.{Settings}
use Rattle.shader_analysis_spec.specs.Infos.{Resource, InGlobal}
use Rattle.shader_analysis_spec.specs.Program.{Function, Module}
use Rattle.shader_info.specs.Fit.{Fits}
use Rattle.shader_info.specs.declared.error.AnalysisLocation.TheVariants as site
use Rattle.shader_info.specs.declared.info.FunctionInfo.{FunctionInfo}
use Rattle.shader_info.specs.declared.info.GlobalOrArgument.{GlobalOrArgument}
use Rattle.shader_info.specs.declared.info.GlobalOrArgument.TheVariants.{Global, Argument}
use Rattle.shader_info.specs.declared.info.Sampling.{Sampling}
use Rattle.shader_info.specs.declared.info.SamplingKey.{SamplingKey}
use Rattle.shader_passes.specs.InfoOf.{info_of, infos_of}
use Rattle.shader_passes.specs.RecordedPairs.{HasArgument, HaveArguments, info_pairs, key_pair, resource_view, sampling_pair}
use Rattle.shader_analysis.specs.Analyzed.{EntryPointsAnalyzed, FunctionsAnalyzed}
use Rattle.shader_analysis.specs.Fitting.{AllFit, AllUnrestricted}
use Rattle.shader_analysis.specs.Recording.{RecordsAllPairs, RecordsPairs}
use Rattle.shader_analysis.specs.Recorded.{Recorded}

-- a resource has one view only
same_resource : (p q : GlobalOrArgument) → resource_view p ≡ resource_view q → p ≡ q
same_resource (Global a) (Global b) e = let is : a ≡ b = cc in ap Global is
same_resource (Global a) (Argument b) e = cc
same_resource (Argument a) (Global b) e = cc
same_resource (Argument a) (Argument b) e = let is : a ≡ b = cc in ap Argument is

same_pair : (p q : Sampling) → sampling_pair p ≡ sampling_pair q → p ≡ q
same_pair p q e =
    let image = same_resource p.image q.image (ap (λ (v : Resource × Resource). v.0) e) in
    let sampler = same_resource p.sampler q.sampler (ap (λ (v : Resource × Resource). v.1) e) in
    ap (λ (v : GlobalOrArgument). record p { image = v }) image ∙ ap (λ (v : GlobalOrArgument). record q { sampler = v }) sampler

same_key : (k l : SamplingKey) → key_pair k ≡ key_pair l → k ≡ l
same_key k l e =
    let images : InGlobal k.image ≡ InGlobal l.image = ap (λ (v : Resource × Resource). v.0) e in
    let samplers : InGlobal k.sampler ≡ InGlobal l.sampler = ap (λ (v : Resource × Resource). v.1) e in
    let image : k.image ≡ l.image = cc in
    let sampler : k.sampler ≡ l.sampler = cc in
    ap (λ (v : ℕ). record k { image = v }) image ∙ ap (λ (v : ℕ). record l { sampler = v }) sampler

module _ (info : FunctionInfo) (apart : HaveArguments info.sampling.keys) where
  abbrev known : List (Resource × Resource)
  known = map key_pair info.sampling_set.keys

  abbrev open_pairs : List (Resource × Resource)
  open_pairs = map sampling_pair info.sampling.keys

  -- a recorded pair is in the set to which its resources belong
  of_globals : (key : SamplingKey) → Contains (info_pairs info) (key_pair key) → Contains info.sampling_set.keys key
  of_globals key h = elim (Contains-append_cases known open_pairs (key_pair key) h) [
    | inl one ↦
        let k = in_map key_pair info.sampling_set.keys (key_pair key) one in
        subst (λ v. Contains info.sampling_set.keys v) (same_key k.0 key k.2) k.1
    | inr other ↦
        let p = in_map sampling_pair info.sampling.keys (key_pair key) other in
        absurd (subst (λ (v : Resource × Resource). HasArgument v.0 v.1) p.2 (apart.each p.0 p.1))
  ]

  with_arguments : (pair : Sampling) → HasArgument (resource_view pair.image) (resource_view pair.sampler) →
      Contains (info_pairs info) (sampling_pair pair) → Contains info.sampling.keys pair
  with_arguments pair has h = elim (Contains-append_cases known open_pairs (sampling_pair pair) h) [
    | inl one ↦
        let k = in_map key_pair info.sampling_set.keys (sampling_pair pair) one in
        absurd (subst (λ (v : Resource × Resource). HasArgument v.0 v.1) (sym k.2) has)
    | inr other ↦
        let p = in_map sampling_pair info.sampling.keys (sampling_pair pair) other in
        subst (λ v. Contains info.sampling.keys v) (same_pair p.0 pair p.2) p.1
  ]

  records_pairs : (m : Module) (f : Function) → IsExact m f (info_of info) → RecordsPairs m f info
  records_pairs m f exact = record {
    of_globals = λ image sampler.
        let key : SamplingKey = record { image = image; sampler = sampler } in
        let is = exact.pairs (InGlobal image) (InGlobal sampler) in (
          λ h. is.0 (Contains-append_left known open_pairs (key_pair key) (of_map key_pair info.sampling_set.keys key h)),
          λ h. of_globals key (is.1 h),
        );
    with_arguments = λ image sampler.
        let pair : Sampling = record { image = image; sampler = sampler } in
        let is = exact.pairs (resource_view image) (resource_view sampler) in (
          λ h. (
            apart.each pair h,
            is.0 (Contains-append_right known open_pairs (sampling_pair pair) (of_map sampling_pair info.sampling.keys pair h)),
          ),
          λ h. with_arguments pair h.0 (is.1 h.1),
        );
  }

module _ (m : Module) (settings : Settings) (recorded : Recorded) (functions : FunctionsAnalyzed m settings recorded.functions)
    (entries : EntryPointsAnalyzed m settings recorded.entry_points) where
  pub records_all_pairs : RecordsAllPairs m recorded
  records_all_pairs (site.ConstExpression e) f info is_f is_info = absurd is_f
  records_all_pairs (site.Function i) f info is_f is_info =
      let stored : slice_get (infos_of recorded.functions) i ≡ Some (info_of info) =
      slice_get-map info_of recorded.functions i ∙ ap (option_map info_of) is_info in
      records_pairs info (functions.apart i info is_info) m f (functions.exact i f (info_of info) is_f stored)
  records_all_pairs (site.EntryPoint i) f info is_f is_info =
      subst (λ v. RecordsPairs m v info) is_f.2
      (records_pairs info (entries.apart i info is_info) m is_f.0.function (entries.exact i is_f.0 info is_f.1 is_info))

  pub all_fit : AllFit m recorded
  all_fit (site.ConstExpression e) f info is_f is_info = absurd is_f
  all_fit (site.Function i) f info is_f is_info = functions.stored.fit i f info is_f is_info
  all_fit (site.EntryPoint i) f info is_f is_info = subst (λ v. Fits m v info) is_f.2 (entries.fit i is_f.0 info is_f.1 is_info)

  pub all_unrestricted : AllUnrestricted recorded
  all_unrestricted (site.ConstExpression e) info is_info = absurd is_info
  all_unrestricted (site.Function i) info is_info = functions.unrestricted i info is_info
  all_unrestricted (site.EntryPoint i) info is_info = entries.unrestricted i info is_info
