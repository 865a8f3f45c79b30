-- The stored infos of callees.
use Rattle.std.proofs.Common.{◌≡◌, refl, sym, ap, subst, ◌∙◌, ℕ, List, Option, Some, None, slice_get}
use Rattle.std.specs.Option.{option_and_then, option_map}
use Rattle.std.proofs.lemmas.Option.{slice_get-map}
use Rattle.shader_analysis_spec.specs.Infos.{Info}
use Rattle.shader_info.specs.declared.info.FunctionInfo.{FunctionInfo}
use Rattle.shader_passes.specs.Facts.{result_origin_at}
use Rattle.shader_passes.specs.InfoOf.{info_of, infos_of}

pub stored_of : (infos : List FunctionInfo) (c : ℕ) (info : FunctionInfo) → slice_get infos c ≡ Some info →
    slice_get (infos_of infos) c ≡ Some (info_of info)
stored_of infos c info e = slice_get-map info_of infos c ∙ ap (option_map info_of) e

pub of_stored : (infos : List FunctionInfo) (c : ℕ) (i : Info) → slice_get (infos_of infos) c ≡ Some i →
    (info : FunctionInfo) × (slice_get infos c ≡ Some info) × (info_of info ≡ i)
of_stored infos c i e = at (slice_get infos c) (sym (slice_get-map info_of infos c) ∙ e) refl where
  at : (o : Option FunctionInfo) → option_map info_of o ≡ Some i → slice_get infos c ≡ o →
      (info : FunctionInfo) × (slice_get infos c ≡ Some info) × (info_of info ≡ i)
  at None h k = absurd (cc)
  at (Some info) h k = (info, k, cc)

-- the result of a callee
module _ (infos : List FunctionInfo) (c h : ℕ) where
  pub result_to : result_origin_at infos c ≡ Some h → (i : Info) × (slice_get (infos_of infos) c ≡ Some i) × (i.non_uniform_result ≡ Some h)
  result_to k = at (slice_get infos c) k refl where
    at : (o : Option FunctionInfo) → option_and_then (λ (i : FunctionInfo). i.uniformity.non_uniform_result) o ≡ Some h →
        slice_get infos c ≡ o →
        (i : Info) × (slice_get (infos_of infos) c ≡ Some i) × (i.non_uniform_result ≡ Some h)
    at None t g = absurd (cc)
    at (Some i) t g = (info_of i, stored_of infos c i g, t)

  pub of_result : (i : Info) → slice_get (infos_of infos) c ≡ Some i → i.non_uniform_result ≡ Some h → result_origin_at infos c ≡ Some h
  of_result i g r =
      let at = of_stored infos c i g in
      let P : Option FunctionInfo → Type 0 = λ v. option_and_then (λ (i : FunctionInfo). i.uniformity.non_uniform_result) v ≡ Some h in
      let Q : Info → Type 0 = λ v. v.non_uniform_result ≡ Some h in
      subst P (sym at.1) (subst Q (sym at.2) r)
