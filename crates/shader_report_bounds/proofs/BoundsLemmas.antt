-- The bounds of functions, one after another.
use Rattle.std.proofs.Common.{◌≡◌, ◌∙◌, refl, sym, ap, subst, ℕ, ◌+◌, ◌<◌, List, [], ◌∷◌, ◌++◌, Some, inl, inr}
use Rattle.std.proofs.Common.{length, slice_get, get_or, arith}
use Rattle.std.proofs.lemmas.Bool.{cases_lt}
use Rattle.std.proofs.lemmas.List.{length-append}
use Rattle.std.proofs.lemmas.Option.{get_or_from_slice_get, same_Some, slice_get-get_or, slice_get_within}
use Rattle.std.proofs.Math.ListN.{get_or-append}
use Rattle.std.proofs.Math.Seq.{get_or-append_seam}
use Rattle.shader_analysis_spec.specs.Program.{Function, Module}
use Rattle.shader_bounds.specs.declared.policies.BoundsCheckPolicies.{BoundsCheckPolicies}
use Rattle.shader_info.specs.declared.info.FunctionInfo.{FunctionInfo}
use Rattle.shader_report_bounds.specs.Bounds.{AddsBounds, AreFirst, IsFunctionBounds}
use Rattle.shader_report_bounds.specs.declared.function.FunctionBounds.{FunctionBounds}

-- an item of a list to which one was pushed is the last one, or one of the list
pushed_before : {X : Type 0} (xs : List X) (x y : X) (i : ℕ) → i < length xs → slice_get (xs ++ x ∷ []) i ≡ Some y → slice_get xs i ≡ Some y
pushed_before xs x y i lt is =
    slice_get-get_or xs i y lt ∙ ap (λ v. Some v) (sym (get_or-append xs (x ∷ []) y i lt) ∙ get_or_from_slice_get (xs ++ x ∷ []) i y y is)

pushed_last : {X : Type 0} (xs : List X) (x y : X) (i : ℕ) → i ≡ length xs → slice_get (xs ++ x ∷ []) i ≡ Some y → x ≡ y
pushed_last xs x y i is found =
    sym (get_or-append_seam xs x [] y) ∙ ap (λ (k : ℕ). get_or (xs ++ x ∷ []) k y) (sym is)
    ∙ get_or_from_slice_get (xs ++ x ∷ []) i y y found

module _ (m : Module) (policies : BoundsCheckPolicies) (functions : List Function) (infos : List FunctionInfo) where
  pub none_yet : (bounds : List FunctionBounds) → bounds ≡ [] → AreFirst m policies functions infos 0 bounds
  none_yet bounds none = subst (AreFirst m policies functions infos 0) (sym none) (record {
    many = refl;
    each = λ i f info of at recorded found. absurd (omega (arith, slice_get_within [] i of found));
  })

  -- the bounds of one more function
  pub one_more : (count : ℕ) (f : Function) (info : FunctionInfo) (old new : List FunctionBounds) →
      AreFirst m policies functions infos count old → slice_get functions count ≡ Some f → slice_get infos count ≡ Some info
      → AddsBounds m f info policies old new → AreFirst m policies functions infos (count + 1) new
  one_more count f info old new first at recorded adds = subst (AreFirst m policies functions infos (count + 1)) (sym adds.added) (record {
    many = length-append old (adds.bounds ∷ []) ∙ ap (λ (n : ℕ). n + 1) first.many;
    each = λ i g other of there stored found. elim (cases_lt i (length old)) [
      | inl lt ↦ first.each i g other of there stored (pushed_before old adds.bounds of i lt found)
      | inr ge ↦
          let within : i < length (old ++ adds.bounds ∷ []) = slice_get_within (old ++ adds.bounds ∷ []) i of found in
          let last : i ≡ length old = omega (arith, within, length-append old (adds.bounds ∷ []), ge) in
          let here : i ≡ count = last ∙ first.many in
          let same : f ≡ g = same_Some _ _ (sym at ∙ ap (slice_get functions) (sym here) ∙ there) in
          let same_info : info ≡ other = same_Some _ _ (sym recorded ∙ ap (slice_get infos) (sym here) ∙ stored) in
          let is : adds.bounds ≡ of = pushed_last old adds.bounds of i last found in
          subst (λ v. IsFunctionBounds m g other policies v) is
          (subst (λ v. IsFunctionBounds m g v policies adds.bounds) same_info
          (subst (λ v. IsFunctionBounds m v info policies adds.bounds) same adds.are))
    ];
  })
