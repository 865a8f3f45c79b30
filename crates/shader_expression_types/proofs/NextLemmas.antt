-- The next expression, by the records and the facts of those before it.
use Rattle.std.proofs.Common.{◌≡◌, refl, ap, sym, subst, ◌∙◌, ℕ, zero, suc, ◌+◌, replicate, All, List, [], ◌∷◌, Option, Some, None, Result}
use Rattle.std.proofs.Common.{Ok, Err, length, slice_get, ◌++◌, arith}
use Rattle.std.proofs.lemmas.List.{length-map, map-append}
use Rattle.shader_analysis_spec.specs.Derivable.{Derives, function_context}
use Rattle.shader_analysis_spec.specs.Program.{Expression, Function, IsExpressionAt, Module}
use Rattle.shader_expression_types.proofs.FaultLemmas.{names_failure_at, names_refusal_at, sound_at, reported_here}
use Rattle.shader_expression_types.proofs.ListLemmas.{all_one_more, one_more, operands_below}
use Rattle.shader_expression_types.proofs.PrefixLemmas.{decided_before}
use Rattle.shader_expression_types.specs.Checked.{IsSound, NamesFault, untyped_error}
use Rattle.shader_expression_types.specs.Indexed.{access_refusal}
use Rattle.shader_expression_types.specs.Typed.{AreOfTheFirst, IsResultOf}
use Rattle.shader_info.specs.declared.error.ExpressionError.{ExpressionError}
use Rattle.shader_info.specs.declared.error.FunctionError.TheVariants as error
use Rattle.shader_info.specs.declared.flags.Capabilities.{Capabilities}
use Rattle.shader_info.specs.declared.info.ExpressionInfo.{ExpressionInfo}
use Rattle.shader_info.specs.declared.info.FunctionInfo.{FunctionInfo}
use Rattle.shader_ir.specs.Key.{FitsTypes}
use Rattle.shader_ir.specs.declared.proc.type_resolution.TypeResolution.{TypeResolution}
use Rattle.shader_passes.proofs.RecordLemmas.{facts_grow}
use Rattle.shader_passes.specs.Facts.{Fact, entry}
use Rattle.shader_passes.specs.InfoOf.{PointsBackwards}
use Rattle.shader_passes.specs.Records.{fact_of, facts_in, types_in}
use Rattle.shader_passes.specs.Results.{computed_facts}
use Rattle.shader_resolve.specs.Context.{Context}
use Rattle.shader_resolve.specs.Outcome.{Memory}
use Rattle.shader_resolve.specs.WellFormed.{OperandsBelow}
use Rattle.shader_resolve.specs.declared.error.ResolveError.{ResolveError}

-- there are as many types as records
pub long : (records : List ExpressionInfo) → length records ≡ length (types_in records)
long records = sym (length-map records (λ (found : ExpressionInfo). found.ty))

module _ (m : Module) (infos : List FunctionInfo) (f : Function) (capabilities : Capabilities) (facts later : List Fact)
    (found : computed_facts m infos f ≡ facts ++ later) (records : List ExpressionInfo) (operands : PointsBackwards f)
    (first : AreOfTheFirst (function_context m f) f.expressions (types_in records)) (e : ℕ) (position : e ≡ length records)
    (known : length facts ≡ length records) (x : Expression) (is : IsExpressionAt f e x) where
  -- its operands are among the records
  below : OperandsBelow (length records) x
  below = subst (λ v. OperandsBelow v x) position (operands_below f operands e x is)

  earlier : OperandsBelow (length (types_in records)) x
  earlier = subst (λ v. OperandsBelow v x) (long records) below

  -- the error by these facts is that by all facts
  decided : access_refusal capabilities m.types (facts ++ later) (types_in records) x
      ≡ access_refusal capabilities m.types facts (types_in records) x
  decided = decided_before capabilities m.types facts later (types_in records) x (subst (λ v. OperandsBelow v x) (sym known) below)

  pub next_refusal_is_named : (source : ExpressionError) → access_refusal capabilities m.types facts (types_in records) x ≡ Some source →
      NamesFault m infos f capabilities (error.Expression e source)
  next_refusal_is_named source refused =
      names_refusal_at m infos f (facts ++ later) (sym found) operands capabilities (types_in records) first e
      (position ∙ long records) x is earlier source (decided ∙ refused)

  module _ (context : Context) (same : context ≡ function_context m f) (memory : Memory) (result : Result TypeResolution ResolveError)
      (reported : (expressions : List Expression) → slice_get expressions (length records) ≡ Some x →
      AreOfTheFirst context expressions (types_in records) → IsResultOf context expressions (length records) memory result) where
    -- the result by the rule is that for the expression in the function
    here : IsResultOf (function_context m f) f.expressions (length (types_in records)) memory result
    here =
        reported_here m infos f (facts ++ later) (sym found) operands capabilities (types_in records) first e
        (position ∙ long records) x is earlier context same memory result
        (λ expressions at of_first. subst (λ v. IsResultOf context expressions v memory result) (long records)
        (reported expressions (subst (λ v. slice_get expressions v ≡ Some x) (sym (long records)) at) of_first))

    pub next_is_sound : (resolution : TypeResolution) → result ≡ Ok resolution →
        access_refusal capabilities m.types facts (types_in records) x ≡ None → IsSound m infos f capabilities e
    next_is_sound resolution ok none =
        sound_at m infos f (facts ++ later) (sym found) operands capabilities (types_in records) first e
        (position ∙ long records) x is earlier memory resolution
        (subst (IsResultOf (function_context m f) f.expressions (length (types_in records)) memory) ok here) (decided ∙ none)

    pub next_failure_is_named : (failure : ResolveError) → result ≡ Err failure →
        NamesFault m infos f capabilities (untyped_error e failure)
    next_failure_is_named failure err =
        names_failure_at m infos f (facts ++ later) (sym found) operands capabilities (types_in records) first e
        (position ∙ long records) x is earlier memory failure
        (subst (IsResultOf (function_context m f) f.expressions (length (types_in records)) memory) err here)

-- there are as many facts as records
pub facts_long : (records : List ExpressionInfo) (roots : List (Option ℕ)) → length records ≡ length roots →
    length (facts_in records roots) ≡ length records
facts_long [] roots same = refl
facts_long (r ∷ rs) [] same = absurd (omega arith)
facts_long (r ∷ rs) (g ∷ gs) same = ap suc (facts_long rs gs (omega arith))

module _ (old : List ExpressionInfo) (found : ExpressionInfo) (new : List ExpressionInfo) (more : new ≡ old ++ found ∷ []) where
  -- the facts with those of one more record
  pub recorded_facts : (m : Module) (infos : List FunctionInfo) (f : Function) (e : ℕ) (x : Expression) (facts : List Fact)
      (roots : List (Option ℕ)) (root : Option ℕ) (new_roots : List (Option ℕ)) → length old ≡ length roots →
      facts ≡ facts_in old roots → new_roots ≡ roots ++ root ∷ [] → fact_of found root ≡ entry m infos f facts e x →
      facts_in new new_roots ≡ facts_in old roots ++ entry m infos f (facts_in old roots) e x ∷ []
  recorded_facts m infos f e x facts roots root new_roots same are more_roots is =
      ap (λ v. facts_in v new_roots) more ∙ (ap (facts_in (old ++ found ∷ [])) more_roots
      ∙ (facts_grow old roots found root same ∙ (ap (λ v. facts_in old roots ++ v ∷ []) is
      ∙ ap (λ v. facts_in old roots ++ entry m infos f v e x ∷ []) are)))

  types_grow : types_in new ≡ types_in old ++ found.ty ∷ []
  types_grow = ap types_in more ∙ map-append (λ (one : ExpressionInfo). one.ty) old (found ∷ [])

  pub first_recorded : (m : Module) (f : Function) (e : ℕ) → e ≡ length old →
      AreOfTheFirst (function_context m f) f.expressions (types_in old) →
      Derives (function_context m f) f.expressions e found.ty →
      AreOfTheFirst (function_context m f) f.expressions (types_in new)
  first_recorded m f e here first derives =
      let P : ℕ → TypeResolution → Type 0 = λ d t. Derives (function_context m f) f.expressions d t in
      subst (AreOfTheFirst (function_context m f) f.expressions) (sym types_grow)
      (one_more P (types_in old) found.ty first (subst (λ v. P v found.ty) (here ∙ long old) derives))

  pub fit_recorded : (m : Module) → All (FitsTypes m.types) (types_in old) → FitsTypes m.types found.ty →
      All (FitsTypes m.types) (types_in new)
  fit_recorded m fit last =
      subst (All (FitsTypes m.types)) (sym types_grow) (all_one_more (FitsTypes m.types) (types_in old) found.ty fit last)

-- one more count
pub one_more_zero : (n : ℕ) → ◌++◌ {A = ℕ} (replicate n 0) (0 ∷ []) ≡ replicate (n + 1) 0
one_more_zero zero = refl
one_more_zero (suc n) =
    let next : suc (n + 1) ≡ suc n + 1 = omega arith in ap (λ v. 0 ∷ v) (one_more_zero n) ∙ ap (λ v. replicate v 0) next
