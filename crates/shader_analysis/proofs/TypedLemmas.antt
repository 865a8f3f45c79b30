-- One more global expression, if those before it have their types.
use Rattle.std.proofs.Common.{◌≡◌, sym, ap, subst, ◌∙◌, ◌⊎◌, inl, inr, ℕ, ◌+◌, ◌<◌}
use Rattle.std.proofs.Common.{List, [], ◌∷◌, ◌++◌, Result, Ok, Err, IfOk, IfErr, Some, length, length-append, arith, slice_get}
use Rattle.std.proofs.lemmas.Option.{same_Some, slice_get_within}
use Rattle.shader_analysis_spec.proofs.TypeLemmas.{types_are_unique}
use Rattle.shader_analysis_spec.specs.Derivable.{Derives, IsRefused}
use Rattle.shader_analysis_spec.specs.Faults.{Cause, ComesBefore, IsFirstFault, ModuleFault, OfEntryPoint, OfFunction}
use Rattle.shader_analysis_spec.specs.Faults.{OfGlobalExpression, Settings, Site, Untyped, in_expression}
use Rattle.shader_analysis_spec.specs.Program.{Expression, Module}
use Rattle.shader_expression_types.specs.Checked.{untyped_error}
use Rattle.shader_expression_types.specs.Typed.{AreOfTheFirst, IsResultOf}
use Rattle.shader_ir.specs.Key.{FitsTypes}
use Rattle.shader_ir.specs.declared.proc.type_resolution.TypeResolution.{TypeResolution}
use Rattle.shader_resolve.proofs.ContextLemmas.{contexts_of_well_formed}
use Rattle.shader_resolve.proofs.MemoryLemmas.{wanted}
use Rattle.shader_resolve.proofs.StoredLemmas.{given_at}
use Rattle.shader_resolve.specs.Context.{Context, IsInRange, TypesInRange, context_of}
use Rattle.shader_resolve.specs.DerivesByRule.{memory_of}
use Rattle.shader_resolve.specs.Outcome.{Given, Memory, refusal_of}
use Rattle.shader_resolve.specs.Stored.{IsOutcomeOf, outcome_at}
use Rattle.shader_resolve.specs.TypingRules.{typing_rule}
use Rattle.shader_resolve.specs.WellFormed.{IsWellFormed}
use Rattle.shader_resolve.specs.declared.error.ResolveError.{ResolveError}
use Rattle.shader_resolve.specs.declared.error.ResolveError.TheVariants as resolve
use Rattle.shader_passes.specs.Causes.{IsNamed}
use Rattle.shader_expression_types.proofs.ListLemmas.{all_one_more, at_position, one_more}
use Rattle.shader_expression_types.proofs.TypedLemmas.{derives_result, refused_or_out}
use Rattle.shader_analysis.proofs.PositionLemmas.{found_at}
use Rattle.shader_analysis.specs.AddedTypes.{AddsType, CanType, IsNextType, IsTypeRefusal, RunsOut, for_type, in_rule}
use Rattle.shader_analysis.specs.Analyzed.{TypesComputed}
use Rattle.shader_analysis.specs.Reached.{IsReached}
use Rattle.shader_analysis.specs.Recorded.{Recorded}

module _ (context : Context) (expressions : List Expression) (types : List TypeResolution) where
  abbrev Determined : Memory → Result TypeResolution ResolveError → Type 0
  Determined memory result = AreOfTheFirst context expressions types → IsResultOf context expressions (length types) memory result

  pub is_next : (x : Expression) → slice_get expressions (length types) ≡ Some x → (memory : Memory)
      (result : Result TypeResolution ResolveError) → IsOutcomeOf types memory (typing_rule context x) result → Determined memory result →
      (TypesInRange context → IfOk result (λ ty. FitsTypes context.types ty)) → IfOk result (IsNextType context expressions types)
  is_next x is memory (Ok ty) outcome reported fits = record {
    by_rule = λ y is_y. subst (λ v. outcome_at types (typing_rule context v) ≡ Some (Given ty)) (same_Some x y (sym is ∙ is_y))
        (given_at types memory (typing_rule context x) ty outcome);
    derived = λ first. derives_result context expressions (length types) memory ty (reported first);
    fits = fits;
  }
  is_next x is memory (Err failure) outcome reported fits = tt

  pub is_refusal : (x : Expression) → slice_get expressions (length types) ≡ Some x → (result : Result TypeResolution ResolveError) →
      Determined (memory_of x) result → IfErr result (IsTypeRefusal context expressions types)
  is_refusal x is (Ok ty) reported = tt
  is_refusal x is (Err failure) reported = λ first.
      elim (refused_or_out context expressions (length types) (memory_of x) failure (reported first))
      [ inl refused ↦ inl refused | inr out_of_memory ↦ inr (in_rule x is out_of_memory) ]

  -- the type that can't be stored is that of the next expression
  pub unstored : (ty : TypeResolution) → IsNextType context expressions types ty → (failure : ResolveError) →
      failure ≡ resolve.OutOfMemory → IsTypeRefusal context expressions types failure
  unstored ty next failure is first = inr (for_type ty (next.derived first) is)

  runs_out : (failure : ResolveError) → RunsOut context expressions types failure → failure ≡ resolve.OutOfMemory
  runs_out failure (in_rule x is out_of_memory) = wanted (memory_of x) failure out_of_memory
  runs_out failure (for_type ty derives is) = is

-- the error for an expression without a type names the refusal
named_untyped : (IsCause : Cause → Type 0) (e : ℕ) (failure : ResolveError) →
    (failure ≡ resolve.OutOfMemory) ⊎ IsCause (Untyped e (refusal_of failure)) →
    IsNamed IsCause (untyped_error e failure)
named_untyped IsCause e resolve.OutOfMemory reported = tt
named_untyped IsCause e failure (inl is) = absurd (cc)
named_untyped IsCause e failure (inr is_there) = is_there

module _ (m : Module) (well : IsWellFormed m) (types : List TypeResolution) (found : TypesComputed m types) where
  abbrev global : Context
  global = context_of m [] []

  pub can_type : (context : Context) (expressions : List Expression) → context ≡ context_of m [] [] → expressions ≡ m.global_expressions →
      (e : ℕ) → e ≡ length types → e < length m.global_expressions → CanType context expressions types e
  can_type context expressions is are e next there =
      subst (λ v. CanType v expressions types e) (sym is) (subst (λ v. CanType global v types e) (sym are) (record {
        next = next;
        there = there;
        backward = well.types;
        names = λ x is_x. at_position (IsInRange global) m.global_expressions e x
            (contexts_of_well_formed m well).global_expressions.names is_x;
        operands = λ x is_x. well.operands.global_expressions e x is_x;
        fit = found.fit;
      }))

  one_found : (ty : TypeResolution) → IsNextType global m.global_expressions types ty → length types < length m.global_expressions →
      TypesComputed m (types ++ ty ∷ [])
  one_found ty next lt = record {
    there = omega (arith, lt, length-append types (ty ∷ []));
    derived = one_more (λ e t. Derives global m.global_expressions e t) types ty found.derived (next.derived found.derived);
    fit = all_one_more (FitsTypes m.types) types ty found.fit (next.fits (contexts_of_well_formed m well).global_expressions.types);
  }

  pub expression_reached : (settings : Settings) (e : ℕ) → e ≡ length types → e < length m.global_expressions →
      IsReached m settings (OfGlobalExpression e)
  expression_reached settings e next lt = record { there = lt; clean = none } where
    none : (other : Site) (reported : Cause) → ComesBefore other (OfGlobalExpression e) → ModuleFault m settings other reported → ⊥
    none (OfGlobalExpression d) reported lt (in_expression {refusal = why} is) =
        let ty = found_at types d (omega (arith, lt, next)) in
        (types_are_unique global m.global_expressions d ty.0 (found.derived d ty.0 ty.1)).1 why is
    none (OfFunction i) reported lt fault = lt
    none (OfEntryPoint i) reported lt fault = lt

  first_untyped : (settings : Settings) (e : ℕ) → e ≡ length types → (failure : ResolveError) →
      IsRefused global m.global_expressions (length types) (refusal_of failure) →
      IsFirstFault m settings (OfGlobalExpression e) (Untyped e (refusal_of failure))
  first_untyped settings e next failure refused =
      let is : IsRefused global m.global_expressions e (refusal_of failure) =
      subst (λ v. IsRefused global m.global_expressions v (refusal_of failure)) (sym next) refused in
      record {
        is_there = in_expression is;
        first = (expression_reached settings e next (slice_get_within m.global_expressions e is.expression is.is_there)).clean;
      }

  pub names_first : (settings : Settings) (e : ℕ) → e ≡ length types → (failure : ResolveError) →
      IsTypeRefusal global m.global_expressions types failure →
      IsNamed (IsFirstFault m settings (OfGlobalExpression e)) (untyped_error e failure)
  names_first settings e next failure reported = named_untyped (IsFirstFault m settings (OfGlobalExpression e)) e failure
      (elim (reported found.derived) [
        | inl refused ↦ inr (first_untyped settings e next failure refused)
        | inr out_of_memory ↦ inl (runs_out global m.global_expressions types failure out_of_memory)
      ])

-- the context is the module's
module _ (m : Module) (well : IsWellFormed m) (context : Context) (expressions : List Expression) (is : context ≡ context_of m [] [])
    (are : expressions ≡ m.global_expressions) where
  pub added_type : (old new : Recorded) → TypesComputed m old.global_expressions →
      length old.global_expressions < length m.global_expressions →
      AddsType context expressions old new →
      (new ≡ record old { global_expressions = new.global_expressions })
      × (length new.global_expressions ≡ length old.global_expressions + 1)
      × TypesComputed m new.global_expressions
  added_type old new found lt adds =
      let types = old.global_expressions in
      let grown : new.global_expressions ≡ types ++ adds.ty ∷ [] = ap (λ (v : Recorded). v.global_expressions) adds.added in
      let next = subst (λ v. IsNextType v m.global_expressions types adds.ty) is
      (subst (λ v. IsNextType context v types adds.ty) are adds.is_next) in (
        adds.added ∙ ap (λ v. record old { global_expressions = v }) (sym grown),
        ap length grown ∙ length-append types (adds.ty ∷ []),
        subst (TypesComputed m) (sym grown) (one_found m well types found adds.ty next lt),
      )

  pub refused_type : (types : List TypeResolution) → TypesComputed m types → (settings : Settings) (e : ℕ) → e ≡ length types →
      (failure : ResolveError) →
      IsTypeRefusal context expressions types failure → IsNamed (IsFirstFault m settings (OfGlobalExpression e)) (untyped_error e failure)
  refused_type types found settings e next failure reported = names_first m well types found settings e next failure
      (subst (λ v. IsTypeRefusal v m.global_expressions types failure) is (subst (λ v. IsTypeRefusal context v types failure) are reported))
