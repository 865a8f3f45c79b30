-- An error of an access or of a type is a fault of the function, and without an error there is no fault.
use Rattle.std.proofs.Common.{◌≡◌, refl, ap, sym, subst, ◌∙◌, ◌⊎◌, ⊎_elim, inl, inr, ◌==◌, ℕ, ◌<◌, Bool, true, false, if◌then◌else◌}
use Rattle.std.proofs.Common.{List, Option, Some, None, Result, Ok, Err, slice_get, length, get_or, ◌≤◌, bit_and, arith}
use Rattle.std.specs.Option.{option_and_then, option_map}
use Rattle.std.proofs.lemmas.Option.{same_Some, slice_get-map, slice_get_within, slice_get_cases}
use Rattle.shader_analysis_spec.proofs.TypeLemmas.{types_are_unique}
use Rattle.shader_analysis_spec.specs.Derivable.{Derives, IsRefused, function_context}
use Rattle.shader_analysis_spec.specs.Faults.{Capability, IndexTextures, IndexStorageTextures, Cause, Untyped, MissingCapability}
use Rattle.shader_analysis_spec.specs.Faults.{NoResource, BindingArrayElement, NonUniformControlFlow, CountFull, IndexesBindings}
use Rattle.shader_analysis_spec.specs.Faults.{untyped, no_capability, bad_element, element_capability, allows}
use Rattle.shader_analysis_spec.specs.StepFaults.{StepFault}
use Rattle.shader_analysis_spec.specs.Infos.{IsWitness}
use Rattle.shader_analysis_spec.specs.Program.{Function, Module, Expression, IsExpressionAt}
use Rattle.shader_analysis_spec.specs.Steps.{StepOrigin}
use Rattle.shader_expression_types.proofs.TypedLemmas.{derives_result, refused_or_out, typed}
use Rattle.shader_expression_types.specs.Checked.{IsOfTyping, IsSound, NamesFault, untyped_error}
use Rattle.shader_expression_types.specs.Indexed.{access_refusal, base_refusal, index_refusal, needed_for, alone}
use Rattle.shader_expression_types.specs.Typed.{AreOfTheFirst, IsResultOf}
use Rattle.shader_info.specs.declared.error.ExpressionError.{ExpressionError}
use Rattle.shader_info.specs.declared.error.ExpressionError.TheVariants as expression
use Rattle.shader_info.specs.declared.error.FunctionError.TheVariants as error
use Rattle.shader_info.specs.declared.flags.Capabilities.{Capabilities}
use Rattle.shader_info.specs.declared.flags.ValidationFlags.{ValidationFlags}
use Rattle.shader_info.specs.declared.info.FunctionInfo.{FunctionInfo}
use Rattle.shader_ir.specs.Key.{found_inner, inner_of}
use Rattle.shader_ir.specs.declared.expression.Expression.TheVariants as form
use Rattle.shader_ir.specs.declared.proc.type_resolution.TypeResolution.{TypeResolution}
use Rattle.shader_ir.specs.declared.types.TypeInner.{TypeInner}
use Rattle.shader_ir.specs.declared.types.TypeInner.TheVariants as type
use Rattle.shader_ir.specs.declared.proc.operands.Label.TheVariants.{Read}
use Rattle.shader_resolve.proofs.MemoryLemmas.{wanted}
use Rattle.shader_resolve.specs.WellFormed.{OperandsBelow}
use Rattle.shader_resolve.specs.declared.error.ResolveError.{ResolveError}
use Rattle.shader_resolve.specs.declared.error.ResolveError.TheVariants as resolve
use Rattle.shader_resolve.specs.Context.{Context}
use Rattle.shader_resolve.specs.Outcome.{Memory, IsOutOfMemory, refusal_of}
use Rattle.shader_passes.proofs.OriginLemmas.{origins_of_the_step}
use Rattle.shader_passes.specs.Causes.{IsNamed, IsNamedOf, number_of, settings_of}
use Rattle.shader_passes.specs.Results.{computed_facts}
use Rattle.shader_passes.proofs.FactLemmas.{facts_after_long}
use Rattle.shader_passes.specs.Facts.{Fact}
use Rattle.shader_passes.specs.Facts.{origin_at}
use Rattle.shader_passes.specs.InfoOf.{PointsBackwards, infos_of}

-- the error for an expression without a type has its refusal, or is an allocation failure
pub names_untyped : (IsCause : Cause → Type 0) (e : ℕ) (memory : Memory) (failure : ResolveError) →
    IsCause (Untyped e (refusal_of failure)) ⊎ IsOutOfMemory memory failure →
    IsNamed IsCause (untyped_error e failure)
names_untyped IsCause e memory resolve.OutOfMemory reported = tt
names_untyped IsCause e memory failure (inl is_there) = is_there
names_untyped IsCause e memory failure (inr out_of_memory) = let is = wanted memory failure out_of_memory in absurd (cc)

-- the test of a capability is that of the settings
allows_alone : (flags : ValidationFlags) (capabilities : Capabilities) (capability : Capability) →
    allows (settings_of flags capabilities) capability ≡ (bit_and capabilities.0 (number_of capability) == number_of capability)
allows_alone flags capabilities IndexTextures = refl
allows_alone flags capabilities IndexStorageTextures = refl

module _ (m : Module) (infos : List FunctionInfo) (f : Function) (facts : List Fact) (found : facts ≡ computed_facts m infos f)
    (below : PointsBackwards f)
    (capabilities : Capabilities) where
  -- the computed origin of an expression is one of it, and there is none if none is computed
  origins : (e : ℕ) → e < length f.expressions → IsWitness (StepOrigin m (infos_of infos) f e) (origin_at facts e)
  origins e lt = at (slice_get facts e) refl where
    at : (o : Option Fact) → slice_get facts e ≡ o → IsWitness (StepOrigin m (infos_of infos) f e)
        (option_and_then (λ (fact : Fact). fact.origin) o)
    at (Some fact) is = origins_of_the_step m infos f below e fact.origin
        (slice_get-map (λ (one : Fact). one.origin) (computed_facts m infos f) e
        ∙ ap (option_map (λ (one : Fact). one.origin)) (subst (λ v. slice_get v e ≡ Some fact) found is))
    at None is = absurd (past (slice_get_cases facts e).1) where
      long : length facts ≡ length f.expressions
      long = ap length found ∙ facts_after_long m infos f f.expressions

      past : ((x : Fact) × (e < length facts) × (slice_get facts e ≡ Some x) × (get_or facts e x ≡ x)) ⊎ ((length facts ≤ e) ×
          (slice_get facts e ≡ None)) → ⊥
      past (inl there) = let clash = sym is ∙ there.2 in cc
      past (inr beyond) = omega (arith, beyond.0, lt, long)

  -- an access by an index to a binding array with these elements
  module _ (k index element : ℕ) (flags : ValidationFlags) (at : IndexesBindings m f k index element) where
    -- an error of the access is a fault
    refused : (needed : Option Capability) → element_capability (found_inner (slice_get m.types element)) ≡ needed →
        (origin : Option ℕ) → IsWitness (StepOrigin m (infos_of infos) f index) origin →
        (source : ExpressionError) → index_refusal capabilities origin (option_map alone needed) ≡ Some source →
        IsNamedOf (StepFault m (infos_of infos) f (settings_of flags capabilities)) k source
    refused None none origin picks source is =
        subst (IsNamedOf (StepFault m (infos_of infos) f (settings_of flags capabilities)) k) (same_Some _ _ is) (bad_element at none)
    refused (Some capability) takes None picks source is = absurd (cc)
    refused (Some capability) takes (Some h) picks source is =
        by_test (bit_and capabilities.0 (number_of capability) == number_of capability) refl is where
          by_test : (granted : Bool) → (bit_and capabilities.0 (number_of capability) == number_of capability) ≡ granted →
              (if granted then None else Some (expression.MissingCapabilities (alone capability))) ≡ Some source →
              IsNamedOf (StepFault m (infos_of infos) f (settings_of flags capabilities)) k source
          by_test true test reported = absurd (cc)
          by_test false test reported =
              subst (IsNamedOf (StepFault m (infos_of infos) f (settings_of flags capabilities)) k) (same_Some _ _ reported)
              (capability, refl, no_capability at takes (h, picks) (allows_alone flags capabilities capability ∙ test))

    -- without an error there is no fault
    no_bad_element : (needed : Option Capability) → (origin : Option ℕ) →
        index_refusal capabilities origin (option_map alone needed) ≡ None → needed ≡ None → ⊥
    no_bad_element needed origin is none =
        let P : Option Capability → Type 0 = λ v. index_refusal capabilities origin (option_map alone v) ≡ None in
        let reported = subst P none is in cc

    no_missing : (capability : Capability) (origin : Option ℕ) → IsWitness (StepOrigin m (infos_of infos) f index) origin →
        index_refusal capabilities origin (Some (alone capability)) ≡ None → (h : ℕ) → StepOrigin m (infos_of infos) f index h →
        allows (settings_of flags capabilities) capability ≡ false → ⊥
    no_missing capability None picks is h is_there lacks = picks h is_there
    no_missing capability (Some source) picks is h is_there lacks =
        let test : (bit_and capabilities.0 (number_of capability) == number_of capability) ≡ false =
        sym (allows_alone flags capabilities capability) ∙ lacks in
        let P : Bool → Type 0 = λ v. (if v then None else Some (expression.MissingCapabilities (alone capability))) ≡ None in
        let reported = subst P test is in cc

  module _ (types : List TypeResolution) (first : AreOfTheFirst (function_context m f) f.expressions types) (x : Expression)
      (is : IsExpressionAt f (length types) x) (earlier : OperandsBelow (length types) x) where
    within : length types < length f.expressions
    within = slice_get_within f.expressions (length types) x is

    base_below : (base index : ℕ) → x ≡ form.Access base index → base < length types
    base_below base index same = subst (OperandsBelow (length types)) same earlier 0 (0, Read) (omega arith)

    index_below : (base index : ℕ) → x ≡ form.Access base index → index < length f.expressions
    index_below base index same = omega (arith, within, subst (OperandsBelow (length types)) same earlier 1 (0, Read) (omega arith))

    module _ (flags : ValidationFlags) where
      abbrev IsHere : Cause → Type 0
      IsHere = StepFault m (infos_of infos) f (settings_of flags capabilities)

      -- an error of an access is a fault
      by_shape : (base index : ℕ) → x ≡ form.Access base index → (t : TypeResolution) →
          Derives (function_context m f) f.expressions base t →
          (inner : Option TypeInner) → inner_of m.types t ≡ inner →
          (source : ExpressionError) → base_refusal capabilities m.types (origin_at facts index) inner ≡ Some source →
          IsNamedOf IsHere (length types) source
      by_shape base index same t derives (Some (type.BindingArray element size)) shape source reported =
          refused (length types) index element flags (record {
            base = base;
            is_there = is ∙ ap Some same;
            resolution = t;
            derives =
                derives;
            size = size;
            is = shape;
          })
          (element_capability (found_inner (slice_get m.types element))) refl (origin_at facts index)
          (origins index (index_below base index same)) source reported
      by_shape base index same t derives inner shape source reported = absurd (cc)

      names_access : (y : Expression) → x ≡ y → (source : ExpressionError) →
          access_refusal capabilities m.types facts types y ≡ Some source → IsNamedOf IsHere (length types) source
      names_access (form.Access base index) same source reported =
          let t = typed (function_context m f) f.expressions types first base (base_below base index same) in
          let P : Option TypeResolution → Type 0 = λ v. base_refusal capabilities m.types (origin_at facts index)
          (option_and_then (inner_of m.types) v) ≡ Some source in
          by_shape base index same t.0 t.2 (inner_of m.types t.0) refl source (subst P t.1 reported)
      names_access y same source reported = absurd (cc)

      -- if an expression that indexes a binding array has no error, its index has none
      nothing_reported : (index element : ℕ) → access_refusal capabilities m.types facts types x ≡ None →
          (at : IndexesBindings m f (length types) index element) →
          (index < length f.expressions) × (index_refusal capabilities (origin_at facts index)
          (needed_for (found_inner (slice_get m.types element))) ≡ None)
      nothing_reported index element reported at =
          let same : x ≡ form.Access at.base index = same_Some _ _ (sym is ∙ at.is_there) in
          let t = typed (function_context m f) f.expressions types first at.base (base_below at.base index same) in
          let one : t.0 ≡ at.resolution = (types_are_unique (function_context m f) f.expressions at.base t.0 t.2).0
          at.resolution at.derives in
          let stored : slice_get types at.base ≡ Some at.resolution = t.1 ∙ ap Some one in
          let P : Expression → Type 0 = λ v. access_refusal capabilities m.types facts types v ≡ None in
          let Q : Option TypeResolution → Type 0 = λ v. base_refusal capabilities m.types (origin_at facts index)
          (option_and_then (inner_of m.types) v) ≡ None in
          let R : Option TypeInner → Type 0 = λ v. base_refusal capabilities m.types (origin_at facts index) v ≡ None in
          (index_below at.base index same, subst R at.is (subst Q stored (subst P same reported)))

    pub names_refusal : (source : ExpressionError) → access_refusal capabilities m.types facts types x ≡ Some source →
        NamesFault m infos f capabilities (error.Expression (length types) source)
    names_refusal source reported flags = names_access flags x refl source reported

    pub names_failure : (memory : Memory) (failure : ResolveError) →
        IsResultOf (function_context m f) f.expressions (length types) memory (Err failure) →
        NamesFault m infos f capabilities (untyped_error (length types) failure)
    names_failure memory failure reported flags =
        names_untyped (StepFault m (infos_of infos) f (settings_of flags capabilities)) (length types) memory failure
        (⊎_elim (λ refused. inl (untyped refused)) (λ out_of_memory. inr out_of_memory)
        (refused_or_out (function_context m f) f.expressions (length types) memory failure reported))

    pub sound : (resolution : TypeResolution) → Derives (function_context m f) f.expressions (length types) resolution →
        access_refusal capabilities m.types facts types x ≡ None → IsSound m infos f capabilities (length types)
    sound resolution derives reported flags cause about fault = at cause fault about where
      S : Cause → Type 0
      S = StepFault m (infos_of infos) f (settings_of flags capabilities)

      at : (cause : Cause) → S cause → IsOfTyping (length types) cause → ⊥
      at (Untyped e refusal) (untyped refused) same =
          (types_are_unique (function_context m f) f.expressions (length types) resolution derives).1 refusal
          (subst (λ v. IsRefused (function_context m f) f.expressions v refusal) same refused)
      at (MissingCapability e capability) (no_capability {index = index} {element = element} indexes takes origin lacks) same =
          let n = nothing_reported flags index element reported (subst (λ v. IndexesBindings m f v index element) same indexes) in
          let P : Option Capability → Type 0 = λ v. index_refusal capabilities (origin_at facts index) (option_map alone v) ≡ None in
          no_missing (length types) index element flags (subst (λ v. IndexesBindings m f v index element) same indexes) capability
          (origin_at facts index)
          (origins index n.0) (subst P takes n.1) origin.0 origin.1 lacks
      at (BindingArrayElement e) (bad_element {index = index} {element = element} indexes none) same =
          let n = nothing_reported flags index element reported (subst (λ v. IndexesBindings m f v index element) same indexes) in
          no_bad_element (length types) index element flags (subst (λ v. IndexesBindings m f v index element) same indexes)
          (element_capability (found_inner (slice_get m.types element))) (origin_at facts index) n.1 none
      at (NoResource e) fault about = about
      at (NonUniformControlFlow needs e disruptor) fault about = about
      at (CountFull e) fault about = about

  -- at the position of the next type
  module _ (types : List TypeResolution) (first : AreOfTheFirst (function_context m f) f.expressions types) (e : ℕ)
      (position : e ≡ length types) (x : Expression)
      (is : IsExpressionAt f e x) (earlier : OperandsBelow (length types) x) where
    is_there : IsExpressionAt f (length types) x
    is_there = subst (λ v. IsExpressionAt f v x) position is

    pub names_refusal_at : (source : ExpressionError) → access_refusal capabilities m.types facts types x ≡ Some source →
        NamesFault m infos f capabilities (error.Expression e source)
    names_refusal_at source reported =
        subst (λ v. NamesFault m infos f capabilities (error.Expression v source)) (sym position)
        (names_refusal types first x is_there earlier source reported)

    -- the outcome for the expression in any list that has it at this position is the outcome in the function
    pub reported_here : (context : Context) → context ≡ function_context m f →
        (memory : Memory) (result : Result TypeResolution ResolveError) →
        ((expressions : List Expression) → slice_get expressions (length types) ≡ Some x → AreOfTheFirst context expressions types →
        IsResultOf context expressions (length types) memory result) →
        IsResultOf (function_context m f) f.expressions (length types) memory result
    reported_here context same memory result reported =
        subst (λ v. IsResultOf v f.expressions (length types) memory result) same
        (reported f.expressions is_there (subst (λ v. AreOfTheFirst v f.expressions types) (sym same) first))

    pub names_failure_at : (memory : Memory) (failure : ResolveError) →
        IsResultOf (function_context m f) f.expressions (length types) memory (Err failure) →
        NamesFault m infos f capabilities (untyped_error e failure)
    names_failure_at memory failure reported =
        subst (λ v. NamesFault m infos f capabilities (untyped_error v failure)) (sym position)
        (names_failure types first x is_there earlier memory failure reported)

    pub sound_at : (memory : Memory) (resolution : TypeResolution) →
        IsResultOf (function_context m f) f.expressions (length types) memory (Ok resolution) →
        access_refusal capabilities m.types facts types x ≡ None → IsSound m infos f capabilities e
    sound_at memory resolution result reported = subst (IsSound m infos f capabilities) (sym position)
        (sound types first x is_there earlier resolution
        (derives_result (function_context m f) f.expressions (length types) memory resolution result) reported)

-- past the expressions there is no fault
pub sound_beyond : (m : Module) (infos : List FunctionInfo) (f : Function) (capabilities : Capabilities) (types : List TypeResolution) →
    length types ≡ length f.expressions →
    ((e : ℕ) → e < length types → IsSound m infos f capabilities e) → (e : ℕ) → IsSound m infos f capabilities e
sound_beyond m infos f capabilities types long each e flags cause about fault = each e (at cause fault about) flags cause about fault where
  S : Cause → Type 0
  S = StepFault m (infos_of infos) f (settings_of flags capabilities)

  below : (d : ℕ) (x : Expression) → IsExpressionAt f d x → d ≡ e → e < length types
  below d x is same = omega (arith, slice_get_within f.expressions d x is, same, long)

  at : (cause : Cause) → S cause → IsOfTyping e cause → e < length types
  at (Untyped d refusal) (untyped refused) same = below d refused.expression refused.is_there same
  at (MissingCapability d capability) (no_capability {index = index} indexes takes origin lacks) same =
      below d (form.Access indexes.base index) indexes.is_there same
  at (BindingArrayElement d) (bad_element {index = index} indexes none) same =
      below d (form.Access indexes.base index) indexes.is_there same
  at (NoResource d) fault about = absurd about
  at (NonUniformControlFlow needs d disruptor) fault about = absurd about
  at (CountFull d) fault about = absurd about
