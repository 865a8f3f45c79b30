-- An info of the computed results meets the step equations, fits its function, and leaves no fault.
use Rattle.std.proofs.Common.{◌≡◌, ◌↔◌, sym, ap, subst, ◌∙◌, ℕ, ◌<◌, ◌^◌, All, List, Option}
use Rattle.std.proofs.Common.{Some, IsTrue, Bool, map, slice_get, slice_index, length, arith}
use Rattle.std.proofs.lemmas.List.{length-map, get_or-map}
use Rattle.std.proofs.lemmas.List.Elements.{All-contains}
use Rattle.std.proofs.lemmas.Option.{slice_get_within, get_or_from_slice_get}
use Rattle.std.specs.Int.{IsBitSet}
use Rattle.shader_analysis_spec.proofs.EarlierLemmas.{is_item}
use Rattle.shader_analysis_spec.specs.Counts.{count_of}
use Rattle.shader_analysis_spec.specs.Derivable.{AreTypes, function_context}
use Rattle.shader_analysis_spec.specs.Faults.{BindingArrayElement, Cause, CountFull, Disruptor, MissingCapability}
use Rattle.shader_analysis_spec.specs.Faults.{NoResource, NonUniformControlFlow, Settings, Untyped}
use Rattle.shader_analysis_spec.specs.StepFaults.{StepFault}
use Rattle.shader_analysis_spec.specs.Infos.{Info, IsWitness}
use Rattle.shader_analysis_spec.specs.Needs.{Need, bit_of_need}
use Rattle.shader_analysis_spec.specs.Program.{Function, Module}
use Rattle.shader_analysis_spec.specs.Steps.{MeetsSteps, StepExpressionNeed, StepKill, StepNeed, StepResult}
use Rattle.shader_pass_laws.proofs.Arguments.{typed_functions_have_arguments}
use Rattle.shader_pass_laws.proofs.Pairs.{collected_pairs_fit}
use Rattle.shader_pass_laws.specs.PairsFit.{FitStored}
use Rattle.shader_pass_laws.specs.Refused.{CountsFit}
use Rattle.shader_info.specs.Fit.{Fits, IsOfModule}
use Rattle.shader_info.specs.declared.info.ExpressionInfo.{ExpressionInfo}
use Rattle.shader_info.specs.declared.info.FunctionInfo.{FunctionInfo}
use Rattle.shader_ir.specs.Key.{FitsTypes}
use Rattle.shader_resolve.specs.Context.{context_of}
use Rattle.shader_resolve.specs.WellFormed.{ExpressionInRange, FunctionInRange}
use Rattle.shader_pass_laws.proofs.ResultLemmas.{expression_needs_of_the_step, kills_of_the_step, needs_of_the_step}
use Rattle.shader_pass_laws.proofs.ResultLemmas.{pairs_of_the_step, results_of_the_step}
use Rattle.shader_passes.proofs.OriginLemmas.{origins_of_the_step}
use Rattle.shader_passes.specs.Conditions.{EachFits, GlobalsWithin}
use Rattle.shader_passes.specs.Results.{computed_expression_needs, computed_kill, computed_needs, computed_origins, computed_pairs}
use Rattle.shader_passes.specs.Results.{computed_result}
use Rattle.shader_pass_laws.specs.OfTheStep.{HasUses}
use Rattle.shader_passes.specs.InfoOf.{info_of, infos_of}
use Rattle.shader_passes.specs.RecordedPairs.{SameMembers, info_pairs}
use Rattle.shader_analysis.proofs.PositionLemmas.{found_at}
use Rattle.shader_analysis.proofs.SizesLemmas.{types_of_module}
use Rattle.shader_analysis.proofs.FewNeeds.{few_expression_needs, few_needs}
use Rattle.shader_analysis.specs.Analyzable.{AreStored, IsAnalyzable}

-- the info records the computed results
pub record IsComputed (m : Module) (infos : List FunctionInfo) (f : Function) (info : FunctionInfo) : Type 0 where
  pub types : AreTypes (function_context m f) f.expressions (map (λ (e : ExpressionInfo). e.ty) info.expressions)
  pub fit : All (FitsTypes m.types) (map (λ (e : ExpressionInfo). e.ty) info.expressions)
  pub counts : (e : ℕ) → e < length f.expressions → slice_get (map (λ (e : ExpressionInfo). e.ref_count) info.expressions) e
      ≡ Some (count_of f e)
  pub origins : map (λ (e : ExpressionInfo). e.uniformity.non_uniform_result) info.expressions ≡ computed_origins m infos f
  pub expression_needs : map (λ (e : ExpressionInfo). e.uniformity.requirements.0) info.expressions ≡ computed_expression_needs m infos f
  pub result : info.uniformity.non_uniform_result ≡ computed_result m infos f
  pub needs : info.uniformity.requirements.0 ≡ computed_needs m infos f
  pub kills : info.may_kill ≡ computed_kill m infos f
  pub uses : HasUses m infos f (map (λ at. at.0) info.global_uses)
  pub pairs : SameMembers (info_pairs info) (computed_pairs infos f)

-- the globals that an analysable function names exist, and each stored info has an entry for each
pub globals_within : (m : Module) (f : Function) → FunctionInRange m f → GlobalsWithin m f
globals_within m f within e g is_there =
    (All-contains (ExpressionInRange m (context_of m f.local_variables f.arguments) f.expressions) f.expressions _ within.expressions
    (is_item f.expressions e _ is_there)).names

pub fit_stored : (m : Module) (infos : List FunctionInfo) → AreStored m infos → FitStored m infos
fit_stored m infos stored = record {
  function = λ c info is. found_at m.functions c (omega (arith, stored.there, slice_get_within infos c info is));
  fits = stored.fit;
}

pub each_fits : (m : Module) (infos : List FunctionInfo) → AreStored m infos → EachFits m infos
each_fits m infos stored c info is = let r = (fit_stored m infos stored).function c info is in (stored.fit c r.0 info r.1 is).global_uses

all_of_map : (m : Module) (infos : List ExpressionInfo) → All (IsOfModule m) (map (λ (e : ExpressionInfo). e.ty) infos) →
    All (λ (e : ExpressionInfo). IsOfModule m e.ty) infos
all_of_map m infos all k d lt =
    subst (IsOfModule m) (get_or-map (λ (e : ExpressionInfo). e.ty) infos k d d.ty lt)
    (all k d.ty (omega (arith, lt, length-map infos (λ (e : ExpressionInfo). e.ty))))

module _ (m : Module) (infos : List FunctionInfo) (f : Function) (on : IsAnalyzable m infos f) (info : FunctionInfo)
    (is : IsComputed m infos f info) where
  long : length info.expressions ≡ length f.expressions
  long = sym (length-map info.expressions (λ (e : ExpressionInfo). e.ty)) ∙ is.types.complete

  pub meets_steps : MeetsSteps m (infos_of infos) f (info_of info)
  meets_steps = record {
    tables = record {
      counts = length-map info.expressions (λ (e : ExpressionInfo). e.ref_count) ∙ long;
      non_uniform = length-map info.expressions (λ (e : ExpressionInfo). e.uniformity.non_uniform_result) ∙ long;
      expression_needs = length-map info.expressions (λ (e : ExpressionInfo). e.uniformity.requirements.0) ∙ long;
      global_uses = is.uses.1;
      few_uses = is.uses.2;
      few_expression_needs = λ e. let P : List ℕ → Type 0 = λ v. slice_index v e < 16 in
          subst P (sym is.expression_needs) (few_expression_needs m infos f e);
      few_needs = let P : ℕ → Type 0 = λ v. v < 16 in subst P (sym is.needs) (few_needs m infos f);
    };
    types = is.types;
    counts = is.counts;
    uses = is.uses.0;
    pairs = pairs_of_the_step infos f (info_pairs info) is.pairs;
    origins = λ e o is_there. origins_of_the_step m infos f on.operands e o (ap (λ v. slice_get v e) (sym is.origins) ∙ is_there);
    result = let P : Option ℕ → Type 0 = λ v. IsWitness (StepResult m (infos_of infos) f) v in
        subst P (sym is.result) (results_of_the_step m infos f on.operands);
    kills =
        let P : Bool → Type 0 = λ v. IsTrue v ↔ StepKill (infos_of infos) f (info_of info) in
        subst P (sym is.kills) (kills_of_the_step m infos f (info_of info) (sym is.origins));
    expression_needs = λ n e lt.
        let P : List ℕ → Type 0 = λ v. IsBitSet (slice_index v e) (bit_of_need n) ↔ StepExpressionNeed (infos_of infos) f n e in
        subst P (sym is.expression_needs) (expression_needs_of_the_step m infos f n e lt);
    needs = λ n. let P : ℕ → Type 0 = λ v. IsBitSet v (bit_of_need n) ↔ StepNeed (infos_of infos) f n in
        subst P (sym is.needs) (needs_of_the_step m infos f n);
  }

  pub fits_function : Fits m f info
  fits_function =
      let pairs = collected_pairs_fit m infos f (fit_stored m infos on.stored) (globals_within m f on.handles)
      (typed_functions_have_arguments m f _ is.types)
      info.sampling_set.keys info.sampling.keys is.pairs in
      record {
        global_uses = sym (length-map info.global_uses (λ at. at.0)) ∙ is.uses.1;
        expressions = long;
        types = all_of_map m info.expressions
            (types_of_module (function_context m f) f.expressions m
            (map (λ (e : ExpressionInfo). e.ty) info.expressions) is.fit is.types.derived);
        known = pairs.0;
        with_arguments = pairs.1;
      }

-- the faults that the analysis rejects are all faults
pub no_fault : (m : Module) (infos : List Info) (f : Function) (settings : Settings) →
    ((e : ℕ) (refusal : _) → StepFault m infos f settings (Untyped e refusal) → ⊥) →
    ((e : ℕ) (capability : _) → StepFault m infos f settings (MissingCapability e capability) → ⊥) →
    ((e : ℕ) → StepFault m infos f settings (BindingArrayElement e) → ⊥) →
    ((e : ℕ) → StepFault m infos f settings (NoResource e) → ⊥) →
    ((needs : Need → Bool) (e : ℕ) (flow_disruptor : Disruptor) →
    StepFault m infos f settings (NonUniformControlFlow needs e flow_disruptor) → ⊥) →
    ((e : ℕ) → StepFault m infos f settings (CountFull e) → ⊥) → (cause : Cause) → StepFault m infos f settings cause → ⊥
no_fault m infos f settings typed capable element resources undisrupted counted (Untyped e refusal) h = typed e refusal h
no_fault m infos f settings typed capable element resources undisrupted counted (MissingCapability e capability) h = capable e capability h
no_fault m infos f settings typed capable element resources undisrupted counted (BindingArrayElement e) h = element e h
no_fault m infos f settings typed capable element resources undisrupted counted (NoResource e) h = resources e h
no_fault m infos f settings typed capable element resources undisrupted counted (NonUniformControlFlow needs e flow_disruptor) h =
    undisrupted needs e flow_disruptor h
no_fault m infos f settings typed capable element resources undisrupted counted (CountFull e) h = counted e h

pub counts_fit : (f : Function) (counts : List ℕ) → ((e : ℕ) → e < length f.expressions → slice_get counts e ≡ Some (count_of f e)) →
    ((e : ℕ) → e < length counts → slice_index counts e < 2 ^ 64) → CountsFit f
counts_fit f counts are small e lt =
    let is = are e lt in
    let P : ℕ → Type 0 = λ v. v < 2 ^ 64 in
    subst P (get_or_from_slice_get counts e (count_of f e) 0 is) (small e (slice_get_within counts e (count_of f e) is))
