use Rattle.std.proofs.Common.{All, ◌≡◌, ◌<◌, ℕ, Some, refl, sym, ap, subst, ◌∙◌, length, map, slice_get}
use Rattle.std.proofs.lemmas.List.{length-map, length-replicate}
use Rattle.shader_analysis_spec.specs.Counts.{count_of}
use Rattle.shader_analysis_spec.specs.Derivable.{AreTypes, function_context}
use Rattle.shader_analysis_spec.specs.Faults.{BindingArrayElement, MissingCapability, Untyped}
use Rattle.shader_info.specs.declared.info.ExpressionInfo.{ExpressionInfo}
use Rattle.shader_info.specs.declared.info.FunctionInfo.{FunctionInfo}
use Rattle.shader_ir.specs.Key.{FitsTypes}
use Rattle.shader_ir.specs.declared.proc.type_resolution.TypeResolution.{TypeResolution}
use Rattle.shader_pass_laws.proofs.Counts.{full_counts_are_faults}
use Rattle.shader_pass_laws.specs.OfTheStep.{HasUses}
use Rattle.shader_passes.proofs.RecordLemmas.{needs_are, origins_are}
use Rattle.shader_passes.proofs.UsesLemmas.{bits_long}
use Rattle.shader_passes.specs.Causes.{settings_of}
use Rattle.shader_passes.specs.Counting.{bits_in, counts_in}
use Rattle.shader_passes.specs.Facts.{Fact}
use Rattle.shader_passes.specs.InfoOf.{infos_of}
use Rattle.shader_passes.specs.Records.{facts_in, types_in}
use Rattle.shader_passes.specs.Results.{computed_facts}
use Rattle.shader_analysis.proofs.InfoLemmas.{IsComputed, counts_fit, each_fits, fits_function, globals_within, meets_steps, no_fault}
use Rattle.shader_analysis.proofs.PositionLemmas.{passed_on}
use Rattle.shader_analysis.proofs.valid.analyzer.find_info.Goals as goal

pub returns-in_err-record_expressions-clause-fault : goal.returns-in_err-record_expressions-clause-fault
returns-in_err-record_expressions-clause-fault c =
    passed_on _ c.from_residual-in_err-record_expressions.result c.from_residual-in_err-record_expressions.ensures.1
    (c.in_err-record_expressions.ensures.named c.args.flags)

pub returns-in_err-sampling_pairs-clause-fault : goal.returns-in_err-sampling_pairs-clause-fault
returns-in_err-sampling_pairs-clause-fault c =
    passed_on _ c.from_residual-in_err-sampling_pairs.result c.from_residual-in_err-sampling_pairs.ensures.1
    (c.in_err-sampling_pairs.ensures.fault c.args.«module».now (settings_of c.args.flags c.args.capabilities))

pub returns-in_err-found-clause-fault : goal.returns-in_err-found-clause-fault
returns-in_err-found-clause-fault c =
    passed_on _ c.from_residual-in_err-found.result c.from_residual-in_err-found.ensures.1
    (c.in_err-found.ensures.fault c.args.«module».now (infos_of c.args.infos.now) (settings_of c.args.flags c.args.capabilities))

pub returns-in_err-check_flow-clause-fault : goal.returns-in_err-check_flow-clause-fault
returns-in_err-check_flow-clause-fault c =
    passed_on _ c.from_residual-in_err-check_flow.result c.from_residual-in_err-check_flow.ensures.1
    (c.in_err-check_flow.ensures.fault c.args.capabilities)

-- the records and the roots before the walk, as the definitions see them
facts_before : (c : goal.After-drop-roots-2) → facts_in c.record_expressions.new.records.items c.as_slice.result.now
    ≡ computed_facts c.args.«module».now c.args.infos.now c.args.function.now
facts_before c =
    ap (facts_in c.record_expressions.new.records.items) c.as_slice.ensures.value ∙ c.in_ok-record_expressions.ensures.facts

-- the same after it
facts_after_it : (c : goal.After-drop-roots-2) → facts_in c.walked.new.records.items c.record_expressions.new.roots.items
    ≡ computed_facts c.args.«module».now c.args.infos.now c.args.function.now
facts_after_it c =
    ap (facts_in c.walked.new.records.items) (sym c.as_slice.ensures.value) ∙ (c.in_ok-found.ensures.counted.facts ∙ facts_before c)

-- there are as many roots as records
as_many : (c : goal.After-drop-roots-2) → length c.walked.new.records.items ≡ length c.record_expressions.new.roots.items
as_many c =
    let ty : ExpressionInfo → TypeResolution = λ e. e.ty in
    sym (length-map c.walked.new.records.items ty) ∙ (ap length c.in_ok-found.ensures.counted.types
    ∙ (length-map c.record_expressions.new.records.items ty ∙ c.in_ok-record_expressions.ensures.long))

-- there are uses of each global
globals_are : (c : goal.After-drop-roots-2) → length c.in_ok-uses.uses.items ≡ length c.args.«module».now.global_variables
globals_are c =
    let uses = c.in_ok-uses.uses.items in
    sym (bits_long uses) ∙ (ap length c.in_ok-uses.ensures ∙ length-replicate (length c.args.«module».now.global_variables) 0)

-- the returned info
abbrev recorded : goal.After-drop-roots-2 → FunctionInfo
recorded c = record {
  available_stages = c.args.info.now.available_stages;
  uniformity = c.in_ok-found.found.uniformity;
  may_kill = c.in_ok-found.found.may_kill;
  sampling_set = c.sampling_pairs.new.sampling_set;
  global_uses = c.from.result;
  expressions = c.from-2.result;
  sampling = c.sampling_pairs.new.sampling;
  dual_source_blending = c.args.info.now.dual_source_blending;
}

counts_are : (c : goal.After-drop-roots-2) → (e : ℕ) → e < length c.args.function.now.expressions →
    slice_get (counts_in c.walked.new.records.items) e ≡ Some (count_of c.args.function.now e)
counts_are c = c.in_ok-found.ensures.counted.counts refl

found : (c : goal.After-drop-roots-2) → IsComputed c.args.«module».now c.args.infos.now c.args.function.now (recorded c)
found c =
    let m = c.args.«module».now in
    let infos = c.args.infos.now in
    let f = c.args.function.now in
    let records = c.walked.new.records.items in
    let roots = c.record_expressions.new.roots.items in
    let walked = c.in_ok-found.ensures.found m (facts_before c) in
    record {
      types = subst (AreTypes (function_context m f) f.expressions) (sym (ap types_in c.from-2.ensures ∙ c.in_ok-found.ensures.counted.types))
          c.in_ok-record_expressions.ensures.types;
      fit = subst (All (FitsTypes m.types)) (sym (ap types_in c.from-2.ensures ∙ c.in_ok-found.ensures.counted.types)) c.in_ok-record_expressions.ensures.fit;
      counts = λ e lt. ap (λ v. slice_get (counts_in v) e) c.from-2.ensures ∙ counts_are c e lt;
      origins = ap (map (λ (e : ExpressionInfo). e.uniformity.non_uniform_result)) c.from-2.ensures
          ∙ (origins_are records roots (as_many c) ∙ ap (map (λ (fact : Fact). fact.origin)) (facts_after_it c));
      expression_needs = ap (map (λ (e : ExpressionInfo). e.uniformity.requirements.0)) c.from-2.ensures
          ∙ (needs_are records roots (as_many c) ∙ ap (map (λ (fact : Fact). fact.requirements.0)) (facts_after_it c));
      result = walked.origin;
      needs = walked.needs;
      kills = walked.may_kill;
      uses = subst (λ v. HasUses m infos f (bits_in v)) (sym c.from.ensures)
          (c.in_ok-found.ensures.uses m c.requires.analyzable.operands (globals_within m f c.requires.analyzable.handles)
          (each_fits m infos c.requires.analyzable.stored) (globals_are c) (facts_before c));
      pairs = c.in_ok-sampling_pairs.ensures.members;
    }

pub returns-clause-steps : goal.returns-clause-steps
returns-clause-steps c = meets_steps c.args.«module».now c.args.infos.now c.args.function.now c.requires.analyzable (recorded c) (found c)

pub returns-clause-fits : goal.returns-clause-fits
returns-clause-fits c = fits_function c.args.«module».now c.args.infos.now c.args.function.now c.requires.analyzable (recorded c) (found c)

pub returns-clause-clean : goal.returns-clause-clean
returns-clause-clean c =
    let m = c.args.«module».now in
    let infos = c.args.infos.now in
    let f = c.args.function.now in
    let settings = settings_of c.args.flags c.args.capabilities in
    let sound = c.in_ok-record_expressions.ensures.sound in
    no_fault m (infos_of infos) f settings (λ e refusal. sound e c.args.flags (Untyped e refusal) refl)
    (λ e capability. sound e c.args.flags (MissingCapability e capability) refl)
    (λ e. sound e c.args.flags (BindingArrayElement e) refl) (c.in_ok-sampling_pairs.ensures.resources m settings)
    (c.in_ok-check_flow.ensures.undisrupted c.args.capabilities)
    ((full_counts_are_faults m infos f settings).1 c.requires.analyzable.handles
    (counts_fit f (counts_in c.walked.new.records.items) (counts_are c) (λ e lt. c.in_ok-found.ensures.counted.small e)))
