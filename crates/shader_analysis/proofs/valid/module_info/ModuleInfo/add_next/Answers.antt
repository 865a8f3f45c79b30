use Rattle.std.proofs.Common.{rules, ◌≡◌, sym, subst, arith, List, Some, length, slice_get}
use Rattle.shader_analysis_spec.specs.StepFaults.{StepFault}
use Rattle.shader_analysis_spec.specs.Steps.{MeetsSteps}
use Rattle.shader_info.specs.declared.info.FunctionInfo.{FunctionInfo}
use Rattle.shader_passes.specs.Causes.{settings_of}
use Rattle.shader_passes.specs.InfoOf.{info_of, infos_of}
use Rattle.shader_analysis.proofs.Growing.{all_of, next_is_stored}
use Rattle.shader_analysis.proofs.valid.module_info.ModuleInfo.add_next.Goals as goal

pub returns-clause-stored : goal.returns-clause-stored
returns-clause-stored c =
    let next : c.from_index-handle.result ≡ length c.args.self.now.functions = search rules in
    next_is_stored c.args.module.now c.args.self.now c.add_found.new.self c.from_index-handle.result c.process_into.new.info next
    (omega (arith, next, c.requires.more)) c.requires.stored c.in_ok-process_into.ensures.fits c.in_ok-add_found.ensures.ok

pub returns-clause-added : goal.returns-clause-added
returns-clause-added c =
    let m = c.args.module.now in
    let settings = settings_of c.args.flags c.args.capabilities in
    let found = c.in_ok-process_into.ensures in
    let next : c.from_index-handle.result ≡ length c.args.self.now.functions = search rules in
    let over_all = all_of c.args.self.now.functions c.from_index-handle.result next in
    record {
      info = c.process_into.new.info;
      added = c.in_ok-add_found.ensures.ok;
      steps = λ f is. subst (λ (infos : List FunctionInfo). MeetsSteps m (infos_of infos) f (info_of c.process_into.new.info)) over_all
          (found.steps f (subst (λ v. slice_get m.functions v ≡ Some f) (sym next) is));
      fits = λ f is. found.fits f (subst (λ v. slice_get m.functions v ≡ Some f) (sym next) is);
      with_arguments = found.with_arguments;
      unrestricted = record { stages = found.stages; one_source = found.one_source };
      clean = λ f cause is. subst (λ (infos : List FunctionInfo). StepFault m (infos_of infos) f settings cause → ⊥) over_all
          (found.clean f cause (subst (λ v. slice_get m.functions v ≡ Some f) (sym next) is));
    }
