use Rattle.std.proofs.Common.{subst, sym}
use Rattle.shader_analysis_spec.specs.Faults.{Cause}
use Rattle.shader_analysis_spec.specs.StepFaults.{StepFault}
use Rattle.shader_analysis_spec.specs.Steps.{MeetsSteps}
use Rattle.shader_info.specs.Fit.{Fits}
use Rattle.shader_passes.specs.Causes.{IsNamed, settings_of}
use Rattle.shader_passes.specs.InfoOf.{info_of, infos_of}
use Rattle.shader_analysis.proofs.AnalyzableLemmas.{analyzable, reported_at}
use Rattle.shader_analysis.specs.Analyzable.{AreStored}
use Rattle.shader_analysis.proofs.valid.module_info.ModuleInfo.process_into.Goals as goal

pub find_info-requires : goal.find_info-requires
find_info-requires c = record {
  analyzable = analyzable c.args.module.now c.requires.well_formed c.args.location c.function_at-function.result.now
      c.function_at-function.ensures
      c.infos_before-infos.result.now
      (subst (AreStored c.args.module.now) (sym c.infos_before-infos.ensures) c.requires.stored.stored);
  new = c.requires.new;
}

pub returns-in-Ok-clause-steps : goal.returns-in-Ok-clause-steps
returns-in-Ok-clause-steps c =
    reported_at c.args.module.now (λ infos f. MeetsSteps c.args.module.now (infos_of infos) f (info_of c.find_info.new.info))
    c.args.self.now c.args.location
    c.infos_before-infos.result.now c.function_at-function.result.now c.infos_before-infos.ensures c.function_at-function.ensures
    c.in-Ok.ensures.steps

pub returns-in-Ok-clause-fits : goal.returns-in-Ok-clause-fits
returns-in-Ok-clause-fits c =
    reported_at c.args.module.now (λ infos f. Fits c.args.module.now f c.find_info.new.info) c.args.self.now c.args.location
    c.infos_before-infos.result.now c.function_at-function.result.now c.infos_before-infos.ensures c.function_at-function.ensures
    c.in-Ok.ensures.fits

pub returns-in-Ok-clause-clean : goal.returns-in-Ok-clause-clean
returns-in-Ok-clause-clean c = λ f cause is_f.
    reported_at c.args.module.now (λ infos g. (reported : Cause) →
    StepFault c.args.module.now (infos_of infos) g (settings_of c.args.flags c.args.capabilities) reported →
    ⊥) c.args.self.now c.args.location
    c.infos_before-infos.result.now c.function_at-function.result.now c.infos_before-infos.ensures c.function_at-function.ensures
    c.in-Ok.ensures.clean f is_f cause

pub returns-in-Err-clause-fault : goal.returns-in-Err-clause-fault
returns-in-Err-clause-fault c =
    reported_at c.args.module.now (λ infos f. IsNamed (StepFault c.args.module.now (infos_of infos) f
    (settings_of c.args.flags c.args.capabilities)) c.in-Err.cause) c.args.self.now c.args.location
    c.infos_before-infos.result.now c.function_at-function.result.now c.infos_before-infos.ensures c.function_at-function.ensures
    c.in-Err.ensures.fault
