use Rattle.std.proofs.Common.{sym, subst, ◌∙◌}
use Rattle.shader_analysis_spec.specs.StepFaults.{StepFault}
use Rattle.shader_pass_laws.proofs.MissingResources.{missing_resources_are_faults}
use Rattle.shader_passes.specs.Causes.{IsNamed}
use Rattle.shader_passes.specs.InfoOf.{infos_of}
use Rattle.shader_analysis.proofs.PositionLemmas.{passed_on}
use Rattle.shader_analysis.proofs.valid.analyzer.passes.sampling_pairs.Goals as goal

pub returns-in_err-check_resources-clause-fault : goal.returns-in_err-check_resources-clause-fault
returns-in_err-check_resources-clause-fault c =
    let infos = c.args.infos.now in
    let f = c.args.function.now in
    let missing = c.in_err-check_resources.ensures.missing in
    let found = sym c.in_ok-missing.ensures.missing_resource ∙ missing.1 in
    passed_on _ c.from_residual-in_err-check_resources.result c.from_residual-in_err-check_resources.ensures.1 (λ m settings.
    subst (IsNamed (StepFault m (infos_of infos) f settings)) (sym missing.2)
    ((missing_resources_are_faults m infos f settings).0 missing.0 found))

pub returns-clause-resources : goal.returns-clause-resources
returns-clause-resources c = λ m settings e.
    let infos = c.args.infos.now in
    let f = c.args.function.now in
    let found = sym c.in_ok-missing.ensures.missing_resource ∙ c.in_ok-check_resources.ensures.ok in
    (missing_resources_are_faults m infos f settings).1 found e
