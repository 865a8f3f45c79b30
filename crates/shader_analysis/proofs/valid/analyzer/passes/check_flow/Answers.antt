use Rattle.std.proofs.Common.{sym, subst, ◌∙◌}
use Rattle.shader_analysis_spec.specs.Faults.{flow_violation}
use Rattle.shader_analysis_spec.specs.StepFaults.{StepFault}
use Rattle.shader_pass_laws.proofs.FlowViolation.{flow_violations_are_faults}
use Rattle.shader_passes.specs.Causes.{IsNamed, settings_of}
use Rattle.shader_passes.specs.InfoOf.{infos_of}
use Rattle.shader_analysis.proofs.FlowViolationFaults.{no_flow_violation, none_checked}
use Rattle.shader_analysis.proofs.valid.analyzer.passes.check_flow.Goals.{in_default, in-Some+else-checks_flow}
use Rattle.shader_analysis.proofs.valid.analyzer.passes.check_flow.Goals as goal

pub returns-then-checks_flow-clause-fault : goal.returns-then-checks_flow-clause-fault
returns-then-checks_flow-clause-fault c = λ capabilities.
    let m = c.args.«module».now in
    let infos = c.args.infos.now in
    let f = c.args.function.now in
    let settings = settings_of c.args.flags capabilities in
    let checks = c.checks_flow.ensures.on c.if-checks_flow.true in
    let found = sym c.requires.found.first ∙ c.in-Some.is in
    let violation = (flow_violations_are_faults m infos f settings c.requires.operands).0 c.in-Some.flow_violation found in
    subst (IsNamed (StepFault m (infos_of infos) f settings)) (sym c.flow_violation_error.ensures)
    (violation.0, flow_violation checks.0 checks.1 violation.1)

pub returns-clause-undisrupted : goal.returns-clause-undisrupted
returns-clause-undisrupted c = λ capabilities.
    let m = c.args.«module».now in
    let infos = c.args.infos.now in
    let f = c.args.function.now in
    let settings = settings_of c.args.flags capabilities in
    elim c.match-found.branch [
      | in-Some+else-checks_flow w ↦
          none_checked m infos f settings (λ on governs. w.checks_flow.ensures.off w.if-checks_flow.false (on, governs))
      | in_default w ↦
          no_flow_violation m infos f settings c.requires.operands
          (sym c.requires.found.first ∙ w.in_default.is)
    ]
