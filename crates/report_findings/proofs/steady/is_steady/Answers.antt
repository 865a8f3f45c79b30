use Rattle.std.proofs.Common.{◌∙◌}
use Rattle.report_findings.proofs.SteadyLemmas.{found_steady}
use Rattle.report_findings.proofs.steady.is_steady.Goals as goal

pub returns : goal.returns
returns c =
    found_steady c.args.module.now c.args.function.now c.as_slice.result.now c.args.expression c.is_steady_by.result
    (c.as_slice.ensures.value ∙ c.in_ok-steady.ensures) c.is_steady_by.ensures
