use Rattle.std.proofs.Common.{rules}
use Rattle.shader_analysis.proofs.PositionLemmas.{passed_on}
use Rattle.shader_analysis.proofs.valid.validation.validate.Goals as goal
use Rattle.shader_analysis.specs.Processed.{site_of}
use Rattle.shader_analysis.specs.Validity.{in_analysis}
use Rattle.shader_passes.specs.Causes.{settings_of}
use Rattle.shader_resolve.specs.WellFormed.{IsWellFormed}

pub returns-in_err-lay_out-clause-refused : goal.returns-in_err-lay_out-clause-refused
returns-in_err-lay_out-clause-refused c =
    passed_on _ c.from_residual.result c.from_residual.ensures.1
    (c.in_err-lay_out.ensures.refused (settings_of c.args.flags c.args.capabilities))

pub returns-else-is_fault-clause-refused : goal.returns-else-is_fault-clause-refused
returns-else-is_fault-clause-refused c =
    let well_formed : IsWellFormed c.args.module.now = search rules in (
      well_formed,
      in_analysis c.in_ok-lay_out.ensures.laid_out (site_of c.in-Err-analyze_module.error.place) c.in-Err-analyze_module.ensures.reached,
    )
