use Rattle.std.proofs.Common.{subst, sym}
use Rattle.shader_resolve.specs.WellFormed.{IsWellFormed}
use Rattle.shader_samples.proofs.WellFormed.{well_formed}
use Rattle.typer_answers.proofs.samples.sample_report.Goals as goal

pub report_module-requires : goal.report_module-requires
report_module-requires c = subst IsWellFormed (sym c.in_ok-module.ensures) (well_formed c.args.sample)
