use Rattle.std.proofs.Common.{◌≤◌, ◌^◌, ℕ, Option, IfSome, subst}
use Rattle.shader_analysis_spec.specs.Counts.{count_of}
use Rattle.shader_analysis_spec.specs.Faults.{count_full}
use Rattle.shader_analysis.proofs.valid.analyzer.passes.check_counts.Goals as goal

pub returns-in-Some-clause-fault : goal.returns-in-Some-clause-fault
returns-in-Some-clause-fault c = λ m infos settings.
    let P : Option ℕ → Type 0 = λ v. IfSome v (λ e. 2 ^ 64 ≤ count_of c.args.function.now e) in
    count_full (subst P c.in-Some.is c.requires)
