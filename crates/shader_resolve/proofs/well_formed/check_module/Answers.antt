use Rattle.std.proofs.Common.{sym, subst}
use Rattle.shader_resolve.proofs.ModuleLemmas.{fault-is_there, module-sound, ok-decides, Sound}
use Rattle.shader_resolve.specs.WellFormed.{Lacks}
use Rattle.shader_resolve.proofs.well_formed.check_module.Goals as goal

pub returns-clause-ok : goal.returns-clause-ok
returns-clause-ok c =
    let checked = c.args.«module».now in
    ok-decides checked c.check_parts.result (subst (λ answer. Sound answer (Lacks checked)) (sym c.check_parts.ensures)
    (module-sound checked))

pub returns-clause-fault : goal.returns-clause-fault
returns-clause-fault c =
    let checked = c.args.«module».now in
    fault-is_there checked c.check_parts.result (subst (λ answer. Sound answer (Lacks checked)) (sym c.check_parts.ensures)
    (module-sound checked))
