use Rattle.shader_resolve.proofs.FaultyLocationLemmas.{err-is-first, err-is_there, none-decides}
use Rattle.shader_resolve.proofs.well_formed.locations.first_fault.Goals as goal

pub returns-clause-none : goal.returns-clause-none
returns-clause-none c = rw (c.err.ensures.value, c.find_in_module.ensures) (none-decides c.args.«module».now)

pub returns-clause-first : goal.returns-clause-first
returns-clause-first c = rw (c.err.ensures.value, c.find_in_module.ensures) (err-is-first c.args.«module».now)

pub returns-clause-is_there : goal.returns-clause-is_there
returns-clause-is_there c = rw (c.err.ensures.value, c.find_in_module.ensures) (err-is_there c.args.«module».now)
