use Rattle.shader_resolve.proofs.PointerLemmas.{accesses, loads, parts}
use Rattle.shader_resolve.proofs.laws.pointers_are_followed.Goals as goal

pub returns-clause-loads : goal.returns-clause-loads
returns-clause-loads c = loads

pub returns-clause-accesses : goal.returns-clause-accesses
returns-clause-accesses c = accesses

pub returns-clause-parts : goal.returns-clause-parts
returns-clause-parts c = parts
