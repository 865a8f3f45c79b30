use Rattle.shader_overloads.proofs.FormLemmas.{ldexp_built}
use Rattle.shader_overloads.proofs.RegularLemmas.{ok_same}
use Rattle.shader_overloads.proofs.mathfunction.lists.ldexp.Goals as goal

pub from_rules-requires-clause-count : goal.from_rules-requires-clause-count
from_rules-requires-clause-count c = (ldexp_built c.in_ok-rules.rules.items c.in_ok-rules.ensures).few

pub from_rules-requires-clause-no_struct : goal.from_rules-requires-clause-no_struct
from_rules-requires-clause-no_struct c = (ldexp_built c.in_ok-rules.rules.items c.in_ok-rules.ensures).no_struct

pub returns : goal.returns
returns c = ok_same c.from_rules.result _ _ c.from_rules.ensures (ldexp_built c.in_ok-rules.rules.items c.in_ok-rules.ensures).is
