use Rattle.shader_overloads.proofs.FormLemmas.{insert_bits_built}
use Rattle.shader_overloads.proofs.RegularLemmas.{ok_same}
use Rattle.shader_overloads.proofs.mathfunction.lists.insert_bits.Goals as goal

pub from_rules-requires-clause-count : goal.from_rules-requires-clause-count
from_rules-requires-clause-count c = (insert_bits_built c.in_ok-rules.rules.items c.in_ok-rules.ensures).few

pub from_rules-requires-clause-no_struct : goal.from_rules-requires-clause-no_struct
from_rules-requires-clause-no_struct c = (insert_bits_built c.in_ok-rules.rules.items c.in_ok-rules.ensures).no_struct

pub returns : goal.returns
returns c = ok_same c.from_rules.result _ _ c.from_rules.ensures (insert_bits_built c.in_ok-rules.rules.items c.in_ok-rules.ensures).is
