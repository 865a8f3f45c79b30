use Rattle.shader_overloads.specs.Remaining.{accepts}
use Rattle.shader_overloads.proofs.RegularLemmas.{numbers_left}
use Rattle.shader_overloads.proofs.regular.RegularTableTable.accepted.Goals as goal

pub returns-clause-rules : goal.returns-clause-rules
returns-clause-rules c =
    numbers_left c.args.self.now (accepts c.args._types.now c.args.i c.args.ty.now) c.args.mask c.accepted_numbers.result c.bitand.result
    (λ number rule at. c.accepted_numbers.ensures c.args._types.now number rule at) c.bitand.ensures
