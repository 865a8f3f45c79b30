use Rattle.shader_overloads.specs.Remaining.{has_concrete_arguments}
use Rattle.shader_overloads.proofs.RegularLemmas.{numbers_left}
use Rattle.shader_overloads.proofs.regular.RegularTableTable.concrete.Goals as goal

pub returns-clause-rules : goal.returns-clause-rules
returns-clause-rules c =
    numbers_left c.args.self.now (has_concrete_arguments c.args._types.now) c.args.mask c.concrete_numbers.result c.bitand.result
    (λ number rule at. c.concrete_numbers.ensures c.args._types.now number rule at) c.bitand.ensures
