use Rattle.std.proofs.Common.{length}
use Rattle.shader_expression_types.proofs.ListLemmas.{base_earlier}
use Rattle.shader_expression_types.proofs.bindings.access_refusal.Goals as goal

pub stored_inner-inner-requires-clause-there : goal.stored_inner-inner-requires-clause-there
stored_inner-inner-requires-clause-there c =
    base_earlier (length c.args.records.now) c.args.expression.now c.in-Access.base c.in-Access.index c.in-Access.is c.requires.operands
