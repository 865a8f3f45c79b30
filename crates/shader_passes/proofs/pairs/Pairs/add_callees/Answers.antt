use Rattle.std.proofs.Common.{sym}
use Rattle.shader_ir.specs.Occurs.{statements}
use Rattle.shader_passes.specs.RecordedPairs.{pairs_of}
use Rattle.shader_passes.proofs.PairLemmas.{no_misses, same_without_calls}
use Rattle.shader_passes.proofs.pairs.Pairs.add_callees.Goals as goal

pub returns-else-calls-clause-members : goal.returns-else-calls-clause-members
returns-else-calls-clause-members c = same_without_calls c.args.infos.now c.args.function.now (statements c.args.function.now.body)
    (pairs_of c.args.self.now) (c.requires c.if-calls.false)

pub returns-else-calls-clause-missing_resource : goal.returns-else-calls-clause-missing_resource
returns-else-calls-clause-missing_resource c = sym (no_misses c.args.infos.now c.args.function.now c.args.self.now.missing_resource
    (statements c.args.function.now.body) (c.requires c.if-calls.false))
