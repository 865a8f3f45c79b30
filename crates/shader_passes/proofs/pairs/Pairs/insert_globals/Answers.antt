use Rattle.shader_passes.proofs.PairLemmas.{puts_known}
use Rattle.shader_passes.proofs.pairs.Pairs.insert_globals.Goals as goal

pub returns-clause-members : goal.returns-clause-members
returns-clause-members c = puts_known c.args.pair c.args.self.now.sampling_set.now.keys c.insert.new.self.keys c.args.self.now.sampling.now.keys
    c.in_ok-insert.field-0 c.in_ok-insert.ensures.keys c.in_ok-insert.ensures.added
