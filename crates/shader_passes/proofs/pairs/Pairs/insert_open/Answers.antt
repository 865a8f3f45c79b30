use Rattle.shader_passes.proofs.PairLemmas.{puts_open, stays_open}
use Rattle.shader_passes.proofs.pairs.Pairs.insert_open.Goals as goal

pub returns-clause-members : goal.returns-clause-members
returns-clause-members c = puts_open (record { image = c.args.image; sampler = c.args.sampler }) c.args.self.now.sampling_set.now.keys
    c.args.self.now.sampling.now.keys c.insert.new.self.keys
    c.in_ok-insert.field-0 c.in_ok-insert.ensures.keys c.in_ok-insert.ensures.added

pub returns-clause-with_arguments : goal.returns-clause-with_arguments
returns-clause-with_arguments c = stays_open (record { image = c.args.image; sampler = c.args.sampler }) c.args.self.now.sampling.now.keys
    c.insert.new.self.keys
    c.in_ok-insert.field-0 c.in_ok-insert.ensures.keys c.in_ok-insert.ensures.added c.requires
