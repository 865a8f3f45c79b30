use Rattle.shader_passes.specs.RecordedPairs.{pairs_of}
use Rattle.shader_passes.proofs.PairLemmas.{both_kinds}
use Rattle.shader_passes.proofs.pairs.Pairs.add_info_pairs.Goals as goal

pub returns-clause-members : goal.returns-clause-members
returns-clause-members c = both_kinds c.args.function.now c.args.arguments.now c.args.info.now.sampling_set.keys
    c.args.info.now.sampling.keys (pairs_of c.args.self.now) (pairs_of c.add_known_pairs.new.self) (pairs_of c.add_open_pairs.new.self)
    c.in_ok-add_known_pairs.ensures.members c.in_ok-add_open_pairs.ensures.members
