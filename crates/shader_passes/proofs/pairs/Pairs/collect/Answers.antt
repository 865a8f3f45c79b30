use Rattle.shader_passes.proofs.PairLemmas.{after}
use Rattle.shader_passes.proofs.pairs.Pairs.collect.Goals as goal

pub returns-clause-members : goal.returns-clause-members
returns-clause-members c =
    after _ _ _ _ _ c.requires.none c.in_ok-sample_all.ensures.members c.in_ok-add_callees.ensures.members
