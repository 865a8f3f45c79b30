use Rattle.std.proofs.lemmas.List.Elements.{same_from_all_zip}
use Rattle.shader_passes.proofs.PairLemmas.{copies_known}
use Rattle.shader_passes.proofs.pairs.Pairs.copy_known_pairs.Goals as goal

pub returns-clause-members : goal.returns-clause-members
returns-clause-members c =
    copies_known c.args.self.now.sampling_set.now.keys c.in_ok-self.field-0.keys c.args.known.now.keys c.args.self.now.sampling.now.keys c.requires
    (same_from_all_zip _ _ _ c.in_ok-self.ensures.cases (λ x y e. e))
