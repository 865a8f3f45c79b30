use Rattle.std.proofs.Common.{◌≡◌, ◌++◌, map, fold}
use Rattle.shader_passes.specs.RecordedPairs.{AreLent, HaveArguments, SameMembers, pairs_of, pairs_in_caller, sampling_pair}
use Rattle.shader_passes.specs.MissingResource.{pair_missed}
use Rattle.shader_passes.proofs.pairs.Pairs.add_open_pairs.Given as goal

abbrev pub invariant-loop-pair : goal.invariant-loop-pair
invariant-loop-pair l =
    (goal.iterator-loop-pair).can_next l.pair-iterator
    × (goal.iterator-loop-pair).is_finite l.pair-iterator
    × SameMembers (pairs_in_caller l.function l.arguments (map sampling_pair l.pair-iterator) ++ pairs_of l.self)
    (pairs_in_caller l.function l.arguments (map sampling_pair l.open_pairs.keys) ++ pairs_of l.fn.self)
    × (fold (pair_missed l.function l.arguments) l.self.missing_resource (map sampling_pair l.pair-iterator)
    ≡ fold (pair_missed l.function l.arguments) l.fn.self.missing_resource (map sampling_pair l.open_pairs.keys))
    × (HaveArguments l.fn.self.sampling.now.keys → HaveArguments l.self.sampling.now.keys)
    × AreLent l.fn.self l.self
