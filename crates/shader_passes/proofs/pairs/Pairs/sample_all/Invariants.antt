use Rattle.std.proofs.Common.{◌≡◌, ◌++◌, fold}
use Rattle.std.specs.List.{flat_map, enumerate_from}
use Rattle.shader_arena.specs.Positions.{items_of}
use Rattle.shader_passes.specs.RecordedPairs.{AreLent, HaveArguments, SameMembers, pairs_of, sampled_resources}
use Rattle.shader_passes.specs.MissingResource.{sample_missed}
use Rattle.shader_passes.proofs.pairs.Pairs.sample_all.Given as goal

abbrev pub invariant-loop-handle : goal.invariant-loop-handle
invariant-loop-handle l =
    (goal.iterator-loop-handle).can_next l.handle-iterator
    × (goal.iterator-loop-handle).is_finite l.handle-iterator
    × SameMembers (flat_map (sampled_resources l.function) (items_of l.handle-iterator) ++ pairs_of l.self)
    (flat_map (sampled_resources l.function) l.function.expressions ++ pairs_of l.fn.self)
    × (fold (sample_missed l.function) l.self.missing_resource l.handle-iterator
    ≡ fold (sample_missed l.function) l.fn.self.missing_resource (enumerate_from 0 l.function.expressions))
    × (HaveArguments l.fn.self.sampling.now.keys → HaveArguments l.self.sampling.now.keys)
    × AreLent l.fn.self l.self
