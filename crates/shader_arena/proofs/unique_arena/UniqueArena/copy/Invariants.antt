use Rattle.std.proofs.Common.{◌≡◌, take}
use Rattle.shader_arena.proofs.unique_arena.UniqueArena.copy.Given as goal

abbrev pub invariant-loop-position : goal.invariant-loop-position
invariant-loop-position g l = l.copy ≡ take l.position l.self
