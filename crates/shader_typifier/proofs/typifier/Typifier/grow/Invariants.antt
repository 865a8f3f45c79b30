use Rattle.std.proofs.Common.{◌≡◌, ◌≤◌, ◌<◌, ◌+◌, All, take, length}
use Rattle.shader_ir.specs.Key.{FitsTypes}
use Rattle.shader_typifier.specs.Grown.{Grows}
use Rattle.shader_typifier.proofs.typifier.Typifier.grow.Given as goal

-- the types computed so far come after those stored before
abbrev pub invariant-loop-position : goal.invariant-loop-position
invariant-loop-position l = record {
  reached : length l.self ≡ l.position;
  behind : length l.fn.self ≤ l.position;
  most : length l.fn.self ≤ l.fn.handle → l.position ≤ l.fn.handle + 1;
  idle : l.fn.handle < length l.fn.self → l.self ≡ l.fn.self;
  retained : take (length l.fn.self) l.self ≡ l.fn.self;
  grown : Grows l.context l.expressions l.fn.self l.self;
  fits : All (FitsTypes l.context.types) l.self;
}
