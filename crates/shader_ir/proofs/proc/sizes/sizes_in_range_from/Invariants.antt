use Rattle.std.proofs.Common.{◌↔◌}
use Rattle.shader_ir.specs.Sizes.{AreTypeSizesInRangeFrom}
use Rattle.shader_ir.proofs.proc.sizes.sizes_in_range_from.Given as goal

-- the remaining types decide as all do
abbrev pub invariant-loop-position : goal.invariant-loop-position
invariant-loop-position l = AreTypeSizesInRangeFrom l.ctx l.position ↔ AreTypeSizesInRangeFrom l.ctx l.first
