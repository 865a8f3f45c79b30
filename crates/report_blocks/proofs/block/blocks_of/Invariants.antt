use Rattle.std.proofs.Common.{string_bytes, take}
use Rattle.report_blocks.specs.Blocks.{AreBlocks}
use Rattle.report_blocks.proofs.block.blocks_of.Given as goal

abbrev pub invariant-loop-index : goal.invariant-loop-index
invariant-loop-index l = AreBlocks l.«module» l.detail.explains l.diagnostics (take l.index-index l.indexes) (string_bytes l.text)
