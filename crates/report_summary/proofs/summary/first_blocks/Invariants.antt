use Rattle.std.proofs.Common.{string_bytes}
use Rattle.report_summary.specs.Summaries.{AreBlocks}
use Rattle.report_summary.proofs.summary.first_blocks.Given as goal

abbrev pub invariant-loop-index : goal.invariant-loop-index
invariant-loop-index l =
    AreBlocks l.module l.checked.detail.groups.now l.checked.detail.reasons.now l.index (string_bytes l.text)
