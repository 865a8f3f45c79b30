use Rattle.std.proofs.Common.{◌+◌, ◌*◌}
use Rattle.report_expressions.specs.Pieces.{AreSaid}
use Rattle.report_expressions.proofs.writing.+writing.Given as goal

abbrev pub decreases-write_operand : goal.decreases-write_operand
decreases-write_operand l = 3 * l.handle + 2

abbrev pub decreases-write_parts : goal.decreases-write_parts
decreases-write_parts l = 3 * l.end + 1

abbrev pub decreases-write_part : goal.decreases-write_part
decreases-write_part l = 3 * l.end

abbrev pub invariant-write_parts-loop-part : goal.invariant-write_parts-loop-part
invariant-write_parts-loop-part l = AreSaid l.source l.pieces.items
