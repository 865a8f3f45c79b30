use Rattle.std.proofs.Common.{◌+◌, ◌*◌}
use Rattle.report_names.proofs.types.+types.Given as goal

abbrev pub decreases-inner_text : goal.decreases-inner_text
decreases-inner_text l = 2 * l.nested + 1

abbrev pub decreases-type_text : goal.decreases-type_text
decreases-type_text l = 2 * l.nested
