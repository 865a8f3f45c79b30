use Rattle.std.proofs.Common.{slice_get}
use Rattle.report_expressions.proofs.writing.add_made.Goals as goal

pub add_call-requires-in_default-clause-name : goal.add_call-requires-in_default-clause-name
add_call-requires-in_default-clause-name c =
    (c.requires.reached, c.maker_word.ensures c.args.e (slice_get c.args.source.now.function.now.expressions c.args.e))
