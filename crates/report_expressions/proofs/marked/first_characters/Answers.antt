use Rattle.std.proofs.lemmas.Iterator.{text_from_collect, YieldsList-from_chars, YieldsList-from_take}
use Rattle.report_expressions.proofs.marked.first_characters.Goals as goal

pub returns : goal.returns
returns c =
    text_from_collect _ c.collect.ensures.ran (YieldsList-from_take c.args.count (YieldsList-from_chars c.args.text.now c.utf8.text cc) cc)
