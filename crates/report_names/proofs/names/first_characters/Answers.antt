use Rattle.std.proofs.lemmas.Iterator.{items_from_collect, YieldsList-from_chars, YieldsList-from_take}
use Rattle.report_names.proofs.names.first_characters.Goals as goal

pub returns : goal.returns
returns c = items_from_collect _ c.collect.ensures.ran (YieldsList-from_take 41 (YieldsList-from_chars c.args.text.now c.utf8.text cc) cc)
