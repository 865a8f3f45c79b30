use Rattle.std.proofs.Common.{◌∙◌}
use Rattle.shader_type_text.proofs.InsertionLemmas.{are_backward}
use Rattle.typer_answers.proofs.InsertedTrees.{conversion_is}
use Rattle.typer_answers.proofs.conversion.conversion.Goals as goal

pub automatically_converts_to-requires-clause-backward : goal.automatically_converts_to-requires-clause-backward
automatically_converts_to-requires-clause-backward c = are_backward c.insert_type-2.new.types c.in_ok-to.ensures.flat

pub returns-clause-converts : goal.returns-clause-converts
returns-clause-converts c =
    c.automatically_converts_to.ensures ∙ conversion_is c.insert_type.new.types c.insert_type-2.new.types c.args.from c.args.to
    c.in_ok-from.from c.in_ok-to.to
    c.in_ok-from.ensures.in_arena c.in_ok-to.ensures.retained c.in_ok-to.ensures.in_arena
