use Rattle.std.proofs.Common.{◌≡◌, ◌++◌, drop, string_bytes}
use Rattle.report_names.specs.Names.{fitting_text}
use Rattle.report_names.proofs.names.fitting_text.Given as goal

abbrev pub invariant-loop-character : goal.invariant-loop-character
invariant-loop-character l =
    string_bytes l.text ++ fitting_text l.room (drop l.character-index l.characters) ≡ fitting_text l.columns l.characters
