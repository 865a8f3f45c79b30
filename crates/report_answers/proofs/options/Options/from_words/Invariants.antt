use Rattle.std.proofs.Common.{◌≡◌, ◌≤◌, drop}
use Rattle.report_answers.specs.Options.{options_from, start}
use Rattle.report_answers.proofs.options.Options.from_words.Given as goal

abbrev pub invariant-loop-word : goal.invariant-loop-word
invariant-loop-word l = record {
  within : l.index ≤ l.word-index;
  left : options_from l.options l.index (drop l.word-index l.words) ≡ options_from start 0 l.words;
}
