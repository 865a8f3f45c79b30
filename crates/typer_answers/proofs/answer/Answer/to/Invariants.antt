use Rattle.std.proofs.Common.{◌≡◌, ◌+◌, length}
use Rattle.std.specs.String.{string_bytes}
use Rattle.typer_answers.specs.Lines.{lines_left, lines_of}
use Rattle.typer_answers.proofs.AnswerSteps.{IsBegun}
use Rattle.typer_answers.proofs.answer.Answer.to.Given as goal

-- the text so far, and the answer to the remaining lines
abbrev pub invariant-loop-line : goal.invariant-loop-line
invariant-loop-line l = record {
  answer : IsBegun l.input (string_bytes l.text) (l.number + 1) (lines_left l.line-iterator);
  count : l.number + length (lines_left l.line-iterator) ≡ length (lines_of l.input);
}
