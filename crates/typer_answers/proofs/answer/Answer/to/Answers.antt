use Rattle.std.proofs.Common.{◌≡◌, ◌+◌, [], length, ap, arith, rules}
use Rattle.std.specs.String.{string_bytes}
use Rattle.typer_answers.specs.Lines.{lines_left}
use Rattle.typer_answers.proofs.AnswerSteps.{length-lines_of, no_line}
use Rattle.typer_answers.proofs.answer.Answer.to.Goals as goal

pub overflow_add-number : goal.overflow_add-number
overflow_add-number c =
    let left = ap length c.in-Some.ensures.steps in
    omega (arith, left, length-lines_of c.args.input.now)

pub returns : goal.returns
returns c =
    let left = lines_left c.loop-line.line-iterator in
    let none : left ≡ [] = search rules in
    no_line c.args.input.now (string_bytes c.loop-line.text) (c.loop-line.number + 1) left c.loop-line.invariant.answer none
