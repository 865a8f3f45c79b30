use Rattle.std.proofs.Common.{length, ap, sym, arith}
use Rattle.std.proofs.lemmas.List.{take_rest}
use Rattle.typer_answers.proofs.LineSteps.{line_at, line_whole}
use Rattle.typer_answers.proofs.lines.LinesIterator.next.Goals as goal

pub returns-in-Some-clause-steps : goal.returns-in-Some-clause-steps
returns-in-Some-clause-steps c = simp take_rest (line_at c.args.self.now.rest.now c.in-Some.at c.in-Some.ensures)

pub returns-in-Some-clause-goes : goal.returns-in-Some-clause-goes
returns-in-Some-clause-goes c =
    record { on = λ _. (tt, tt, omega (arith, ap length (returns-in-Some-clause-steps c))); keeps = tt; rests = λ _. tt }

pub returns-in-None-clause-steps : goal.returns-in-None-clause-steps
returns-in-None-clause-steps c =
    line_whole c.args.self.now.rest.now (sym c.if-is_empty.ensures) c.in-None.ensures

pub returns-in-None-clause-goes : goal.returns-in-None-clause-goes
returns-in-None-clause-goes c =
    record { on = λ _. (tt, tt, omega (arith, ap length (returns-in-None-clause-steps c))); keeps = tt; rests = λ _. tt }
