use Rattle.std.proofs.Common.{length, ap, sym, ◌∙◌, arith, eqb}
use Rattle.std.proofs.lemmas.List.{take_rest}
use Rattle.shader_type_text.specs.Pieces.{pieces_of}
use Rattle.shader_type_text.proofs.Splits.{split_at, split_whole}
use Rattle.shader_type_text.proofs.pieces.PiecesIterator.next.Goals as goal

pub returns-in-Some-clause-steps : goal.returns-in-Some-clause-steps
returns-in-Some-clause-steps c =
    let sep = c.self.inside.separator in
    let rest = c.in_ok-rest.rest.now in
    sym c.self.view_is ∙ ap (pieces_of sep) c.in_ok-rest.was
    ∙ simp take_rest (split_at (λ b. eqb b sep) rest c.in-Some.at c.in-Some.ensures)

pub returns-in-None-clause-steps : goal.returns-in-None-clause-steps
returns-in-None-clause-steps c =
    sym c.self.view_is ∙ ap (pieces_of c.self.inside.separator) c.in_ok-rest.was ∙ split_whole _ c.in_ok-rest.rest.now c.in-None.ensures

pub returns-in-Some-clause-goes : goal.returns-in-Some-clause-goes
returns-in-Some-clause-goes c =
    record { on = λ _. (tt, tt, omega (arith, ap length (returns-in-Some-clause-steps c))); keeps = tt; rests = λ _. tt }

pub returns-in-None-clause-goes : goal.returns-in-None-clause-goes
returns-in-None-clause-goes c =
    record { on = λ _. (tt, tt, omega (arith, ap length (returns-in-None-clause-steps c))); keeps = tt; rests = λ _. tt }
