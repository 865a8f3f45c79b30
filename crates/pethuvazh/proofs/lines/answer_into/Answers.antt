use Rattle.std.proofs.Common.{List, ℕ, subst, sym}
use Rattle.std.specs.Prelude.{string_bytes}
use Rattle.pethuvazh.specs.Copies.{IsCopy}
use Rattle.pethuvazh.specs.Lines.{EndsWith}
use Rattle.pethuvazh.specs.declared.status.LinesStatus.{LinesStatus}
use Rattle.pethuvazh.proofs.Written.{written_answer}
use Rattle.pethuvazh.proofs.lines.answer_into.Goals as goal

pub returns-in-Ok : goal.returns-in-Ok
returns-in-Ok c =
    let lines = c.args.lines.now in
    let before = c.args.text.now in
    let after = c.copy.new.buffer in
    let told = c.copy.new.length in
    let answer = c.in-Ok.answer in
    let copy = subst (λ (text : List ℕ). IsCopy text before after told) c.as_bytes.ensures.value c.copy.ensures in
    subst (λ (status : LinesStatus). EndsWith lines before after told status) (sym c.of.ensures)
    (written_answer lines before after told answer.outcome (string_bytes answer.text) c.in-Ok.ensures copy)
