use Rattle.std.proofs.Common.{ℕ, List, refl, subst, take}
use Rattle.std.specs.Io.KnownBytes.{Appends}
use Rattle.std.specs.String.{string_bytes}
use Rattle.typer.specs.declared.status.Status.{Status}
use Rattle.typer_answers.specs.Answers.{IsAnswer}
use Rattle.typer.specs.Runs.{AreAnswer, outcome_status}
use Rattle.program_io.proofs.Whole.{whole_input}
use Rattle.typer.proofs.program.run.Goals as goal

pub returns-clause-beginning : goal.returns-clause-beginning
returns-clause-beginning g c =
    let outcome = c.in-Ok-to.answer.outcome in
    let text = string_bytes c.in-Ok-to.answer.text in
    let before = g.W.Sink.contents c.args.writer.now in
    let after = g.W.Sink.contents c.write_all.new.writer in
    let answer : IsAnswer c.in-Ok.input.items text outcome =
    subst (λ bytes. IsAnswer bytes text outcome) c.as_slice.ensures.value c.in-Ok-to.ensures in
    let written = c.in-Err-write_all.ensures.err in
    let some : Appends before after (take written.0 text) =
    subst (λ bytes. Appends before after (take written.0 bytes)) c.as_bytes.ensures.value written.1 in
    λ _. whole_input (g.R.Source.remaining c.args.reader.now) (g.R.Source.remaining c.read_input.new.reader) c.in-Ok.input.items
    (λ input. (reported : List ℕ) × (status : Status) × (n : ℕ) × AreAnswer input reported status × Appends before after (take n reported))
    c.in-Ok.ensures.bytes c.in-Ok.ensures.end (text, outcome_status outcome, written.0, (outcome, answer, refl), some)
