use Rattle.std.proofs.Common.{◌∙◌, ap, sym, subst, Err}
use Rattle.std.specs.Io.KnownBytes.{Consumes}
use Rattle.report_answers.specs.Reports.{IsReport}
use Rattle.report.proofs.RunLemmas.{answered, begun, begun_as_long, refused, refused_as_long, spelled}
use Rattle.report.proofs.program.run.Given.{Over}
use Rattle.report.proofs.program.run.Goals as goal
use Rattle.report.proofs.program.run.Goals.{After-drop-input-in-Ok-of-2}

-- the report is on what was read
read : (g : Over) (c : After-drop-input-in-Ok-of-2 g) →
    Consumes (g.R.Source.remaining c.args.reader.now) (g.R.Source.remaining c.read_input.new.reader) c.as_slice-bytes.result.now
read g c = subst (λ input. Consumes (g.R.Source.remaining c.args.reader.now) (g.R.Source.remaining c.read_input.new.reader) input)
    (sym c.as_slice-bytes.ensures.value) c.in-Ok.ensures.bytes

report : (g : Over) (c : After-drop-input-in-Ok-of-2 g) →
    IsReport c.args.options c.as_slice-bytes.result.now c.in-Ok-of-2.report.outcome c.in-Ok-of-2.report.text.items
report g c = c.in-Ok-of-2.ensures c.in-Ok-of.ensures

pub returns-in-Ok-of-2-clause-json : goal.returns-in-Ok-of-2-clause-json
returns-in-Ok-of-2-clause-json g c =
    spelled _ _ _ _ _ _ _ _ (read g c) c.in-Ok.ensures.end (report g c) c.write_report.ensures.answer

pub returns-in-Ok-of-2-clause-answer : goal.returns-in-Ok-of-2-clause-answer
returns-in-Ok-of-2-clause-answer g c =
    answered _ _ _ _ _ _ _ _ _ (read g c) c.in-Ok.ensures.end (report g c) c.write_report.ensures.answer

pub returns-in-Ok-of-2-clause-refusal : goal.returns-in-Ok-of-2-clause-refusal
returns-in-Ok-of-2-clause-refusal g c =
    refused _ _ _ _ _ _ _ _ _ _ _ _ (read g c) c.in-Ok.ensures.end (report g c) c.write_report.ensures.refusal

pub returns-in-Ok-of-2-clause-beginning : goal.returns-in-Ok-of-2-clause-beginning
returns-in-Ok-of-2-clause-beginning g c =
    begun _ _ _ _ _ _ _ _ _ (read g c) c.in-Ok.ensures.end (report g c) c.write_report.ensures.beginning

pub returns-in-Err-TooLong-clause-refusal : goal.returns-in-Err-TooLong-clause-refusal
returns-in-Err-TooLong-clause-refusal g c =
    let (read, consumed, exactly) = c.read_input.ensures.read in
    refused_as_long _ _ _ _ _ _ _ _ read _ consumed (exactly.0 (c.in-Err-TooLong.is ∙ ap Err c.in-Err-TooLong.field-0-is)) c.refuse.ensures.refusal

pub returns-in-Err-TooLong-clause-beginning : goal.returns-in-Err-TooLong-clause-beginning
returns-in-Err-TooLong-clause-beginning g c =
    let (read, consumed, exactly) = c.read_input.ensures.read in
    begun_as_long _ _ _ _ _ read _ consumed (exactly.0 (c.in-Err-TooLong.is ∙ ap Err c.in-Err-TooLong.field-0-is)) c.refuse.ensures.beginning
