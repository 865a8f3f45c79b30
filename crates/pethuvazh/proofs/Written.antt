-- How calls end that write a text, by its outcome.
use Rattle.std.proofs.Common.{◌≡◌, ℕ, List}
use Rattle.std.specs.Prelude.{Some}
use Rattle.report_answers.specs.Reports.{IsReport}
use Rattle.report_answers.specs.declared.options.Options.{Options}
use Rattle.report_answers.specs.declared.reports.Outcome.{Outcome}
use Rattle.report_answers.specs.declared.reports.Outcome.TheVariants as outcomes
use Rattle.typer_answers.specs.Answers.{IsAnswer}
use Rattle.typer_answers.specs.declared.answer.Outcome as lines
use Rattle.typer_answers.specs.declared.answer.Outcome.TheVariants as lines_outcomes
use Rattle.pethuvazh.specs.Copies.{IsCopy}
use Rattle.pethuvazh.specs.Flags.{options_of}
use Rattle.pethuvazh.specs.Lines as of_lines
use Rattle.pethuvazh.specs.Reports.{EndsWith, outcome_status}

pub written_report : (flags : ℕ) (json before after : List ℕ) (told : ℕ) (options : Options) (outcome : Outcome) (text : List ℕ)
    → options_of flags ≡ Some options → IsReport options json outcome text → IsCopy text before after told
    → EndsWith flags json before after told (outcome_status outcome)
written_report flags json before after told options outcomes.Accepted text given report copy =
    record { options = options; given = given; text = text; report = report; copy = copy }
written_report flags json before after told options outcomes.Refused text given report copy =
    record { options = options; given = given; text = text; report = report; copy = copy }
written_report flags json before after told options outcomes.NotModule text given report copy =
    record { options = options; given = given; text = text; report = report; copy = copy }

pub written_answer : (input before after : List ℕ) (told : ℕ) (outcome : lines.Outcome) (text : List ℕ)
    → IsAnswer input text outcome → IsCopy text before after told
    → of_lines.EndsWith input before after told (of_lines.lines_status outcome)
written_answer input before after told lines_outcomes.Done text answer copy = record { text = text; answer = answer; copy = copy }
written_answer input before after told lines_outcomes.BadLine text answer copy = record { text = text; answer = answer; copy = copy }
