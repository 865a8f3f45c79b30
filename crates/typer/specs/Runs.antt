-- Outcomes of runs.
use Rattle.std.specs.Prelude.{◌≡◌, ℕ, List}
use Rattle.typer_answers.specs.declared.answer.Outcome.{Outcome}
use Rattle.typer_answers.specs.declared.answer.Outcome.TheVariants as outcomes
use Rattle.typer_answers.specs.Answers.{IsAnswer}
use Rattle.program_io.specs.declared.reading.InputError.{InputError}
use Rattle.program_io.specs.declared.reading.InputError.TheVariants as inputs
use Rattle.typer.specs.declared.status.Status.{Status}
use Rattle.typer.specs.declared.status.Status.TheVariants.{Done, BadLine, ReadFailed, WriteFailed, OutOfMemory, TooLong}

-- the most bytes that an input can have
abbrev pub most_input_bytes : ℕ
most_input_bytes = 1048576

abbrev pub status_code : Status → ℕ
status_code Done = 0
status_code BadLine = 2
status_code ReadFailed = 3
status_code WriteFailed = 4
status_code OutOfMemory = 5
status_code TooLong = 6

abbrev pub input_status : InputError → Status
input_status inputs.ReadFailed = ReadFailed
input_status inputs.TooLong = TooLong
input_status inputs.OutOfMemory = OutOfMemory

abbrev pub outcome_status : Outcome → Status
outcome_status outcomes.Done = Done
outcome_status outcomes.BadLine = BadLine

-- the text and the status are the answer to all bytes of an input
abbrev pub AreAnswer : List ℕ → List ℕ → Status → Type 0
AreAnswer input text status = (outcome : Outcome) × IsAnswer input text outcome × (status ≡ outcome_status outcome)

-- the guarantee of a run for statuses 0 and 2
abbrev pub OnAnswered : Status → Type 0 → Type 0
OnAnswered Done P = P
OnAnswered BadLine P = P
OnAnswered ReadFailed P = Unit {0}
OnAnswered WriteFailed P = Unit {0}
OnAnswered OutOfMemory P = Unit {0}
OnAnswered TooLong P = Unit {0}

-- the guarantee of a run for statuses 3, 5 and 6
abbrev pub OnUnanswered : Status → Type 0 → Type 0
OnUnanswered Done P = Unit {0}
OnUnanswered BadLine P = Unit {0}
OnUnanswered ReadFailed P = P
OnUnanswered WriteFailed P = Unit {0}
OnUnanswered OutOfMemory P = P
OnUnanswered TooLong P = P
