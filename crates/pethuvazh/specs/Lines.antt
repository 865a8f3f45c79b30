-- How a call for answers to lines ends.
use Rattle.std.specs.Prelude.{◌≡◌, ◌<◌, ℕ, List, length}
use Rattle.typer_answers.specs.Answers.{IsAnswer}
use Rattle.typer_answers.specs.declared.answer.Outcome.{Outcome}
use Rattle.typer_answers.specs.declared.answer.Outcome.TheVariants as outcomes
use Rattle.pethuvazh.specs.Copies.{IsCopy, IsUntouched}
use Rattle.pethuvazh.specs.declared.status.LinesStatus.{LinesStatus}
use Rattle.pethuvazh.specs.declared.status.LinesStatus.TheVariants.{Done, BadLine, OutOfMemory, TooLong}

-- the most bytes that lines may have
abbrev most_bytes : ℕ
most_bytes = 1048576

abbrev pub lines_code : LinesStatus → ℕ
lines_code Done = 0
lines_code BadLine = 2
lines_code OutOfMemory = 5
lines_code TooLong = 6

abbrev pub lines_status : Outcome → LinesStatus
lines_status outcomes.Done = Done
lines_status outcomes.BadLine = BadLine

-- the text is the answer to the lines
pub record IsCopiedAnswer (lines before after : List ℕ) (told : ℕ) (outcome : Outcome) : Type 0 where
  pub text : List ℕ
  pub answer : IsAnswer lines text outcome
  pub copy : IsCopy text before after told

abbrev pub EndsWith : List ℕ → List ℕ → List ℕ → ℕ → LinesStatus → Type 0
EndsWith lines before after told Done = IsCopiedAnswer lines before after told outcomes.Done
EndsWith lines before after told BadLine = IsCopiedAnswer lines before after told outcomes.BadLine
EndsWith lines before after told OutOfMemory = IsUntouched before after told
EndsWith lines before after told TooLong = (most_bytes < length lines) × IsUntouched before after told

-- the number is that of the outcome
pub record IsEnd (lines before after : List ℕ) (told : ℕ) (code : ℕ) : Type 0 where
  pub status : LinesStatus
  pub is : code ≡ lines_code status
  pub ends : EndsWith lines before after told status
