-- How a call for a report ends.
use Rattle.std.specs.Prelude.{◌≡◌, ℕ, List, Option, Some, None, IsSome}
use Rattle.report_answers.specs.Reports.{IsReport}
use Rattle.report_answers.specs.declared.options.Options.{Options}
use Rattle.report_answers.specs.declared.reports.Outcome.{Outcome}
use Rattle.report_answers.specs.declared.reports.Outcome.TheVariants as outcomes
use Rattle.pethuvazh.specs.Copies.{IsCopy, IsUntouched}
use Rattle.pethuvazh.specs.Flags.{options_of}
use Rattle.pethuvazh.specs.declared.status.ReportStatus.{ReportStatus}
use Rattle.pethuvazh.specs.declared.status.ReportStatus.TheVariants.{Accepted, Refused, BadFlags, OutOfMemory, NotModule}

abbrev pub report_code : ReportStatus → ℕ
report_code Accepted = 0
report_code Refused = 1
report_code BadFlags = 2
report_code OutOfMemory = 5
report_code NotModule = 6

abbrev pub outcome_status : Outcome → ReportStatus
outcome_status outcomes.Accepted = Accepted
outcome_status outcomes.Refused = Refused
outcome_status outcomes.NotModule = NotModule

-- the flags give options, and the text is the report on the input under these
pub record IsCopiedReport (asked : Option Options) (json before after : List ℕ) (told : ℕ) (outcome : Outcome) : Type 0 where
  pub options : Options
  pub given : asked ≡ Some options
  pub text : List ℕ
  pub report : IsReport options json outcome text
  pub copy : IsCopy text before after told

abbrev Ends : Option Options → List ℕ → List ℕ → List ℕ → ℕ → ReportStatus → Type 0
Ends asked json before after told Accepted = IsCopiedReport asked json before after told outcomes.Accepted
Ends asked json before after told Refused = IsCopiedReport asked json before after told outcomes.Refused
Ends asked json before after told NotModule = IsCopiedReport asked json before after told outcomes.NotModule
Ends asked json before after told BadFlags = (asked ≡ None) × IsUntouched before after told
Ends asked json before after told OutOfMemory = IsSome asked × IsUntouched before after told

abbrev pub EndsWith : ℕ → List ℕ → List ℕ → List ℕ → ℕ → ReportStatus → Type 0
EndsWith flags json before after told status = Ends (options_of flags) json before after told status

-- the number is that of the outcome
pub record IsEnd (flags : ℕ) (json before after : List ℕ) (told : ℕ) (code : ℕ) : Type 0 where
  pub status : ReportStatus
  pub is : code ≡ report_code status
  pub ends : EndsWith flags json before after told status
