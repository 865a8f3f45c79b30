-- The outcome of a run.
use Rattle.std.specs.Prelude.{◌≡◌, ℕ, Bool, true, false, not, List, take, Option}
use Rattle.std.specs.Io.KnownBytes.{Appends, Keeps}
use Rattle.shader_analysis_spec.specs.Program.{Module}
use Rattle.report_answers.specs.Reports.{IsOutput}
use Rattle.report_answers.specs.declared.options.Options.{Options}
use Rattle.report_answers.specs.declared.reports.Outcome.{Outcome}
use Rattle.report_answers.specs.declared.reports.Outcome.TheVariants as outcomes
use Rattle.report.specs.declared.status.Status.{Status}
use Rattle.report.specs.declared.status.Status.TheVariants.{Accepted, Refused, BadUsage, ReadFailed, WriteFailed}
use Rattle.report.specs.declared.status.Status.TheVariants.{OutOfMemory, NotModule}

abbrev pub status_code : Status → ℕ
status_code Accepted = 0
status_code Refused = 1
status_code BadUsage = 2
status_code ReadFailed = 3
status_code WriteFailed = 4
status_code OutOfMemory = 5
status_code NotModule = 6

abbrev pub verdict : Bool → Status
verdict true = Accepted
verdict false = Refused

abbrev pub outcome_status : Outcome → Status
outcome_status outcomes.Accepted = Accepted
outcome_status outcomes.Refused = Refused
outcome_status outcomes.NotModule = NotModule

-- the written text is the report on a module, with the members or lines that the JSON of an input has beside it
pub record IsAnswerOf (options : Options) (input : List ℕ) (m : Module) (status : Status) (written : List ℕ) : Type 0 where
  pub accepted : Bool
  pub reported : IsOutput options input m accepted written
  pub ended : status ≡ verdict accepted

-- a clause about statuses 0 and 1
abbrev pub OnAnswered : Status → Type 0 → Type 0
OnAnswered Accepted P = P
OnAnswered Refused P = P
OnAnswered BadUsage P = Unit {0}
OnAnswered ReadFailed P = Unit {0}
OnAnswered WriteFailed P = Unit {0}
OnAnswered OutOfMemory P = Unit {0}
OnAnswered NotModule P = Unit {0}

-- a clause about statuses 3 and 5
abbrev pub OnUnanswered : Status → Type 0 → Type 0
OnUnanswered Accepted P = Unit {0}
OnUnanswered Refused P = Unit {0}
OnUnanswered BadUsage P = Unit {0}
OnUnanswered ReadFailed P = P
OnUnanswered WriteFailed P = Unit {0}
OnUnanswered OutOfMemory P = P
OnUnanswered NotModule P = Unit {0}

-- a clause about status 6
abbrev pub OnNotModule : Status → Type 0 → Type 0
OnNotModule Accepted P = Unit {0}
OnNotModule Refused P = Unit {0}
OnNotModule BadUsage P = Unit {0}
OnNotModule ReadFailed P = Unit {0}
OnNotModule WriteFailed P = Unit {0}
OnNotModule OutOfMemory P = Unit {0}
OnNotModule NotModule P = P

-- a clause about all statuses but 6
abbrev pub UnlessNotModule : Status → Type 0 → Type 0
UnlessNotModule Accepted P = P
UnlessNotModule Refused P = P
UnlessNotModule BadUsage P = P
UnlessNotModule ReadFailed P = P
UnlessNotModule WriteFailed P = P
UnlessNotModule OutOfMemory P = P
UnlessNotModule NotModule P = Unit {0}

-- a clause about status 4
abbrev pub OnWriteFailed : Status → Type 0 → Type 0
OnWriteFailed Accepted P = Unit {0}
OnWriteFailed Refused P = Unit {0}
OnWriteFailed BadUsage P = Unit {0}
OnWriteFailed ReadFailed P = Unit {0}
OnWriteFailed WriteFailed P = P
OnWriteFailed OutOfMemory P = Unit {0}
OnWriteFailed NotModule P = Unit {0}

-- a beginning of the text was written
abbrev pub IsBegun : List ℕ → Option (List ℕ) → Option (List ℕ) → Type 0
IsBegun text old new = (n : ℕ) × Appends old new (take n text)

-- whether an error of the input belongs to standard error
abbrev pub is_told_apart : Options → Outcome → Bool
is_told_apart options outcomes.Accepted = false
is_told_apart options outcomes.Refused = false
is_told_apart options outcomes.NotModule = not options.is_json

-- as JSON an error is written to the output, and nothing beside it; for people it is written beside it alone, or a beginning of it where
-- that fails
abbrev pub IsTold : Bool → Bool → List ℕ → Option (List ℕ) → Option (List ℕ) → Option (List ℕ) → Option (List ℕ) → Type 0
IsTold true failed text old new errors told = Appends old new text × Keeps errors told
IsTold false false text old new errors told = Keeps old new × Appends errors told text
IsTold false true text old new errors told = Keeps old new × IsBegun text errors told
