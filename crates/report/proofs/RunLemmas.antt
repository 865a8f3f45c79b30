-- What was written is the report on what was read.
use Rattle.std.proofs.Common.{◌≡◌, ◌∙◌, ◌<◌, ◌++◌, refl, sym, subst, ap, inl, ℕ, Bool, true, false, List, [], length}
use Rattle.std.proofs.Common.{Option, Some, None, IfSome, IsSome, append-nil, length-append, arith}
use Rattle.std.specs.Str.{IsUtf8}
use Rattle.json.specs.Json.{document}
use Rattle.std.specs.Io.KnownBytes.{Appends, Consumes, IsAtEnd}
use Rattle.shader_analysis_spec.specs.Program.{Module}
use Rattle.shader_json_reader.specs.Errors.{most_text_bytes}
use Rattle.shader_json_reader.specs.declared.error.ReadError.TheVariants.{TooLong}
use Rattle.shader_json_module.specs.Modules.{IsTextOf}
use Rattle.report_diagnostics.specs.declared.diagnostic.Diagnostic.{Diagnostic}
use Rattle.report_input.specs.Inputs.{IsOfError}
use Rattle.report_answers.specs.Reports.{IsModuleReport, IsRefusal, IsReport}
use Rattle.report_answers.specs.declared.options.Options.{Options}
use Rattle.report_answers.specs.declared.reports.Outcome.{Outcome}
use Rattle.report_answers.specs.declared.reports.Outcome.TheVariants as outcomes
use Rattle.report.specs.Runs.{IsAnswerOf, IsBegun, IsTold, OnAnswered, OnNotModule, OnWriteFailed, outcome_status, verdict}
use Rattle.report.specs.declared.status.Status.{Status}
use Rattle.report.specs.declared.status.Status.TheVariants.{Accepted, Refused, BadUsage, ReadFailed, WriteFailed}
use Rattle.report.specs.declared.status.Status.TheVariants.{OutOfMemory, NotModule}

-- what was read to its end is all that was left
whole : (before after : Option (List ℕ)) (input : List ℕ) → Consumes before after input → IsAtEnd after → IfSome before (λ all. all ≡ input)
whole None after input read ended = tt
whole (Some all) None input read ended = absurd read
whole (Some all) (Some rest) input read ended = read ∙ (ap (λ r. input ++ r) ended ∙ append-nil input)

-- what is so of what was read is so of all that was left
of_all : (P : List ℕ → Type 0) (before : Option (List ℕ)) (input : List ℕ) → IfSome before (λ all. all ≡ input) → P input → IfSome before P
of_all P None input e holds = tt
of_all P (Some all) input e holds = subst P (sym e) holds

-- the diagnostic of too many bytes is the same of each input
too_long : (input : List ℕ) (diagnostic : Diagnostic) → IsOfError [] TooLong diagnostic → IsOfError input TooLong diagnostic
too_long input diagnostic h = record {
  kind = h.kind;
  has = h.has;
  code = h.code;
  severity = h.severity;
  pointer = h.pointer;
  byte = h.byte;
  found = h.found;
  placed = record {
    path_is = h.placed.path_is;
    pointer_is = h.placed.pointer_is;
    byte_is = h.placed.byte_is;
    line = h.placed.line;
    column = h.placed.column;
  };
}

module _ (options : Options) (before after : Option (List ℕ)) where
  abbrev Answer : (old new : Option (List ℕ)) → Status → Type 0
  Answer old new status =
      (input : List ℕ) × IfSome before (λ all. all ≡ input) × (m : Module) × (text : List ℕ) × IsTextOf input m
      × IsAnswerOf options input m status text × Appends old new text

  abbrev Refusal : (failed : Bool) (old new errors told : Option (List ℕ)) → Type 0
  Refusal failed old new errors told = (text : List ℕ) × IfSome before (λ input. IsReport options input outcomes.NotModule text)
      × IsTold options.is_json failed text old new errors told

  abbrev Beginning : (old new : Option (List ℕ)) → Type 0
  Beginning old new =
      (outcome : Outcome) × (text : List ℕ) × IfSome before (λ input. IsReport options input outcome text) × IsBegun text old new

  answer : (old new : Option (List ℕ)) (input text : List ℕ) (accepted : Bool) → IfSome before (λ all. all ≡ input) →
      IsModuleReport options input accepted text → Appends old new text → Answer old new (verdict accepted)
  answer old new input text accepted e report appended = (
    input,
    e,
    report.m,
    text,
    report.stands,
    record { accepted = accepted; reported = report.output; ended = refl },
    appended,
  )

  by_outcome : (old new : Option (List ℕ)) (input text : List ℕ) (outcome : Outcome) → IfSome before (λ all. all ≡ input) →
      IsReport options input outcome text → Appends old new text →
      OnAnswered (outcome_status outcome) (Answer old new (outcome_status outcome))
  by_outcome old new input text outcomes.Accepted e report appended = answer old new input text true e report appended
  by_outcome old new input text outcomes.Refused e report appended = answer old new input text false e report appended
  by_outcome old new input text outcomes.NotModule e report appended = tt

  -- with statuses 0 and 1 it is on the module for which that stands
  pub answered : (old new : Option (List ℕ)) (input text : List ℕ) (outcome : Outcome) (status : Status) → Consumes before after input →
      IsAtEnd after → IsReport options input outcome text → OnAnswered status ((status ≡ outcome_status outcome) × Appends old new text) →
      OnAnswered status (Answer old new status)
  answered old new input text outcome Accepted read ended report (e, appended) =
      subst (λ (s : Status). OnAnswered s (Answer old new s)) (sym e)
      (by_outcome old new input text outcome (whole before after input read ended) report appended)
  answered old new input text outcome Refused read ended report (e, appended) =
      subst (λ (s : Status). OnAnswered s (Answer old new s)) (sym e)
      (by_outcome old new input text outcome (whole before after input read ended) report appended)
  answered old new input text outcome BadUsage read ended report h = tt
  answered old new input text outcome ReadFailed read ended report h = tt
  answered old new input text outcome WriteFailed read ended report h = tt
  answered old new input text outcome OutOfMemory read ended report h = tt
  answered old new input text outcome NotModule read ended report h = tt

  spells : (input text : List ℕ) (outcome : Outcome) → IfSome before (λ all. all ≡ input) → IsReport options input outcome text →
      OnAnswered (outcome_status outcome) (IfSome before (λ all. IsUtf8 all × IsSome (document all)))
  spells input text outcomes.Accepted e report =
      of_all (λ all. IsUtf8 all × IsSome (document all)) before input e (report.utf8, report.parses)
  spells input text outcomes.Refused e report =
      of_all (λ all. IsUtf8 all × IsSome (document all)) before input e (report.utf8, report.parses)
  spells input text outcomes.NotModule e report = tt

  -- and that is JSON
  pub spelled : (input text : List ℕ) (outcome : Outcome) (status : Status) (P : Type 0) → Consumes before after input → IsAtEnd after →
      IsReport options input outcome text → OnAnswered status ((status ≡ outcome_status outcome) × P) →
      OnAnswered status (IfSome before (λ all. IsUtf8 all × IsSome (document all)))
  spelled input text outcome Accepted P read ended report (e, h) =
      subst (λ (s : Status). OnAnswered s (IfSome before (λ all. IsUtf8 all × IsSome (document all)))) (sym e)
      (spells input text outcome (whole before after input read ended) report)
  spelled input text outcome Refused P read ended report (e, h) =
      subst (λ (s : Status). OnAnswered s (IfSome before (λ all. IsUtf8 all × IsSome (document all)))) (sym e)
      (spells input text outcome (whole before after input read ended) report)
  spelled input text outcome BadUsage P read ended report h = tt
  spelled input text outcome ReadFailed P read ended report h = tt
  spelled input text outcome WriteFailed P read ended report h = tt
  spelled input text outcome OutOfMemory P read ended report h = tt
  spelled input text outcome NotModule P read ended report h = tt

  of_no_module : (input text : List ℕ) (outcome : Outcome) → IsReport options input outcome text →
      OnNotModule (outcome_status outcome) (IsReport options input outcomes.NotModule text)
  of_no_module input text outcomes.Accepted report = tt
  of_no_module input text outcomes.Refused report = tt
  of_no_module input text outcomes.NotModule report = report

  -- with status 6 it says why that is none
  pub refused : (failed : Bool) (old new errors told : Option (List ℕ)) (input text : List ℕ) (outcome : Outcome) (status : Status) →
      Consumes before after input → IsAtEnd after → IsReport options input outcome text →
      OnNotModule status ((status ≡ outcome_status outcome) × IsTold options.is_json failed text old new errors told) →
      OnNotModule status (Refusal failed old new errors told)
  refused failed old new errors told input text outcome Accepted read ended report h = tt
  refused failed old new errors told input text outcome Refused read ended report h = tt
  refused failed old new errors told input text outcome BadUsage read ended report h = tt
  refused failed old new errors told input text outcome ReadFailed read ended report h = tt
  refused failed old new errors told input text outcome WriteFailed read ended report h = tt
  refused failed old new errors told input text outcome OutOfMemory read ended report h = tt
  refused failed old new errors told input text outcome NotModule read ended report (e, is_told) = (
    text,
    of_all (λ all. IsReport options all outcomes.NotModule text) before input (whole before after input read ended)
        (subst (λ (s : Status). OnNotModule s (IsReport options input outcomes.NotModule text)) (sym e)
        (of_no_module input text outcome report)),
    is_told,
  )

  -- with status 4 it has a beginning
  pub begun : (old new : Option (List ℕ)) (input text : List ℕ) (outcome : Outcome) (status : Status) → Consumes before after input →
      IsAtEnd after → IsReport options input outcome text → OnWriteFailed status (IsBegun text old new) →
      OnWriteFailed status (Beginning old new)
  begun old new input text outcome Accepted read ended report h = tt
  begun old new input text outcome Refused read ended report h = tt
  begun old new input text outcome BadUsage read ended report h = tt
  begun old new input text outcome ReadFailed read ended report h = tt
  begun old new input text outcome WriteFailed read ended report h =
      (outcome, text, of_all (λ all. IsReport options all outcome text) before input (whole before after input read ended) report, h)
  begun old new input text outcome OutOfMemory read ended report h = tt
  begun old new input text outcome NotModule read ended report h = tt

  -- the text on too many bytes is the same of each input
  of_length : (is_json : Bool) (input text : List ℕ) → IsRefusal (record options { is_json = is_json }) [] TooLong text →
      IsRefusal (record options { is_json = is_json }) input TooLong text
  of_length true input text h = record { diagnostic = h.diagnostic; of = too_long input h.diagnostic h.of; printed = h.printed }
  of_length false input text h = record { diagnostic = h.diagnostic; of = too_long input h.diagnostic h.of; printed = h.printed }

  longer : (P : List ℕ → Type 0) (known left : Option (List ℕ)) (read : List ℕ) → Consumes known left read → most_text_bytes < length read →
      ((input : List ℕ) → most_text_bytes < length input → P input) → IfSome known P
  longer P None left read consumed long holds = tt
  longer P (Some all) None read consumed long holds = absurd consumed
  longer P (Some all) (Some rest) read consumed long holds =
      holds all (subst (λ xs. most_text_bytes < length xs) (sym consumed) (grind (arith, length-append)))

  -- and so it does where more was read than may be
  pub refused_as_long : (failed : Bool) (old new errors told : Option (List ℕ)) (read : List ℕ) (status : Status) →
      Consumes before after read → most_text_bytes < length read →
      OnNotModule status ((text : List ℕ) × IsRefusal options [] TooLong text × IsTold options.is_json failed text old new errors told) →
      OnNotModule status (Refusal failed old new errors told)
  refused_as_long failed old new errors told read Accepted consumed long h = tt
  refused_as_long failed old new errors told read Refused consumed long h = tt
  refused_as_long failed old new errors told read BadUsage consumed long h = tt
  refused_as_long failed old new errors told read ReadFailed consumed long h = tt
  refused_as_long failed old new errors told read WriteFailed consumed long h = tt
  refused_as_long failed old new errors told read OutOfMemory consumed long h = tt
  refused_as_long failed old new errors told read NotModule consumed long (text, refusal, is_told) = (
    text,
    longer (λ input. IsReport options input outcomes.NotModule text) before after read consumed long
        (λ input is_long. inl (record {
          error = TooLong;
          accurate = record { accurate = is_long; no_module = λ is. absurd is };
          refusal = of_length options.is_json input text refusal;
        })),
    is_told,
  )

  pub begun_as_long : (old new : Option (List ℕ)) (read : List ℕ) (status : Status) → Consumes before after read →
      most_text_bytes < length read →
      OnWriteFailed status ((text : List ℕ) × IsRefusal options [] TooLong text × IsBegun text old new) →
      OnWriteFailed status (Beginning old new)
  begun_as_long old new read Accepted consumed long h = tt
  begun_as_long old new read Refused consumed long h = tt
  begun_as_long old new read BadUsage consumed long h = tt
  begun_as_long old new read ReadFailed consumed long h = tt
  begun_as_long old new read WriteFailed consumed long (text, refusal, begun) = (
    outcomes.NotModule,
    text,
    longer (λ input. IsReport options input outcomes.NotModule text) before after read consumed long
        (λ input is_long. inl (record {
          error = TooLong;
          accurate = record { accurate = is_long; no_module = λ is. absurd is };
          refusal = of_length options.is_json input text refusal;
        })),
    begun,
  )
  begun_as_long old new read OutOfMemory consumed long h = tt
  begun_as_long old new read NotModule consumed long h = tt
