-- The report on a module, by what was found of it.
use Rattle.std.proofs.Common.{refl, ◌≡◌, ◌∙◌, ◌++◌, ◌∷◌, [], ap, append_assoc, subst, sym, inr}
use Rattle.std.proofs.Common.{ℕ, Bool, true, false, List, Option, Some, None}
use Rattle.std.proofs.Common.{IsSome, String, string_bytes}
use Rattle.std.proofs.lemmas.Str.{IsUtf8-string_bytes}
use Rattle.std.specs.Prelude.{MatchOption}
use Rattle.std.specs.Str.{IsUtf8}
use Rattle.json.specs.Json.{Json, document}
use Rattle.json.specs.Lex.{tokens}
use Rattle.json.specs.Print.{print}
use Rattle.json.specs.Token.{Token, begin_object, end_object}
use Rattle.json.specs.Written.{Written}
use Rattle.report_diagnostics.specs.Heads.{head_members}
use Rattle.report_diagnostics.specs.declared.diagnostic.Diagnostic.{Diagnostic}
use Rattle.report_findings.specs.Collected.{AreDiagnostics}
use Rattle.report_input.specs.Located.{AreLocated}
use Rattle.report_json.proofs.LineLemmas.{line_written}
use Rattle.report_json.specs.Tokens.{Adds, object}
use Rattle.report_model.specs.Analyzed.{IsAnalyzed, is_accepted, uniformity_of}
use Rattle.report_model.specs.declared.analyzed.Analyzed.{Analyzed}
use Rattle.shader_analysis_spec.specs.Program.{Module}
use Rattle.shader_json_module.specs.Modules.{IsModule, IsTextOf}
use Rattle.shader_report_json.specs.Answers.{AreModuleMembers}
use Rattle.shader_resolve.specs.Nesting.{NestsWithin}
use Rattle.report_answers.specs.Verdicts.{verdict_members}
use Rattle.report_answers.specs.Options.{checks_uniformity, settings}
use Rattle.report_answers.specs.Reading.{IsRead}
use Rattle.report_answers.specs.Reports.{answer_members, verdict, IsDeep, IsDeepReport, IsJson, IsModuleReport, IsOutputOn, IsPeople}
use Rattle.report_answers.specs.Reports.{IsPrintedFor, IsTextFor, IsTextOnAccepted, IsTextOnRefused, word_of}
use Rattle.report_answers.specs.Reports.{IsReport, IsReportOn}
use Rattle.report_answers.specs.Sections.{AreSections, IsRootIf}
use Rattle.report_answers.specs.declared.options.Options.{Options}
use Rattle.report_answers.specs.declared.reports.Outcome.{Outcome}
use Rattle.report_answers.specs.declared.reports.Outcome.TheVariants.{Accepted, Refused, NotModule}

module _ (options : Options) (input : List ℕ) (j : Json) (m : Module) where
  by_verdict : (accepted : Bool) (outcome : Outcome) (text : List ℕ) → outcome ≡ verdict accepted →
      IsOutputOn options input j m accepted text → IsReportOn options input j m outcome text
  by_verdict true outcome text e output = subst (λ (o : Outcome). IsReportOn options input j m o text) (sym e) output
  by_verdict false outcome text e output = subst (λ (o : Outcome). IsReportOn options input j m o text) (sym e) output

  module _ (nested : NestsWithin 4000 m) (analyzed : Analyzed)
      (found : IsAnalyzed m (settings options) (checks_uniformity options) analyzed) (outcome : Outcome)
      (text : List ℕ) (accepted : Bool) (is : accepted ≡ is_accepted analyzed) (ends : outcome ≡ verdict accepted) where
    reported : IsPrintedFor options.is_json options input j m analyzed text → IsReportOn options input j m outcome text
    reported printed =
        by_verdict accepted outcome text ends
        (record { nested = nested; analyzed = analyzed; found = found; verdict = is; printed = printed })

    pub json_reported : options.is_json ≡ true → IsJson options input j m analyzed text → IsReportOn options input j m outcome text
    json_reported json printed = reported (subst (λ (b : Bool). IsPrintedFor b options input j m analyzed text) (sym json) printed)

    pub people_reported : options.is_json ≡ false → IsPeople options input j m analyzed text → IsReportOn options input j m outcome text
    people_reported people printed = reported (subst (λ (b : Bool). IsPrintedFor b options input j m analyzed text) (sym people) printed)

  module _ (analyzed : Analyzed) where
    -- the text on an accepted module
    pub people_accepted : {Z : Type 0} (text : String Z) → is_accepted analyzed ≡ true →
        IsTextOnAccepted options j m analyzed (string_bytes text) → IsPeople options input j m analyzed (string_bytes text)
    people_accepted text accepted printed = record {
      utf8 = IsUtf8-string_bytes text;
      printed = subst (λ (b : Bool). IsTextFor b options input j m analyzed (string_bytes text)) (sym accepted) printed;
    }

    -- the text on a refused module
    pub people_refused : {Z : Type 0} (text : String Z) → is_accepted analyzed ≡ false →
        IsTextOnRefused options input j m analyzed (string_bytes text) → IsPeople options input j m analyzed (string_bytes text)
    people_refused text refused printed = record {
      utf8 = IsUtf8-string_bytes text;
      printed = subst (λ (b : Bool). IsTextFor b options input j m analyzed (string_bytes text)) (sym refused) printed;
    }

    -- the bytes of an object that is written from nothing, with the end of the line
    pub object_written : (start end : Written) (text line : List ℕ) (faults diagnostics : List Diagnostic)
        (found sections : List Token) → start.before ≡ [] → start.tokens ≡ [] → AreDiagnostics m analyzed faults →
        AreLocated input faults diagnostics →
        AreModuleMembers analyzed found → AreSections options j m analyzed sections →
        Adds start end (begin_object ∷ (head_members (word_of (is_accepted analyzed)) diagnostics
        ++ (verdict_members (uniformity_of analyzed) ++ (found ++ (sections ++ end_object ∷ []))))) →
        text ≡ end.before ++ print end.tokens → tokens (print end.tokens) ≡ end.tokens → IsUtf8 (print end.tokens) →
        line ≡ text ++ 10 ∷ [] → IsJson options input j m analyzed line
    object_written start end text line faults diagnostics found sections before none diagnosed located are asked adds bytes reads_back
        utf8 ends =
        let head = head_members (word_of (is_accepted analyzed)) diagnostics in
        let flow = verdict_members (uniformity_of analyzed) in
        let members = answer_members analyzed diagnostics found sections in
        let regrouped : begin_object ∷ (head ++ (flow ++ (found ++ (sections ++ end_object ∷ [])))) ≡ object members =
        ap (λ (ts : List Token). begin_object ∷ ts)
        (ap (λ (ts : List Token). head ++ ts) (ap (λ (ts : List Token). flow ++ ts) (sym (append_assoc found sections (end_object ∷ [])))
        ∙ sym (append_assoc flow (found ++ sections) (end_object ∷ [])))
        ∙ sym (append_assoc head (flow ++ (found ++ sections)) (end_object ∷ []))) in
        let written : end.tokens ≡ object members =
        adds.added ∙ ap (λ (ts : List Token). ts ++ (begin_object ∷ (head ++ (flow ++ (found ++ (sections ++ end_object ∷ [])))))) none
        ∙ regrouped in
        record {
          faults = faults;
          faults_are = diagnosed;
          diagnostics = diagnostics;
          located = located;
          found = found;
          found_are = are;
          sections = sections;
          sections_are = asked;
          line = line_written members end.tokens text line written reads_back utf8
              (bytes ∙ ap (λ (v : List ℕ). v ++ print end.tokens) (adds.before ∙ before)) ends;
        }

  is_text : document input ≡ Some j → IsModule j m → IsTextOf input m
  is_text parses stands = subst (λ (found : Option Json). MatchOption found ⊥ (λ j. IsModule j m)) (sym parses) stands

  is_document : document input ≡ Some j → IsSome (document input)
  is_document parses = subst (λ (found : Option Json). IsSome found) (sym parses) refl

  spelled : (accepted : Bool) (text : List ℕ) → IsUtf8 input → document input ≡ Some j → IsModule j m →
      IsOutputOn options input j m accepted text → IsModuleReport options input accepted text
  spelled accepted text utf8 parses stands output = record {
    utf8 = utf8;
    parses = is_document parses;
    m = m;
    stands = is_text parses stands;
    output = record { j = j; parses = parses; output = output };
  }

  nested : (text : List ℕ) → IsUtf8 input → document input ≡ Some j → IsModule j m → IsDeep options m text →
      IsDeepReport options input text
  nested text utf8 parses stands deep = record {
    utf8 = utf8;
    parses = is_document parses;
    m = m;
    stands = is_text parses stands;
    nested = deep;
  }

  -- the report on a module that the input spells
  pub module_told : (outcome : Outcome) (text : List ℕ) → IsUtf8 input → document input ≡ Some j → IsModule j m →
      IsReportOn options input j m outcome text → IsReport options input outcome text
  module_told Accepted text utf8 parses stands report = spelled true text utf8 parses stands report
  module_told Refused text utf8 parses stands report = spelled false text utf8 parses stands report
  module_told NotModule text utf8 parses stands report = inr (nested text utf8 parses stands report)

-- no JSON is needed if resources aren't asked for
pub no_root : (has_resources : Bool) (j : Json) → has_resources ≡ false → IsRootIf has_resources j None
no_root has_resources j unasked = subst (λ (b : Bool). IsRootIf b j None) (sym unasked) tt

-- the report on a module that was read of an input
pub read_told : (options : Options) (input : List ℕ) (m : Module) (outcome : Outcome) (text : List ℕ) →
    ((j : Json) → IsRootIf options.has_resources j None → IsReportOn options input j m outcome text) →
    IsRead input m × (options.has_resources ≡ false) → IsReport options input outcome text
read_told options input m outcome text on read =
    module_told options input read.0.j m outcome text read.0.utf8 read.0.parses read.0.stands
    (on read.0.j (no_root options.has_resources read.0.j read.1))

-- the JSON is at hand
some_root : (has_resources : Bool) (j : Json) → IsRootIf has_resources j (Some j)
some_root true j = refl
some_root false j = tt

-- the report on a module while its JSON is at hand
pub value_told : (options : Options) (input : List ℕ) (j : Json) (m : Module) (outcome : Outcome) (text : List ℕ) →
    IsUtf8 input → document input ≡ Some j → IsModule j m →
    ((k : Json) → IsRootIf options.has_resources k (Some j) → IsReportOn options input k m outcome text) →
    IsReport options input outcome text
value_told options input j m outcome text utf8 parses stands on =
    module_told options input j m outcome text utf8 parses stands (on j (some_root options.has_resources j))
