-- The report on the module that an input is.
use Rattle.std.specs.Prelude.{◌≡◌, ◌⊎◌, ◌++◌, [], ℕ, Bool, true, false, List, IsSome, Option, Some, ⊤}
use Rattle.std.specs.Str.{IsUtf8}
use Rattle.json.specs.Json.{Json, document}
use Rattle.json.specs.Token.{Token}
use Rattle.report_blocks.specs.Refusals.{IsInputText, IsRefusalText}
use Rattle.report_blocks.specs.declared.detail.Detail.{Detail}
use Rattle.report_diagnostics.specs.Heads.{head_members}
use Rattle.report_diagnostics.specs.declared.diagnostic.Diagnostic.{Diagnostic}
use Rattle.report_diagnostics.specs.declared.head.Verdict.{Verdict}
use Rattle.report_diagnostics.specs.declared.head.Verdict.TheVariants as heads
use Rattle.report_json.specs.Values.{IsLine}
use Rattle.report_model.specs.Analyzed.{IsAnalyzed, info_of, is_accepted, uniformity_of}
use Rattle.report_model.specs.declared.analyzed.Analyzed.{Analyzed}
use Rattle.report_summary.specs.Summaries.{IsSummaryText}
use Rattle.shader_analysis_spec.specs.Program.{Module}
use Rattle.shader_interface.specs.declared.bound.ResourceBinding.{ResourceBinding}
use Rattle.shader_interface.specs.declared.workgroup.WorkgroupSize.{WorkgroupSize}
use Rattle.shader_json_module.specs.Modules.{IsErrorOf, IsTextOf}
use Rattle.shader_json_reader.specs.declared.error.ReadError.{ReadError}
use Rattle.shader_report_json.specs.Answers.{AreModuleMembers}
use Rattle.shader_resolve.specs.Nesting.{NestsWithin}
use Rattle.report_answers.specs.Verdicts.{verdict_members}
use Rattle.report_findings.specs.Collected.{AreDiagnostics}
use Rattle.report_input.specs.Errors.{IsNestingObject, IsObjectText, IsOfNesting}
use Rattle.report_input.specs.Inputs.{IsOfError}
use Rattle.report_input.specs.Located.{AreLocated}
use Rattle.report_answers.specs.Options.{checks_uniformity, settings}
use Rattle.report_answers.specs.Sections.{AreSections, EndsWithLines}
use Rattle.report_answers.specs.declared.options.Options.{Options}
use Rattle.report_answers.specs.declared.reports.Outcome.{Outcome}
use Rattle.report_answers.specs.declared.reports.Outcome.TheVariants.{Accepted, Refused, NotModule}

-- the verdict of an answer on a module
abbrev pub word_of : Bool → Verdict
word_of true = heads.Accepted
word_of false = heads.Refused

-- the members of the JSON on a module, in this order
abbrev pub answer_members : Analyzed → List Diagnostic → (found sections : List Token) → List Token
answer_members analyzed diagnostics found sections =
    head_members (word_of (is_accepted analyzed)) diagnostics ++ (verdict_members (uniformity_of analyzed) ++ (found ++ sections))

-- as JSON the text is an object: the verdict and a diagnostic for each fault, with its place in the input if only that shows it; then the
-- verdict on uniform flow, what was found of the module, and the sections that words ask for
pub record IsJson (options : Options) (input : List ℕ) (j : Json) (m : Module) (analyzed : Analyzed) (text : List ℕ) : Type 0 where
  pub faults : List Diagnostic
  pub faults_are : AreDiagnostics m analyzed faults
  pub diagnostics : List Diagnostic
  pub located : AreLocated input faults diagnostics
  pub found : List Token
  pub found_are : AreModuleMembers analyzed found
  pub sections : List Token
  pub sections_are : AreSections options j m analyzed sections
  pub line : IsLine (answer_members analyzed diagnostics found sections) text

-- how much of diagnostics is printed
abbrev pub block_detail : Options → Detail
block_detail options = record { explains = options.explains; shows_all = options.shows_all }

-- no entry point has a reason unasked
abbrev pub AreReasonsAsked : Bool → (reasons : List (List ℕ)) → Type 0
AreReasonsAsked true reasons = ⊤
AreReasonsAsked false reasons = reasons ≡ []

-- in text output on a refused module: the verdict, the same diagnostics, which are all shown if options ask for that, and the resources
pub record IsTextOnRefused (options : Options) (input : List ℕ) (j : Json) (m : Module) (analyzed : Analyzed) (text : List ℕ) : Type 0 where
  pub faults : List Diagnostic
  pub faults_are : AreDiagnostics m analyzed faults
  pub diagnostics : List Diagnostic
  pub located : AreLocated input faults diagnostics
  pub sections : List ℕ
  pub lines : EndsWithLines options j m analyzed sections
  pub is : IsRefusalText m diagnostics (block_detail options) sections text

-- on an accepted module: the verdict with counts, what each entry point uses, with a reason if options ask for it, and the resources
pub record IsTextOnAccepted (options : Options) (j : Json) (m : Module) (analyzed : Analyzed) (text : List ℕ) : Type 0 where
  pub sections : List ℕ
  pub lines : EndsWithLines options j m analyzed sections
  pub bindings : List (Option ResourceBinding)
  pub groups : List WorkgroupSize
  pub reasons : List (List ℕ)
  pub reasons_asked : AreReasonsAsked options.explains reasons
  pub is : IsSummaryText m groups reasons options.shows_all (info_of analyzed) bindings sections text

abbrev pub IsTextFor : Bool → Options → (input : List ℕ) → Json → Module → Analyzed → List ℕ → Type 0
IsTextFor true options input j m analyzed text = IsTextOnAccepted options j m analyzed text
IsTextFor false options input j m analyzed text = IsTextOnRefused options input j m analyzed text

-- for people it is UTF-8
pub record IsPeople (options : Options) (input : List ℕ) (j : Json) (m : Module) (analyzed : Analyzed) (text : List ℕ) : Type 0 where
  pub utf8 : IsUtf8 text
  pub printed : IsTextFor (is_accepted analyzed) options input j m analyzed text

abbrev pub IsPrintedFor : Bool → Options → (input : List ℕ) → Json → Module → Analyzed → List ℕ → Type 0
IsPrintedFor true options input j m analyzed text = IsJson options input j m analyzed text
IsPrintedFor false options input j m analyzed text = IsPeople options input j m analyzed text

-- the text is the report on a module for which the JSON stands: its blocks don't nest too deep, the verdict is by what is found of it, and
-- that is printed
pub record IsOutputOn (options : Options) (input : List ℕ) (j : Json) (m : Module) (accepted : Bool) (text : List ℕ) : Type 0 where
  pub nested : NestsWithin 4000 m
  pub analyzed : Analyzed
  pub found : IsAnalyzed m (settings options) (checks_uniformity options) analyzed
  pub verdict : accepted ≡ is_accepted analyzed
  pub printed : IsPrintedFor options.is_json options input j m analyzed text

-- the text is the report on a module by the JSON that the input spells
pub record IsOutput (options : Options) (input : List ℕ) (m : Module) (accepted : Bool) (text : List ℕ) : Type 0 where
  pub j : Json
  pub parses : document input ≡ Some j
  pub output : IsOutputOn options input j m accepted text

abbrev pub verdict : Bool → Outcome
verdict true = Accepted
verdict false = Refused

-- for people, the text on an input with an error is the block of its diagnostic
pub record IsErrorText (options : Options) (input : List ℕ) (error : ReadError) (text : List ℕ) : Type 0 where
  pub diagnostic : Diagnostic
  pub of : IsOfError input error diagnostic
  pub printed : IsInputText options.explains diagnostic text

-- the text of an error of the input, as JSON or for people
abbrev pub IsErrorFor : Bool → Options → List ℕ → ReadError → List ℕ → Type 0
IsErrorFor true options input error text = IsObjectText input error text
IsErrorFor false options input error text = IsErrorText options input error text

abbrev pub IsRefusal : Options → List ℕ → ReadError → List ℕ → Type 0
IsRefusal options input error text = IsErrorFor options.is_json options input error text

-- for people, the text on blocks that nest too deep is the block of their diagnostic
pub record IsNestingText (options : Options) (text : List ℕ) : Type 0 where
  pub diagnostic : Diagnostic
  pub of : IsOfNesting diagnostic
  pub printed : IsInputText options.explains diagnostic text

-- the text on blocks that nest too deep
abbrev pub IsNestingFor : Bool → Options → List ℕ → Type 0
IsNestingFor true options text = IsNestingObject text
IsNestingFor false options text = IsNestingText options text

abbrev pub IsNesting : Options → List ℕ → Type 0
IsNesting options text = IsNestingFor options.is_json options text

-- blocks of the module nest more than 4,000 deep, and the text says so
pub record IsDeep (options : Options) (m : Module) (text : List ℕ) : Type 0 where
  pub deep : NestsWithin 4000 m → ⊥
  pub told : IsNesting options text

-- the text is the report on a module for which the JSON stands
abbrev pub IsReportOn : Options → (input : List ℕ) → Json → Module → Outcome → List ℕ → Type 0
IsReportOn options input j m Accepted text = IsOutputOn options input j m true text
IsReportOn options input j m Refused text = IsOutputOn options input j m false text
IsReportOn options input j m NotModule text = IsDeep options m text

-- the text is the report on a module for which the JSON of the input stands
pub record IsModuleReport (options : Options) (input : List ℕ) (accepted : Bool) (text : List ℕ) : Type 0 where
  pub utf8 : IsUtf8 input
  pub parses : IsSome (document input)
  pub m : Module
  pub stands : IsTextOf input m
  pub output : IsOutput options input m accepted text

-- the text is on a module for which the JSON of the input stands, and says that its blocks nest too deep, as they do
pub record IsDeepReport (options : Options) (input text : List ℕ) : Type 0 where
  pub utf8 : IsUtf8 input
  pub parses : IsSome (document input)
  pub m : Module
  pub stands : IsTextOf input m
  pub nested : IsDeep options m text

-- the text is that of an error of the input: it is no JSON, nests too deep, is too long, or stands for no module
pub record IsReadRefusal (options : Options) (input text : List ℕ) : Type 0 where
  pub error : ReadError
  pub accurate : IsErrorOf input error
  pub refusal : IsRefusal options input error text

abbrev pub IsReport : Options → List ℕ → Outcome → List ℕ → Type 0
IsReport options input Accepted text = IsModuleReport options input true text
IsReport options input Refused text = IsModuleReport options input false text
IsReport options input NotModule text = IsReadRefusal options input text ⊎ IsDeepReport options input text
