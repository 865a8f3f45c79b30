-- Laws about output as JSON.
use Rattle.std.specs.Prelude.{◌≡◌, ◌&&◌, ◌++◌, [], ◌∷◌, ℕ, Bool, true, false, List, Some, codes, is_some}
use Rattle.std.specs.Str.{IsUtf8}
use Rattle.json.specs.Json as json
use Rattle.json.specs.Json.{Items, Json, Members, document, member}
use Rattle.json.specs.Strict.{keys}
use Rattle.report_diagnostics.specs.Heads.{verdict_text}
use Rattle.report_diagnostics.specs.declared.head.Verdict.{Verdict}
use Rattle.report_diagnostics.specs.declared.head.Verdict.TheVariants as heads
use Rattle.report_input.specs.Errors.{IsNestingObject, IsObjectText, error_members, nesting_tokens, object_tokens}
use Rattle.report_json.specs.Values.{IsObjectOf}
use Rattle.report_model.specs.Analyzed.{info_of, sound_of, uniformity_of}
use Rattle.report_model.specs.declared.analyzed.Analyzed.{Analyzed}
use Rattle.shader_analysis_spec.specs.Program.{Module}
use Rattle.shader_json_reader.specs.declared.error.ReadError.{ReadError}
use Rattle.shader_report_json.specs.Answers.{module_names}
use Rattle.report_answers.specs.Options.{bounds_of, checks_uniformity}
use Rattle.report_answers.specs.Reports.{IsJson, IsReport, answer_members}
use Rattle.report_answers.specs.declared.options.Options.{Options}
use Rattle.report_answers.specs.declared.reports.Outcome.TheVariants.{Accepted, Refused, NotModule}

-- the text is JSON in UTF-8: an object with the version, the verdict and the diagnostics, and then with members of these names, in order
pub record IsAnswer (verdict : Verdict) (names : List (List ℕ)) (text : List ℕ) : Type 0 where
  pub diagnostics : Items
  pub rest : Members
  pub value : document text ≡ Some (json.object (member (codes "version") (json.string (codes "1.0"))
      (member (codes "verdict") (json.string (verdict_text verdict))
      (member (codes "diagnostics") (json.array diagnostics) rest))))
  pub named : keys rest ≡ names
  pub utf8 : IsUtf8 text

-- a name, if there is a member for it
abbrev pub name_if : Bool → List ℕ → List (List ℕ)
name_if true name = name ∷ []
name_if false name = []

-- the names on a module, by what is found of it
abbrev pub names_on : Options → Analyzed → List (List ℕ)
names_on options analyzed =
    name_if (is_some (uniformity_of analyzed)) (codes "uniformity_verdict") ++ (module_names analyzed
    ++ (name_if (is_some (info_of analyzed) && is_some (bounds_of options)) (codes "bounds")
    ++ name_if (is_some (sound_of analyzed) && options.has_resources) (codes "resources")))

-- the names on an accepted module
abbrev pub accepted_names : Options → List (List ℕ)
accepted_names options =
    name_if (checks_uniformity options) (codes "uniformity_verdict") ++ (codes "layouts" ∷ codes "info"
    ∷ (name_if (is_some (bounds_of options)) (codes "bounds") ++ name_if options.has_resources (codes "resources")))

-- where options ask for JSON, each report is such a text
pub record ReportsAreJson : Type 0 where
  pub accepted : (options : Options) → options.is_json ≡ true → (input text : List ℕ) → IsReport options input Accepted text →
      IsAnswer heads.Accepted (accepted_names options) text
  pub refused : (options : Options) → options.is_json ≡ true → (input text : List ℕ) (report : IsReport options input Refused text) →
      IsAnswer heads.Refused (names_on options report.output.output.analyzed) text
  pub no_module : (options : Options) → options.is_json ≡ true → (input text : List ℕ) → IsReport options input NotModule text →
      IsAnswer heads.InvalidInput (codes "error" ∷ []) text

-- and the members of its object have the tokens that are defined for it
pub record MembersAreListed : Type 0 where
  pub on_module : (options : Options) (input : List ℕ) (j : Json) (m : Module) (analyzed : Analyzed) (text : List ℕ)
      (json : IsJson options input j m analyzed text) → IsObjectOf (answer_members analyzed json.diagnostics json.found json.sections) text
  pub on_error : (input : List ℕ) (error : ReadError) (text : List ℕ) (json : IsObjectText input error text) →
      IsObjectOf (error_members json.diagnostic (object_tokens error)) text
  pub on_nesting : (text : List ℕ) (json : IsNestingObject text) → IsObjectOf (error_members json.diagnostic nesting_tokens) text
