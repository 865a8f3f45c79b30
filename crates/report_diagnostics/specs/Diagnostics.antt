-- Diagnostics, and how they are written as JSON.
use Rattle.std.specs.Prelude.{◌≡◌, ℕ, List, None, [], ◌∷◌, ◌++◌, codes}
use Rattle.std.specs.List.{flat_map}
use Rattle.json.specs.Token.{Token, key}
use Rattle.report_json.specs.Tokens.{array, number_tokens, object, text_tokens}
use Rattle.report_diagnostics.specs.Codes.{code_text, name_text}
use Rattle.report_diagnostics.specs.Facts.{facts_tokens}
use Rattle.report_diagnostics.specs.Locations.{location_tokens}
use Rattle.report_diagnostics.specs.declared.codes.Code.{Code}
use Rattle.report_diagnostics.specs.declared.diagnostic.Diagnostic.{Diagnostic}
use Rattle.report_diagnostics.specs.declared.diagnostic.Related.{Related}
use Rattle.report_diagnostics.specs.declared.diagnostic.Severity.{Severity}
use Rattle.report_diagnostics.specs.declared.diagnostic.Severity.TheVariants.{Error, Warning, Info}
use Rattle.report_diagnostics.specs.declared.location.Location.{Location}

abbrev pub severity_text : Severity → List ℕ
severity_text Error = codes "error"
severity_text Warning = codes "warning"
severity_text Info = codes "info"

unfoldable pub related_tokens : Related → List Token
related_tokens related =
    object (key (codes "message") ∷ text_tokens related.message
    ++ key (codes "location") ∷ location_tokens related.location related.text)

-- what it is
abbrev pub kind_members : Diagnostic → List Token
kind_members diagnostic =
    key (codes "code") ∷ text_tokens (code_text diagnostic.code)
    ++ (key (codes "name") ∷ text_tokens (name_text diagnostic.code)
    ++ (key (codes "severity") ∷ text_tokens (severity_text diagnostic.severity)
    ++ key (codes "message") ∷ text_tokens diagnostic.message))

-- where it is, and why
abbrev pub cause_members : Diagnostic → List Token
cause_members diagnostic =
    key (codes "location") ∷ location_tokens diagnostic.location diagnostic.text
    ++ (key (codes "data") ∷ facts_tokens diagnostic.data.list.items
    ++ (key (codes "related") ∷ array (flat_map related_tokens diagnostic.related.items)
    ++ key (codes "omitted") ∷ number_tokens diagnostic.omitted))

-- what to know and to do
abbrev pub advice_members : Diagnostic → List Token
advice_members diagnostic =
    key (codes "notes") ∷ array (flat_map text_tokens diagnostic.notes.items)
    ++ key (codes "help") ∷ array (flat_map text_tokens diagnostic.help.items)

unfoldable pub diagnostic_tokens : Diagnostic → List Token
diagnostic_tokens diagnostic = object (kind_members diagnostic ++ (cause_members diagnostic ++ advice_members diagnostic))

-- an error of this kind, at this place
pub record IsError (kind : Code) (place : Location) (diagnostic : Diagnostic) : Type 0 where
  pub code : diagnostic.code ≡ kind
  pub severity : diagnostic.severity ≡ Error
  pub location : diagnostic.location ≡ place

-- it has nothing besides its message
pub record IsPlain (diagnostic : Diagnostic) : Type 0 where
  pub end : diagnostic.end ≡ None
  pub text : diagnostic.text ≡ None
  pub label : diagnostic.label ≡ None
  pub field : diagnostic.field ≡ None
  pub «data» : diagnostic.data.list.items ≡ []
  pub related : diagnostic.related.items ≡ []
  pub omitted : diagnostic.omitted ≡ 0
  pub notes : diagnostic.notes.items ≡ []
  pub help : diagnostic.help.items ≡ []
