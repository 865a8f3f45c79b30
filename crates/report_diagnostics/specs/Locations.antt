-- The places of diagnostics as JSON.
use Rattle.std.specs.Prelude.{ℕ, List, ◌∷◌, ◌++◌, Option, Some, None, codes}
use Rattle.json.specs.Token.{Token, key}
use Rattle.report_json.specs.Tokens.{number_tokens, object, optional_tokens, text_tokens}
use Rattle.report_places.specs.Tokens.{body_tokens, path_tokens}
use Rattle.report_places.specs.declared.body_place.BodyPlace.{BodyPlace}
use Rattle.report_places.specs.declared.paths.StatementPath.{StatementPath}
use Rattle.report_diagnostics.specs.Members.{optional_member}
use Rattle.report_diagnostics.specs.declared.location.Location.{Location}

-- where it is in a function
abbrev pub function_members : Location → List Token
function_members location =
    key (codes "body") ∷ optional_tokens body_tokens location.body
    ++ (optional_member text_tokens (codes "name") location.name
    ++ (optional_member path_tokens (codes "statement") location.statement
    ++ optional_member number_tokens (codes "expression") location.expression))

-- the text of the expression, and where it is in the module
abbrev pub module_members : Location → (text : Option (List ℕ)) → List Token
module_members location text =
    optional_member text_tokens (codes "text") text
    ++ (optional_member number_tokens (codes "type") location.ty
    ++ (optional_member text_tokens (codes "pointer") location.pointer
    ++ optional_member number_tokens (codes "argument") location.argument))

-- the way to a value of the JSON; the pointer to it is known in the module, or only in the JSON of an input that is none
abbrev pub value_members : Location → List Token
value_members location =
    optional_member text_tokens (codes "path") location.path
    ++ optional_member text_tokens (codes "pointer") location.input_pointer

-- where it is in the text
abbrev pub text_members : Location → List Token
text_members location =
    optional_member number_tokens (codes "line") location.line
    ++ (optional_member number_tokens (codes "column") location.column
    ++ optional_member number_tokens (codes "byte") location.byte)

unfoldable pub location_tokens : Location → (text : Option (List ℕ)) → List Token
location_tokens location text =
    object (function_members location ++ (module_members location text ++ (value_members location ++ text_members location)))

-- a place that is known in the module, and not in its text
abbrev pub within_module : Option BodyPlace → (name : Option (List ℕ)) → Option StatementPath → (expression ty : Option ℕ) →
    (pointer : List ℕ) → Location
within_module body name statement expression ty pointer = record {
  body = body;
  name = name;
  statement = statement;
  expression = expression;
  argument = None;
  ty = ty;
  pointer = Some pointer;
  path = None;
  input_pointer = None;
  line = None;
  column = None;
  byte = None;
}
