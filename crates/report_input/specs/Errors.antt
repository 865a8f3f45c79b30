-- Errors of the input as JSON.
use Rattle.std.specs.Prelude.{◌≡◌, ℕ, List, [], ◌∷◌, ◌++◌, Some, codes, string_bytes}
use Rattle.std.specs.Fmt.{decimal, signed_decimal}
use Rattle.json.specs.Token.{Token, key}
use Rattle.report_diagnostics.specs.Heads.{head_members}
use Rattle.report_diagnostics.specs.declared.codes.Code.TheVariants.{Input}
use Rattle.report_diagnostics.specs.declared.diagnostic.Diagnostic.{Diagnostic}
use Rattle.report_diagnostics.specs.declared.diagnostic.Severity.TheVariants.{Error}
use Rattle.report_diagnostics.specs.declared.head.Verdict.TheVariants.{InvalidInput}
use Rattle.report_diagnostics.specs.declared.module_codes.InputCode.TheVariants.{NestsTooDeep}
use Rattle.report_json.specs.Tokens.{number_tokens, object, text_tokens}
use Rattle.report_json.specs.Values.{IsLine}
use Rattle.shader_json_reader.specs.Errors.{most_text_bytes}
use Rattle.shader_json_reader.specs.declared.error.ReadError.{ReadError}
use Rattle.shader_json_reader.specs.declared.error.ReadError.TheVariants.{OutOfMemory, TooLong, NotJson, TooDeep, NotModule}
use Rattle.shader_json_reader.specs.declared.error.Wanted.{Wanted}
use Rattle.shader_json_reader.specs.declared.error.Wanted.TheVariants.{Value, Integer, Field}
use Rattle.report_input.specs.Inputs.{IsOfError}

-- an object with a location and with what is wanted there
abbrev pub place_tokens : List ℕ → List Token → List ℕ → List Token
place_tokens kind location wanted = object (key kind ∷ location ++ key (codes "wanted") ∷ text_tokens wanted)

abbrev pub path_tokens : List ℕ → List ℕ → List Token
path_tokens path wanted = place_tokens (codes "path") (text_tokens path) wanted

abbrev pub byte_tokens : ℕ → List ℕ → List Token
byte_tokens byte wanted = place_tokens (codes "byte") (number_tokens byte) wanted

-- the members of the JSON for an input with an error: the head with its diagnostic, and what `error` says
abbrev pub error_members : Diagnostic → List Token → List Token
error_members diagnostic error = head_members InvalidInput (diagnostic ∷ []) ++ key (codes "error") ∷ error

-- the line of JSON with these members
abbrev pub IsAnswerText : Diagnostic → List Token → List ℕ → Type 0
IsAnswerText diagnostic error text = IsLine (error_members diagnostic error) text

-- what is wanted of a value, in words
abbrev pub wanted_text : Wanted → List ℕ
wanted_text (Value words) = words.now
wanted_text (Integer least most) = codes "an integer from " ++ signed_decimal least ++ codes " to " ++ decimal most
wanted_text (Field name) = codes "an object with the field `" ++ name.now ++ codes "`"

-- what `error` says
abbrev pub object_tokens : ReadError → List Token
object_tokens OutOfMemory = []
object_tokens TooLong = byte_tokens most_text_bytes (codes "the end of the text")
object_tokens (NotJson byte) = byte_tokens byte (codes "JSON")
object_tokens (TooDeep byte) = byte_tokens byte (codes "at most 128 arrays and objects in one another")
object_tokens (NotModule path wanted found) = path_tokens (string_bytes path) (wanted_text wanted)

-- the line of JSON for an error with this diagnostic; that memory was refused is none
abbrev pub IsAnswerWith : Diagnostic → ReadError → List ℕ → Type 0
IsAnswerWith diagnostic OutOfMemory text = ⊥
IsAnswerWith diagnostic TooLong text = IsAnswerText diagnostic (object_tokens TooLong) text
IsAnswerWith diagnostic (NotJson byte) text = IsAnswerText diagnostic (object_tokens (NotJson byte)) text
IsAnswerWith diagnostic (TooDeep byte) text = IsAnswerText diagnostic (object_tokens (TooDeep byte)) text
IsAnswerWith diagnostic (NotModule path wanted found) text =
    IsAnswerText diagnostic (object_tokens (NotModule path wanted found)) text

-- the line of JSON for an error of the input
pub record IsObjectText (input : List ℕ) (error : ReadError) (text : List ℕ) : Type 0 where
  pub diagnostic : Diagnostic
  pub of : IsOfError input error diagnostic
  pub printed : IsAnswerWith diagnostic error text

-- the diagnostic of blocks that nest too deep
pub record IsOfNesting (diagnostic : Diagnostic) : Type 0 where
  pub code : diagnostic.code ≡ Input NestsTooDeep
  pub severity : diagnostic.severity ≡ Error
  pub path : diagnostic.location.path ≡ Some []

-- what `error` says of blocks that nest too deep
abbrev pub nesting_tokens : List Token
nesting_tokens = path_tokens [] (codes "blocks that nest at most 4,000 deep")

-- the line of JSON for blocks that nest too deep
pub record IsNestingObject (text : List ℕ) : Type 0 where
  pub diagnostic : Diagnostic
  pub of : IsOfNesting diagnostic
  pub printed : IsAnswerText diagnostic nesting_tokens text
