-- What is read of an input, as one JSON value or in parts.
use Rattle.std.proofs.Common.{◌≡◌, ℕ, List, Some}
use Rattle.std.specs.Str.{IsUtf8}
use Rattle.json.specs.Json.{Json, document, object}
use Rattle.shader_analysis_spec.specs.Program.{Module}
use Rattle.shader_json_module.proofs.AccurateLemmas.{of_json, of_text}
use Rattle.shader_json_module.specs.Modules.{IsErrorOf, IsModule, IsOfValue}
use Rattle.shader_json_module.specs.Parts.{AreModuleParts}
use Rattle.shader_json_reader.specs.Errors.{IsAccurate, IsOfModule}
use Rattle.shader_json_reader.specs.declared.error.ReadError.{ReadError}
use Rattle.report_answers.specs.Reading.{IsRead}

pub parts_read : (input : List ℕ) (left : Json) (m : Module) → AreModuleParts input m left → IsRead input m
parts_read input left m parts = record { utf8 = parts.utf8; j = object parts.ms; parses = parts.parses; stands = parts.stands }

pub whole_read : (input : List ℕ) (j : Json) (m : Module) → IsUtf8 input → document input ≡ Some j → IsModule j m → IsRead input m
whole_read input j m utf8 parses stands = record { utf8 = utf8; j = j; parses = parses; stands = stands }

-- an error of the value is one of the text
pub error_of_value : (j : Json) (text : List ℕ) (error : ReadError) → IsUtf8 text → document text ≡ Some j → IsOfValue j error
    → IsErrorOf text error
error_of_value j text error utf8 parses of = of_text j text error utf8 parses of

pub error_of_json : (text : List ℕ) (error : ReadError) → IsAccurate text error → (IsOfModule error → ⊥) → IsErrorOf text error
error_of_json text error accurate other = of_json text error accurate other
