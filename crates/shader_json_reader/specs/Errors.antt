-- Meaning of the errors of reading.
use Rattle.std.specs.Prelude.{◌≡◌, ◌<◌, ℕ, List, None, length, take, IsSome}
use Rattle.std.specs.Str.{IsUtf8}
use Rattle.std.specs.Str.Lossy.{utf8_valid_len}
use Rattle.json.specs.Json.{document}
use Rattle.shader_json_reader.specs.Grammar.{stop_of}
use Rattle.shader_json_reader.specs.declared.error.ReadError.{ReadError}
use Rattle.shader_json_reader.specs.declared.error.ReadError.TheVariants.{OutOfMemory, TooLong, NotJson, TooDeep, NotModule}
use Rattle.shader_json_reader.specs.declared.grammar.Stop.{Stop}
use Rattle.shader_json_reader.specs.declared.grammar.Stop.TheVariants as stop

-- the greatest length of a text in bytes
abbrev pub most_text_bytes : ℕ
most_text_bytes = 268435456

-- the text is JSON, but no module
abbrev pub IsOfModule : ReadError → Type 0
IsOfModule OutOfMemory = ⊥
IsOfModule TooLong = ⊥
IsOfModule (NotJson byte) = ⊥
IsOfModule (TooDeep byte) = ⊥
IsOfModule (NotModule path wanted found) = Unit {0}

-- the error says of bytes that they stop there being the start of some JSON
abbrev pub IsStoppedAt : Stop → ReadError → Type 0
IsStoppedAt at OutOfMemory = ⊥
IsStoppedAt at TooLong = ⊥
IsStoppedAt at (NotJson byte) = at ≡ stop.NotJson byte
IsStoppedAt at (TooDeep byte) = at ≡ stop.TooDeep byte
IsStoppedAt at (NotModule path wanted found) = ⊥

-- the bytes before the first that isn't UTF-8
abbrev pub utf8_front : List ℕ → List ℕ
utf8_front text = take (utf8_valid_len text) text

-- the text spells no JSON value that nests at most 128 deep, and stops there being the start of one
pub record IsNoJson (text : List ℕ) (at : Stop) : Type 0 where
  pub no_json : IsUtf8 text → document text ≡ None
  pub stops : stop_of (utf8_front text) ≡ at

-- the consequence of an error
abbrev pub IsAccurate : List ℕ → ReadError → Type 0
IsAccurate text OutOfMemory = Unit {0}
IsAccurate text TooLong = most_text_bytes < length text
IsAccurate text (NotJson byte) = IsNoJson text (stop.NotJson byte)
IsAccurate text (TooDeep byte) = IsNoJson text (stop.TooDeep byte)
IsAccurate text (NotModule path wanted found) = IsUtf8 text × IsSome (document text)
