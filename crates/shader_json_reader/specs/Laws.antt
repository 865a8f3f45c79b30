-- What the stop of a text depends on.
use Rattle.std.specs.Prelude.{◌≡◌, ◌<◌, ◌++◌, ℕ, List, length}
use Rattle.shader_json_reader.specs.Grammar.{stop_of}
use Rattle.shader_json_reader.specs.declared.grammar.Stop.{Stop}
use Rattle.shader_json_reader.specs.declared.grammar.Stop.TheVariants.{NotJson, TooDeep}

abbrev pub byte_of : Stop → ℕ
byte_of (NotJson byte) = byte
byte_of (TooDeep byte) = byte

-- if a text stops within its beginning, so does each text with that beginning
abbrev pub StopLooksNoFurther : Type 0
StopLooksNoFurther = (beginning rest other : List ℕ) → byte_of (stop_of (beginning ++ rest)) < length beginning
    → stop_of (beginning ++ other) ≡ stop_of (beginning ++ rest)
