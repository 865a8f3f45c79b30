-- JSON's grammar (RFC 8259), one byte at a time: what a byte does, and where a text stops being the start of some JSON.
use Rattle.std.specs.Prelude.{◌≡◌, ◌+◌, ◌-◌, ◌==◌, ℕ, List, [], ◌∷◌, ◌++◌, Bool, true, false, Option, Some, None}
use Rattle.std.specs.Prelude.{length, option_and_then, option_map, take, if◌then◌else◌}
use Rattle.std.specs.Bool.{then_some}
use Rattle.std.specs.List.{slice_get}
use Rattle.json.specs.Ascii as ascii
use Rattle.json.specs.Json.{max_depth}
use Rattle.shader_json_reader.specs.Parts.{behind_first, behind_letter, behind_string, is_blank, letter, may_end}
use Rattle.shader_json_reader.specs.Parts.{next_character, next_digits}
use Rattle.shader_json_reader.specs.declared.grammar.Bracket.{Bracket}
use Rattle.shader_json_reader.specs.declared.grammar.Bracket.TheVariants.{Array, Object}
use Rattle.shader_json_reader.specs.declared.grammar.Character.{Character}
use Rattle.shader_json_reader.specs.declared.grammar.Character.TheVariants as next
use Rattle.shader_json_reader.specs.declared.grammar.Digits.{Digits}
use Rattle.shader_json_reader.specs.declared.grammar.Digits.TheVariants as digits
use Rattle.shader_json_reader.specs.declared.grammar.Expected.{Expected}
use Rattle.shader_json_reader.specs.declared.grammar.Expected.TheVariants.{Value, ItemOrEnd, KeyOrEnd, Key, Colon, CommaOrEnd}
use Rattle.shader_json_reader.specs.declared.grammar.Expected.TheVariants.{String, Number, Word}
use Rattle.shader_json_reader.specs.declared.grammar.Letters.{Letters}
use Rattle.shader_json_reader.specs.declared.grammar.Letters.TheVariants as letters
use Rattle.shader_json_reader.specs.declared.grammar.Move.{Move}
use Rattle.shader_json_reader.specs.declared.grammar.Move.TheVariants.{To, Open, Close}
use Rattle.shader_json_reader.specs.declared.grammar.Next.{Next}
use Rattle.shader_json_reader.specs.declared.grammar.Role.{Role}
use Rattle.shader_json_reader.specs.declared.grammar.Role.TheVariants as role
use Rattle.shader_json_reader.specs.declared.grammar.Stop.{Stop}
use Rattle.shader_json_reader.specs.declared.grammar.Stop.TheVariants.{NotJson, TooDeep}

-- ---- what a byte does. None: no JSON goes on so

abbrev pub is_last_quote : Character → ℕ → Bool
is_last_quote next.Any byte = byte == ascii.quote
is_last_quote _ byte = false

abbrev pub move_in_string : Role → Character → ℕ → Option Move
move_in_string role character byte =
    if is_last_quote character byte then Some (To (behind_string role))
    else option_map (λ more. To (String role more)) (next_character character byte)

abbrev pub move_in_word : Letters → ℕ → Option Move
move_in_word letters byte = then_some (byte == letter letters) (To (behind_letter letters))

abbrev pub move_at_value : ℕ → Option Move
move_at_value byte =
    if byte == ascii.open_bracket then Some (Open Array)
    else (if byte == ascii.open_brace then Some (Open Object)
    else (if byte == ascii.quote then Some (To (String role.Value next.Any))
    else (if byte == ascii.lower_t then Some (To (Word letters.Rue))
    else (if byte == ascii.lower_f then Some (To (Word letters.Alse))
    else (if byte == ascii.lower_n then Some (To (Word letters.Ull))
    else (if byte == ascii.minus then Some (To (Number digits.First))
    else option_map (λ more. To (Number more)) (behind_first byte)))))))

abbrev pub move_at_key : ℕ → Option Move
move_at_key byte = then_some (byte == ascii.quote) (To (String role.Key next.Any))

abbrev pub move_at_end : ℕ → Option Move → ℕ → Option Move
move_at_end end other byte = if byte == end then Some Close else other

abbrev pub move_at_comma : Expected → Option Move → ℕ → Option Move
move_at_comma expected other byte = if byte == ascii.comma then Some (To expected) else other

abbrev pub move_before : Expected → Option Move → ℕ → Option Move
move_before expected other byte = if is_blank byte then Some (To expected) else other

-- by the innermost open bracket
abbrev pub move_behind_item : Bracket → ℕ → Option Move
move_behind_item Array byte = move_at_comma Value (move_at_end ascii.close_bracket None byte) byte
move_behind_item Object byte = move_at_comma Key (move_at_end ascii.close_brace None byte) byte

abbrev pub move_behind_value : Option Bracket → ℕ → Option Move
move_behind_value inside byte = move_before CommaOrEnd (option_and_then (λ bracket. move_behind_item bracket byte) inside) byte

abbrev pub move_behind_number : Bool → Option Bracket → ℕ → Option Move
move_behind_number true inside byte = move_behind_value inside byte
move_behind_number false inside byte = None

abbrev pub move_in_number : Digits → Option Digits → Option Bracket → ℕ → Option Move
move_in_number digits (Some next) inside byte = Some (To (Number next))
move_in_number digits None inside byte = move_behind_number (may_end digits) inside byte

abbrev pub move : Expected → Option Bracket → ℕ → Option Move
move Value inside byte = move_before Value (move_at_value byte) byte
move ItemOrEnd inside byte = move_before ItemOrEnd (move_at_end ascii.close_bracket (move_at_value byte) byte) byte
move KeyOrEnd inside byte = move_before KeyOrEnd (move_at_end ascii.close_brace (move_at_key byte) byte) byte
move Key inside byte = move_before Key (move_at_key byte) byte
move Colon inside byte = move_before Colon (then_some (byte == ascii.colon) (To Value)) byte
move CommaOrEnd inside byte = move_behind_value inside byte
move (String role character) inside byte = move_in_string role character byte
move (Number digits) inside byte = move_in_number digits (next_digits digits byte) inside byte
move (Word letters) inside byte = move_in_word letters byte

-- ---- a text

abbrev pub behind_bracket : Bracket → Expected
behind_bracket Array = ItemOrEnd
behind_bracket Object = KeyOrEnd

-- the last of the open brackets
abbrev pub innermost : List Bracket → Option Bracket
innermost brackets = slice_get brackets (length brackets - 1)

-- what a byte leads to: what is expected next, with the brackets that are open then, or a stop
pub data Step : Type 0 where
  goes : Expected → List Bracket → Step
  stops : Stop → Step

-- by what the byte at this index does, with these open brackets
abbrev pub step_by : ℕ → List Bracket → Option Move → Step
step_by at brackets None = stops (NotJson at)
step_by at brackets (Some (To expected)) = goes expected brackets
step_by at brackets (Some (Open bracket)) =
    if length brackets == max_depth then stops (TooDeep at) else goes (behind_bracket bracket) (brackets ++ (bracket ∷ []))
step_by at brackets (Some Close) = goes CommaOrEnd (take (length brackets - 1) brackets)

abbrev pub step : ℕ → Expected → List Bracket → ℕ → Step
step at expected brackets byte = step_by at brackets (move expected (innermost brackets) byte)

-- `more` is the stop of the rest, by what is expected next
abbrev pub stop_behind : Step → (more : Expected → List Bracket → Stop) → Stop
stop_behind (goes expected brackets) more = more expected brackets
stop_behind (stops stop) more = stop

-- the stop of a text from the byte at this index on
unfoldable pub stop_from : ℕ → Expected → List Bracket → List ℕ → Stop
stop_from at expected brackets [] = NotJson at
stop_from at expected brackets (byte ∷ rest) =
    stop_behind (step at expected brackets byte) (λ next inside. stop_from (at + 1) next inside rest)

-- where a text stops being the start of some JSON
abbrev pub stop_of : List ℕ → Stop
stop_of text = stop_from 0 Value [] text

-- ---- how the code holds a step

abbrev pub IsNext : Step → Next → List Bracket → Type 0
IsNext step (Next.Goes expected) brackets = step ≡ goes expected brackets
IsNext step (Next.Stops stop) brackets = step ≡ stops stop
