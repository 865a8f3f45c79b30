-- How names are shown.
use Rattle.std.specs.Prelude.{◌==◌, ◌-◌, ◌&&◌, ◌||◌, ◌++◌, ℕ, Bool, false, List, [], ◌∷◌, codes, encode_utf8, if◌then◌else◌, length}
use Rattle.std.specs.Prelude.{nat_le, take}
use Rattle.std.specs.Fmt.{digits}
use Rattle.std.specs.List.{list_any}
use Rattle.std.specs.Str.{chars}

-- the character is in a run from the first to the last
abbrev pub is_within : ℕ → ℕ × ℕ → Bool
is_within c run = nat_le run.0 c && nat_le c run.1

-- the runs of characters that a reader can't see, or that change how others are seen
abbrev pub hidden_runs : List (ℕ × ℕ)
hidden_runs = (0x0, 0x20) ∷ (0x7F, 0xA0) ∷ (0xAD, 0xAD) ∷ (0x61C, 0x61C) ∷ (0x115F, 0x1160) ∷ (0x1680, 0x1680) ∷ (0x17B4, 0x17B5)
    ∷ (0x180B, 0x180F) ∷ (0x2000, 0x200F) ∷ (0x2028, 0x202F) ∷ (0x205F, 0x206F) ∷ (0x2800, 0x2800) ∷ (0x3000, 0x3000) ∷ (0x3164, 0x3164)
    ∷ (0xFE00, 0xFE0F) ∷ (0xFEFF, 0xFEFF) ∷ (0xFFA0, 0xFFA0) ∷ (0xFFF0, 0xFFFF) ∷ (0xE0000, 0xE0FFF) ∷ []

unfoldable pub is_hidden : ℕ → Bool
is_hidden c = list_any (is_within c) hidden_runs

-- a quotation mark, a backslash, a backquote, or a hidden character
abbrev pub is_escaped : ℕ → Bool
is_escaped c = c == 34 || (c == 92 || (c == 96 || is_hidden c))

-- the escape of a character, as Rust writes it in a literal
abbrev pub escape_of : ℕ → List ℕ
escape_of c = if c == 10 then codes "\\n" else (if c == 13 then codes "\\r" else (if c == 9 then codes "\\t" else
    (if c == 34 then codes "\\\"" else (if c == 92 then codes "\\\\" else codes "\\u{" ++ digits 16 false c ++ codes "}"))))

abbrev pub shown_character : ℕ → List ℕ
shown_character c = if is_escaped c then escape_of c else encode_utf8 c

-- a character takes one column, and an escape as many as it has characters
abbrev pub width_of : ℕ → ℕ
width_of c = if is_escaped c then length (escape_of c) else 1

-- the characters fit into so many columns
abbrev pub fits : ℕ → List ℕ → Bool
fits room [] = nat_le 0 room
fits room (c ∷ cs) = nat_le (width_of c) room && fits (room - width_of c) cs

-- the first of the characters, as many as fit into so many columns
abbrev pub fitting_text : ℕ → List ℕ → List ℕ
fitting_text room [] = []
fitting_text room (c ∷ cs) = if nat_le (width_of c) room then shown_character c ++ fitting_text (room - width_of c) cs else []

-- quoted if a character is written as an escape
abbrev pub quoted : List ℕ → List ℕ → List ℕ
quoted cs text = if list_any is_escaped cs then codes "\"" ++ text ++ codes "\"" else text

-- a name that takes more than 40 columns is cut to 37, and three dots follow
abbrev pub shown_characters : List ℕ → List ℕ
shown_characters cs = if fits 40 cs then quoted cs (fitting_text 40 cs) else quoted cs (fitting_text 37 cs) ++ codes "..."

abbrev pub name_text : List ℕ → List ℕ
name_text name = shown_characters (take 41 (chars name))
