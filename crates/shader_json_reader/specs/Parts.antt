-- Strings, numbers and words of JSON (RFC 8259), one byte at a time. A surrogate stands only in a pair.
use Rattle.std.specs.Prelude.{◌||◌, ◌==◌, ℕ, Bool, true, false, Option, Some, None, nat_le, if◌then◌else◌}
use Rattle.std.specs.Bool.{then_some}
use Rattle.std.specs.Char.{is_ascii_digit, is_ascii_hexdigit}
use Rattle.std.specs.Int.{is_in_range}
use Rattle.json.specs.Ascii as ascii
use Rattle.shader_json_reader.specs.declared.grammar.Character.{Character}
use Rattle.shader_json_reader.specs.declared.grammar.Character.TheVariants as next
use Rattle.shader_json_reader.specs.declared.grammar.Digits.{Digits}
use Rattle.shader_json_reader.specs.declared.grammar.Digits.TheVariants as digits
use Rattle.shader_json_reader.specs.declared.grammar.Expected.{Expected}
use Rattle.shader_json_reader.specs.declared.grammar.Expected.TheVariants.{Colon, CommaOrEnd, Word}
use Rattle.shader_json_reader.specs.declared.grammar.Letters.{Letters}
use Rattle.shader_json_reader.specs.declared.grammar.Letters.TheVariants as letters
use Rattle.shader_json_reader.specs.declared.grammar.Role.{Role}
use Rattle.shader_json_reader.specs.declared.grammar.Role.TheVariants as role

-- white space
abbrev pub is_blank : ℕ → Bool
is_blank byte = (byte == ascii.space) || (byte == ascii.tab) || (byte == ascii.line_feed) || (byte == ascii.carriage_return)

-- ---- strings

-- the name of an escape other than `u`
abbrev pub is_escape : ℕ → Bool
is_escape byte = (byte == ascii.quote) || (byte == ascii.backslash) || (byte == ascii.slash) || (byte == ascii.lower_b)
    || (byte == ascii.lower_f) || (byte == ascii.lower_n) || (byte == ascii.lower_r) || (byte == ascii.lower_t)

abbrev pub is_d : ℕ → Bool
is_d byte = (byte == 100) || (byte == 68)

abbrev pub behind_any : ℕ → Option Character
behind_any byte = if byte == ascii.backslash then Some next.Escape else then_some (nat_le ascii.space byte) next.Any

abbrev pub behind_escape : ℕ → Option Character
behind_escape byte = if byte == ascii.lower_u then Some next.FourDigits else then_some (is_escape byte) next.Any

abbrev pub behind_first_digit : ℕ → Option Character
behind_first_digit byte = if is_d byte then Some next.ThreeBehindD else then_some (is_ascii_hexdigit byte) next.ThreeDigits

-- `d` and 0 to 7 begin a character, `d` and 8 to b a high surrogate
abbrev pub behind_d : ℕ → Option Character
behind_d byte =
    if is_in_range 48 55 byte then Some next.TwoDigits
    else then_some (is_in_range 56 57 byte || is_in_range 65 66 byte || is_in_range 97 98 byte) next.TwoOfHigh

-- the next part of a string, behind a byte other than the quote at its end
abbrev pub next_character : Character → ℕ → Option Character
next_character next.Any byte = behind_any byte
next_character next.Escape byte = behind_escape byte
next_character next.FourDigits byte = behind_first_digit byte
next_character next.ThreeBehindD byte = behind_d byte
next_character next.ThreeDigits byte = then_some (is_ascii_hexdigit byte) next.TwoDigits
next_character next.TwoDigits byte = then_some (is_ascii_hexdigit byte) next.OneDigit
next_character next.OneDigit byte = then_some (is_ascii_hexdigit byte) next.Any
next_character next.TwoOfHigh byte = then_some (is_ascii_hexdigit byte) next.OneOfHigh
next_character next.OneOfHigh byte = then_some (is_ascii_hexdigit byte) next.LowBackslash
next_character next.LowBackslash byte = then_some (byte == ascii.backslash) next.LowU
next_character next.LowU byte = then_some (byte == ascii.lower_u) next.FourOfLow
next_character next.FourOfLow byte = then_some (is_d byte) next.ThreeOfLow
next_character next.ThreeOfLow byte = then_some (is_in_range 67 70 byte || is_in_range 99 102 byte) next.TwoDigits

abbrev pub behind_string : Role → Expected
behind_string role.Key = Colon
behind_string role.Value = CommaOrEnd

-- ---- numbers

abbrev pub behind_first : ℕ → Option Digits
behind_first byte = if byte == ascii.zero then Some digits.BehindZero else then_some (is_ascii_digit byte) digits.Integer

abbrev pub behind_e : ℕ → Option Digits
behind_e byte = then_some ((byte == ascii.lower_e) || (byte == ascii.upper_e)) digits.SignOfExponent

abbrev pub behind_integer : ℕ → Option Digits
behind_integer byte = if byte == ascii.dot then Some digits.FirstOfFraction else behind_e byte

abbrev pub behind_sign : ℕ → Option Digits
behind_sign byte =
    if (byte == ascii.plus) || (byte == ascii.minus) then Some digits.FirstOfExponent
    else then_some (is_ascii_digit byte) digits.Exponent

-- these digits, if the byte is one of them, or else what follows them
abbrev pub more : ℕ → Digits → Option Digits → Option Digits
more byte next other = if is_ascii_digit byte then Some next else other

-- the next part of a number, behind a byte of it
abbrev pub next_digits : Digits → ℕ → Option Digits
next_digits digits.First byte = behind_first byte
next_digits digits.BehindZero byte = behind_integer byte
next_digits digits.Integer byte = more byte digits.Integer (behind_integer byte)
next_digits digits.FirstOfFraction byte = more byte digits.Fraction None
next_digits digits.Fraction byte = more byte digits.Fraction (behind_e byte)
next_digits digits.SignOfExponent byte = behind_sign byte
next_digits digits.FirstOfExponent byte = more byte digits.Exponent None
next_digits digits.Exponent byte = more byte digits.Exponent None

-- the number may end before this part
abbrev pub may_end : Digits → Bool
may_end digits.First = false
may_end digits.BehindZero = true
may_end digits.Integer = true
may_end digits.FirstOfFraction = false
may_end digits.Fraction = true
may_end digits.SignOfExponent = false
may_end digits.FirstOfExponent = false
may_end digits.Exponent = true

-- ---- words

-- the first of these letters
abbrev pub letter : Letters → ℕ
letter letters.Rue = 114
letter letters.Ue = 117
letter letters.E = 101
letter letters.Alse = 97
letter letters.Lse = 108
letter letters.Se = 115
letter letters.Ull = 117
letter letters.Ll = 108
letter letters.L = 108

abbrev pub behind_letter : Letters → Expected
behind_letter letters.Rue = Word letters.Ue
behind_letter letters.Ue = Word letters.E
behind_letter letters.E = CommaOrEnd
behind_letter letters.Alse = Word letters.Lse
behind_letter letters.Lse = Word letters.Se
behind_letter letters.Se = Word letters.E
behind_letter letters.Ull = Word letters.Ll
behind_letter letters.Ll = Word letters.L
behind_letter letters.L = CommaOrEnd
