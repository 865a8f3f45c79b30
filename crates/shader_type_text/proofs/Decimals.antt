-- A decimal is text, and reads as its number.
use Rattle.std.proofs.Common.{◌≡◌, ◌∙◌, ℕ, ◌^◌, ◌<◌, true, ltb, ◌&&◌, List, Result, Ok, Option, Some, None, refl, sym, ap, arith}
use Rattle.std.specs.Fmt.{decimal}
use Rattle.std.specs.Str.{IsUtf8, bytes_eq}
use Rattle.std.specs.Str.Parse.{AllDigits, ParsesUnsigned, digits_value}
use Rattle.std.proofs.lemmas.Bool.{and_parts, lt-ltb, ltb-true}
use Rattle.std.proofs.lemmas.Fmt.{IsAscii-decimal, digits_value-decimal, parse-decimal}
use Rattle.std.proofs.lemmas.Option.{cond_some}
use Rattle.std.proofs.lemmas.Result.{OkIff-at_ok}
use Rattle.std.proofs.lemmas.Slice.Eq.{bytes_eq-Decides}
use Rattle.std.proofs.lemmas.Str.{IsUtf8-from_ascii}
use Rattle.std.proofs.lemmas.Str.Parse.{numerals_by_value, tells_digits}
use Rattle.shader_type_text.specs.Numbers.{number_of_word}

pub decimal_is_text : (word : List ℕ) (n : ℕ) → n < 2 ^ 32 → word ≡ decimal n → IsUtf8 word
decimal_is_text word n small is = rw is (IsUtf8-from_ascii (decimal n) (IsAscii-decimal n (omega arith)))

pub decimal_is_read : {E : Type 0} (word : List ℕ) (n : ℕ) (r : Result ℕ E) → n < 2 ^ 32 → word ≡ decimal n →
    ParsesUnsigned 32 10 word r → r ≡ Ok n
decimal_is_read word n r small is parses = parse-decimal 32 n word r small (omega arith) is parses

-- a number that is read has 32 bits
pub read_small : {E : Type 0} (word : List ℕ) (n : ℕ) (r : Result ℕ E) → r ≡ Ok n → ParsesUnsigned 32 10 word r → n < 2 ^ 32
read_small word n r is parses = let h = OkIff-at_ok r _ _ n parses is in omega (arith, h.0.1, h.1)

-- a number of 32 bits is the number of its decimal
pub number_named : (n : ℕ) → n < 2 ^ 32 → number_of_word (decimal n) ≡ Some n
number_named n small =
    let value : digits_value 10 (decimal n) ≡ n = digits_value-decimal (numerals_by_value (AllDigits 10) tells_digits) n (omega arith) in
    let fits : ltb n (2 ^ 32) ≡ true = lt-ltb n (2 ^ 32) small in
    let same : bytes_eq (decimal n) (decimal n) ≡ true = (bytes_eq-Decides (decimal n) (decimal n)).1 refl in
    rw (value, fits, same) refl

-- the number of a word has the word as its decimal, and 32 bits
pub number_is : (word : List ℕ) (n : ℕ) → number_of_word word ≡ Some n → (word ≡ decimal n) × (n < 2 ^ 32)
number_is word n found =
    let value = digits_value 10 word in
    let h = cond_some (ltb value (2 ^ 32) && bytes_eq (decimal value) word) value n found in
    let both = and_parts (ltb value (2 ^ 32)) (bytes_eq (decimal value) word) h.0 in
    let same = (bytes_eq-Decides (decimal value) word).0 both.1 in
    let small : value < 2 ^ 32 = ltb-true value (2 ^ 32) both.0 in
    (sym same ∙ ap decimal h.1, omega (arith, h.1))

at_none : (word : List ℕ) (o : Option ℕ) → number_of_word word ≡ o → ((n : ℕ) → n < 2 ^ 32 → word ≡ decimal n → ⊥) →
    number_of_word word ≡ None
at_none word None is none = is
at_none word (Some n) is none = let h = number_is word n is in absurd (none n h.1 h.0)

-- a word that isn't a decimal of 32 bits has no number
pub number_none : (word : List ℕ) → ((n : ℕ) → n < 2 ^ 32 → word ≡ decimal n → ⊥) → number_of_word word ≡ None
number_none word none = at_none word (number_of_word word) refl none
