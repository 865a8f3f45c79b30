-- Decimal numbers without leading zeros.
use Rattle.std.specs.Prelude.{◌^◌, ◌==◌, ◌&&◌, nat_lt, if◌then◌else◌, ℕ, List, Option, Some, None}
use Rattle.std.specs.Option.{option_and_then}
use Rattle.std.specs.Str.{bytes_eq}
use Rattle.std.specs.Str.Parse.{digits_value}
use Rattle.std.specs.Fmt.{decimal}

-- the number of 32 bits whose decimal the word is
abbrev pub number_of_word : List ℕ → Option ℕ
number_of_word word =
    let number = digits_value 10 word in
    if nat_lt number (2 ^ 32) && bytes_eq (decimal number) word then Some number else None

-- a number that is not 0
abbrev pub positive : ℕ → Option ℕ
positive number = if number == 0 then None else Some number

-- the count from 1 to 4,294,967,295 whose decimal the word is
abbrev pub count_of_word : List ℕ → Option ℕ
count_of_word word = option_and_then positive (number_of_word word)
