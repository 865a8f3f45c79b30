-- What numbers, flags and the like mean in JSON.
use Rattle.std.specs.Prelude.{◌≡◌, ◌≢◌, ◌≤◌, ◌≤ℤ◌, ℕ, ℤ, pos, negsuc, List, Bool, true, Option, MatchOption, Ok, codes, option_and_then}
use Rattle.std.specs.Int.{w64}
use Rattle.std.specs.Float.{binary32, binary64, float_is_finite}
use Rattle.std.specs.Float.Ieee.{Float, to_bits}
use Rattle.std.specs.Float.Parse.{parse_float}
use Rattle.std.specs.Str.Parse.{ParsesSigned, ParsesUnsigned}
use Rattle.bitflags.specs.Sets.{Row}
use Rattle.bitflags.specs.Text.{read_text, name_piece}
use Rattle.json.specs.Json.{Json, boolean, string}
use Rattle.json.specs.Find.{as_number, as_str}

-- the value is a number that spells n, without sign, point and exponent
abbrev pub SpellsUnsigned : Json → ℕ → Type 0
SpellsUnsigned j n = MatchOption (as_number j) ⊥ (λ s. ParsesUnsigned {E = ℕ} 64 10 s (Ok n))

-- the same of a number that may have a sign, unless it is that of 0
abbrev pub SpellsSigned : Json → ℤ → Type 0
SpellsSigned j n = MatchOption (as_number j) ⊥ (λ s. (s ≢ codes "-0") × ParsesSigned {E = ℕ} w64 10 s (Ok n))

-- the value spells an integer from 0 to `most`
abbrev pub IsUnsigned : (most : ℕ) → Json → ℕ → Type 0
IsUnsigned most j n = SpellsUnsigned j n × (n ≤ most)

-- the value spells an integer from `least` to `most`
abbrev pub IsSigned : (least most : ℤ) → Json → ℤ → Type 0
IsSigned least most j n = SpellsSigned j n × (least ≤ℤ n) × (n ≤ℤ most)

-- the integers of each type
abbrev pub IsU8 : Json → ℕ → Type 0
IsU8 j n = IsUnsigned 255 j n

abbrev pub IsU16 : Json → ℕ → Type 0
IsU16 j n = IsUnsigned 65535 j n

abbrev pub IsU32 : Json → ℕ → Type 0
IsU32 j n = IsUnsigned 4294967295 j n

abbrev pub IsU64 : Json → ℕ → Type 0
IsU64 j n = IsUnsigned 18446744073709551615 j n

abbrev pub IsI16 : Json → ℤ → Type 0
IsI16 j n = IsSigned (negsuc 32767) (pos 32767) j n

abbrev pub IsI32 : Json → ℤ → Type 0
IsI32 j n = IsSigned (negsuc 2147483647) (pos 2147483647) j n

abbrev pub IsI64 : Json → ℤ → Type 0
IsI64 j n = IsSigned (negsuc 9223372036854775807) (pos 9223372036854775807) j n

-- a handle, which leaves one position less than 32 bits have
abbrev pub IsHandle : Json → ℕ → Type 0
IsHandle j n = IsUnsigned 4294967294 j n

-- an integer of 32 bits that is not 0
abbrev pub IsCount : Json → ℕ → Type 0
IsCount j n = IsU32 j n × (1 ≤ n)

-- the f64 and the f32 nearest to a number, of two the even one
abbrev pub double_of : Json → Option Float
double_of j = option_and_then (parse_float binary64) (as_number j)

abbrev pub single_of : Json → Option Float
single_of j = option_and_then (parse_float binary32) (as_number j)

-- the value is a number in the range of f64, and the nearest f64 has these bits
abbrev pub IsDouble : Json → ℕ → Type 0
IsDouble j bits = MatchOption (double_of j) ⊥ (λ x. (bits ≡ to_bits binary64 x) × (float_is_finite x ≡ true))

-- the same of f32
abbrev pub IsSingle : Json → ℕ → Type 0
IsSingle j bits = MatchOption (single_of j) ⊥ (λ x. (bits ≡ to_bits binary32 x) × (float_is_finite x ≡ true))

-- the value is that truth value, or that text
abbrev pub IsTruth : Json → Bool → Type 0
IsTruth j b = j ≡ boolean b

abbrev pub IsText : Json → List ℕ → Type 0
IsText j text = j ≡ string text

-- the value is a text that names these flags of a table
abbrev pub AreFlags : List Row → Json → ℕ → Type 0
AreFlags table j bits = MatchOption (as_str j) ⊥ (λ s. read_text (name_piece table) s ≡ Ok bits)
