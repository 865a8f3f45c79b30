-- Places in a text.
use Rattle.std.specs.Prelude.{ℕ, Bool, true, false, List, [], ◌∷◌, ◌+◌, ◌-◌, ◌^◌, ◌&&◌, min, nat_eq, nat_le, nat_lt, take}
use Rattle.report_input.specs.declared.places.Place.{Place}

-- one more, as far as 64 bits have room for it
abbrev next : ℕ → ℕ
next n = min (n + 1) (2 ^ 64 - 1)

abbrev after_if : Bool → Bool → Place → Place
after_if true continues place = record { line = next place.line; column = 1 }
after_if false true place = place
after_if false false place = record { line = place.line; column = next place.column }

-- byte 10 ends a line, and the bytes from 128 to 191 go on with a character
abbrev pub after : Place → ℕ → Place
after place byte = after_if (nat_eq byte 10) (nat_le 128 byte && nat_lt byte 192) place

abbrev pub after_all : Place → List ℕ → Place
after_all place [] = place
after_all place (byte ∷ bytes) = after_all (after place byte) bytes

abbrev pub start : Place
start = record { line = 1; column = 1 }

-- the place of the byte of this index
abbrev pub place_in : List ℕ → ℕ → Place
place_in text byte = after_all start (take byte text)
