-- Texts without separators, and lists of words between separators.
use Rattle.std.proofs.Common.{◌≡◌, ℕ, ◌<◌, ◌^◌, Bool, true, false, cond, eqb, ◌||◌, List, [], ◌∷◌, ◌++◌, refl, ap, ◌∙◌, arith}
use Rattle.std.specs.Fmt.{decimal}
use Rattle.std.specs.List.{slice_split, onto_first, list_any, join_with_byte}
use Rattle.std.specs.Str.Parse.{AllDigits}
use Rattle.std.proofs.lemmas.Bool.{ne_eqb, or_from, or_parts}
use Rattle.std.proofs.lemmas.Fmt.{digits_decimal}
use Rattle.std.proofs.lemmas.List.Folds.{list_any-append}
use Rattle.std.proofs.lemmas.Str.Parse.{digit_from_value, numerals_by_value, tells_digits}

-- a space or an end of line
abbrev pub is_break : ℕ → Bool
is_break b = eqb b 32 || eqb b 10

-- a space, an end of line or a comma
abbrev pub is_separator : ℕ → Bool
is_separator b = is_break b || eqb b 44

abbrev pub is_space : ℕ → Bool
is_space b = eqb b 32

abbrev pub is_end : ℕ → Bool
is_end b = eqb b 10

abbrev pub is_comma : ℕ → Bool
is_comma b = eqb b 44

pub fewer : (p q : ℕ → Bool) → ((b : ℕ) → q b ≡ false → p b ≡ false) → (xs : List ℕ) → list_any q xs ≡ false → list_any p xs ≡ false
fewer p q implied [] none = refl
fewer p q implied (x ∷ xs) none =
    let both = or_parts (q x) (list_any q xs) none in
    or_from (p x) (list_any p xs) (implied x both.0) (fewer p q implied xs both.1)

pub no_break : (xs : List ℕ) → list_any is_separator xs ≡ false → list_any is_break xs ≡ false
no_break = fewer is_break is_separator (λ b none. (or_parts (is_break b) (is_comma b) none).0)

pub no_comma : (xs : List ℕ) → list_any is_separator xs ≡ false → list_any is_comma xs ≡ false
no_comma = fewer is_comma is_separator (λ b none. (or_parts (is_break b) (is_comma b) none).1)

pub no_space : (xs : List ℕ) → list_any is_break xs ≡ false → list_any is_space xs ≡ false
no_space = fewer is_space is_break (λ b none. (or_parts (is_space b) (is_end b) none).0)

pub no_end : (xs : List ℕ) → list_any is_break xs ≡ false → list_any is_end xs ≡ false
no_end = fewer is_end is_break (λ b none. (or_parts (is_space b) (is_end b) none).1)

pub quiet_append : (p : ℕ → Bool) (xs ys : List ℕ) → list_any p xs ≡ false → list_any p ys ≡ false → list_any p (xs ++ ys) ≡ false
quiet_append p xs ys none nor = list_any-append p xs ys ∙ or_from (list_any p xs) (list_any p ys) none nor

digits_quiet : (digits : List ℕ) → AllDigits 10 digits → list_any is_separator digits ≡ false
digits_quiet [] all = refl
digits_quiet (c ∷ digits) all =
    let range = digit_from_value c all.0 in
    let space : eqb c 32 ≡ false = ne_eqb c 32 (λ e. omega (arith, range)) in
    let end : eqb c 10 ≡ false = ne_eqb c 10 (λ e. omega (arith, range)) in
    let comma : eqb c 44 ≡ false = ne_eqb c 44 (λ e. omega (arith, range)) in
    or_from (is_separator c) (list_any is_separator digits)
    (or_from (is_break c) (is_comma c) (or_from (is_space c) (is_end c) space end) comma)
    (digits_quiet digits all.1)

-- a decimal consists of digits
pub decimal_quiet : (n : ℕ) → n < 2 ^ 64 → list_any is_separator (decimal n) ≡ false
decimal_quiet n small = digits_quiet (decimal n) (digits_decimal (numerals_by_value (AllDigits 10) tells_digits) n small)

-- ---- words between separators

pub onto_piece : (b : Bool) (c : Bool) (x : ℕ) (s : List (List ℕ)) (z : List (List ℕ)) (xs : List ℕ) (more : List (List ℕ)) →
    (b || c) ≡ false
    → (c ≡ false → s ≡ xs ∷ more) → cond b z (onto_first x s) ≡ (x ∷ xs) ∷ more
onto_piece true c x s z xs more none later = cc
onto_piece false c x s z xs more none later = ap (onto_first x) (later none)

pub split_front : (separator : ℕ) (xs rest : List ℕ) → list_any (λ b. eqb b separator) xs ≡ false
    → eqb separator separator ≡ true
    → slice_split (λ b. eqb b separator) (xs ++ separator ∷ rest) ≡ xs ∷ slice_split (λ b. eqb b separator) rest
split_front separator [] rest none itself = rw itself refl
split_front separator (x ∷ xs) rest none itself =
    onto_piece (eqb x separator) (list_any (λ b. eqb b separator) xs) x _ _ xs (slice_split (λ b. eqb b separator) rest) none
    (λ later. split_front separator xs rest later itself)

split_last : (separator : ℕ) (xs : List ℕ) → list_any (λ b. eqb b separator) xs ≡ false → slice_split (λ b. eqb b separator) xs ≡ xs ∷ []
split_last separator [] none = refl
split_last separator (x ∷ xs) none = onto_piece (eqb x separator) (list_any (λ b. eqb b separator) xs) x _ _ xs [] none
    (split_last separator xs)

-- no word contains the separator
abbrev pub AreSolid : ℕ → List (List ℕ) → Type 0
AreSolid separator [] = Unit {0}
AreSolid separator (word ∷ words) = (list_any (λ b. eqb b separator) word ≡ false) × AreSolid separator words

-- words that were joined are split again
pub split_joined : (separator : ℕ) (word : List ℕ) (words : List (List ℕ)) → eqb separator separator ≡ true →
    AreSolid separator (word ∷ words)
    → slice_split (λ b. eqb b separator) (join_with_byte separator (word ∷ words)) ≡ word ∷ words
split_joined separator word [] itself solid = split_last separator word solid.0
split_joined separator word (next ∷ words) itself solid =
    split_front separator word (join_with_byte separator (next ∷ words)) solid.0 itself
    ∙ ap (λ (ws : List (List ℕ)). word ∷ ws) (split_joined separator next words itself solid.1)
