-- The integer that a text spells, as `parse` reads it.
use Rattle.std.proofs.Common.{◌≡◌, ℕ, ◌&&◌, true, refl, List, [], ◌∷◌, Some}
use Rattle.std.proofs.Common.{None, Result, Ok, Err, MatchResult, length, ltb-true, lt-ltb, nat_lt}
use Rattle.std.specs.Char.{is_digit}
use Rattle.std.specs.List.{list_all}
use Rattle.std.specs.Str.Parse.{AllDigits, ParsesUnsigned, digits_value, without_leading_plus}
use Rattle.std.proofs.lemmas.Bool.{and_from, and_parts, cond-false, false_from_ne_true}
use Rattle.shader_interface.specs.Interface.{integer_of}

digits_pass : (ds : List ℕ) → AllDigits 10 ds → list_all (λ c. is_digit c 10) ds ≡ true
digits_pass [] h = refl
digits_pass (d ∷ ds) h = and_from _ _ (lt-ltb _ 10 h.0) (digits_pass ds h.1)

digits_from : (ds : List ℕ) → list_all (λ c. is_digit c 10) ds ≡ true → AllDigits 10 ds
digits_from [] h = tt
digits_from (d ∷ ds) h = let both = and_parts (is_digit d 10) _ h in (ltb-true _ 10 both.0, digits_from ds both.1)

pub integer_parsed : {E : Type 0} (text : List ℕ) (r : Result ℕ E) → ParsesUnsigned 32 10 text r →
    MatchResult r (λ n. integer_of text ≡ Some n) (λ _. integer_of text ≡ None)
unfolding integer_of
integer_parsed text (Ok n) h = rw (h.1, integer_of, lt-ltb _ _ h.0.0.0, digits_pass _ h.0.0.1, lt-ltb _ _ h.0.1)
integer_parsed text (Err e) h = cond-false _ _ _ (false_from_ne_true _ (λ all.
    let ds = without_leading_plus text in
    let outer = and_parts (nat_lt 0 (length ds) && list_all (λ c. is_digit c 10) ds) _ all in
    let inner = and_parts (nat_lt 0 (length ds)) _ outer.0 in
    h ((ltb-true 0 _ inner.0, digits_from ds inner.1), ltb-true _ _ outer.1)))
