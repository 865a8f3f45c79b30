-- What the stop of a text says of its errors.
use Rattle.std.proofs.Common.{◌≡◌, ◌⊎◌, ◌∙◌, ap, arith, inl, inr, sym, subst, ℕ, List, None, length, take}
use Rattle.std.proofs.lemmas.List.{take_all}
use Rattle.std.proofs.lemmas.Str.{utf8_valid_len-IsUtf8}
use Rattle.std.specs.Str.{IsUtf8}
use Rattle.std.specs.Str.Lossy.{utf8_valid_len}
use Rattle.json.specs.Json.{document}
use Rattle.shader_json_reader.specs.Errors.{IsAccurate, IsOfModule, IsStoppedAt, utf8_front}
use Rattle.shader_json_reader.specs.Grammar.{stop_of}
use Rattle.shader_json_reader.specs.declared.error.ReadError.{ReadError}
use Rattle.shader_json_reader.specs.declared.error.ReadError.TheVariants.{OutOfMemory, TooLong, NotJson, TooDeep, NotModule}

-- a text in UTF-8 is the bytes before the first that isn't
whole_front : (text : List ℕ) → IsUtf8 text → utf8_front text ≡ text
whole_front text utf8 = ap (λ n. take n text) (utf8_valid_len-IsUtf8 text utf8) ∙ take_all (length text) text (omega arith)

-- a text that is no JSON, by the stop of the bytes before the first that isn't UTF-8
module _ (text : List ℕ) (no_json : IsUtf8 text → document text ≡ None) where
  of_front : (error : ReadError) → IsStoppedAt (stop_of (utf8_front text)) error → IsAccurate text error
  of_front OutOfMemory is = absurd is
  of_front TooLong is = absurd is
  of_front (NotJson byte) is = record { no_json = no_json; stops = is }
  of_front (TooDeep byte) is = record { no_json = no_json; stops = is }
  of_front (NotModule path wanted found) is = absurd is

  pub accurate_at : (error : ReadError) → (error ≡ OutOfMemory) ⊎ IsStoppedAt (stop_of (utf8_front text)) error → IsAccurate text error
  accurate_at error (inl memory) = subst (λ (e : ReadError). IsAccurate text e) (sym memory) tt
  accurate_at error (inr is) = of_front error is

-- the same of a text in UTF-8
pub accurate : (text : List ℕ) (error : ReadError) → IsUtf8 text → document text ≡ None
    → (error ≡ OutOfMemory) ⊎ IsStoppedAt (stop_of text) error → IsAccurate text error
accurate text error utf8 none h =
    accurate_at text (λ _. none) error
    (subst (λ front. (error ≡ OutOfMemory) ⊎ IsStoppedAt (stop_of front) error) (sym (whole_front text utf8)) h)

-- the same of bytes that aren't UTF-8, of which the first n are
pub accurate_before : (text : List ℕ) (n : ℕ) (error : ReadError) → (IsUtf8 text → ⊥) → n ≡ utf8_valid_len text
    → (error ≡ OutOfMemory) ⊎ IsStoppedAt (stop_of (take n text)) error → IsAccurate text error
accurate_before text n error other valid h =
    accurate_at text (λ utf8. absurd (other utf8)) error
    (subst (λ m. (error ≡ OutOfMemory) ⊎ IsStoppedAt (stop_of (take m text)) error) valid h)

-- such an error is none of a module
of_stop : (front : List ℕ) (error : ReadError) → IsStoppedAt (stop_of front) error → IsOfModule error → ⊥
of_stop front OutOfMemory stopped is = is
of_stop front TooLong stopped is = is
of_stop front (NotJson byte) stopped is = is
of_stop front (TooDeep byte) stopped is = is
of_stop front (NotModule path wanted found) stopped is = stopped

pub none_of_module : (front : List ℕ) (error : ReadError) → (error ≡ OutOfMemory) ⊎ IsStoppedAt (stop_of front) error → IsOfModule error → ⊥
none_of_module front error (inl memory) is = subst IsOfModule memory is
none_of_module front error (inr stopped) is = of_stop front error stopped is
