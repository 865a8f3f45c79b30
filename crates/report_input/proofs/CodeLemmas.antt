-- Whether a byte is the first that isn't UTF-8.
use Rattle.std.proofs.Common.{◌≡◌, ◌≢◌, ◌↔◌, ◌∙◌, arith, refl, subst, sym, false, true, ℕ, List}
use Rattle.std.proofs.lemmas.Bool.{false≢true}
use Rattle.std.proofs.lemmas.Str.{utf8_valid_len-IsUtf8, utf8_valid_len-IsValidUpTo}
use Rattle.std.specs.Str.{IsUtf8, IsValidUpTo}

pub whole : (input : List ℕ) (byte : ℕ) → IsUtf8 input → (true ≡ false) ↔ IsValidUpTo input byte
whole input byte utf8 = (
  λ e. absurd (false≢true (sym e)),
  λ valid. absurd (omega (arith, valid.short, utf8_valid_len-IsUtf8 input utf8, utf8_valid_len-IsValidUpTo input byte valid)),
)

pub here : (input : List ℕ) (n byte : ℕ) → IsValidUpTo input n → n ≡ byte → (false ≡ false) ↔ IsValidUpTo input byte
here input n byte valid is = (λ _. subst (λ at. IsValidUpTo input at) is valid, λ _. refl)

pub elsewhere : (input : List ℕ) (n byte : ℕ) → IsValidUpTo input n → n ≢ byte → (true ≡ false) ↔ IsValidUpTo input byte
elsewhere input n byte valid other = (
  λ e. absurd (false≢true (sym e)),
  λ also. absurd (other (sym (utf8_valid_len-IsValidUpTo input n valid) ∙ utf8_valid_len-IsValidUpTo input byte also)),
)
