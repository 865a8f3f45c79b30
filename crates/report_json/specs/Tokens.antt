-- Tokens of JSON, and what is added to JSON that is being written.
use Rattle.std.specs.Prelude.{◌≡◌, ◌++◌, ℕ, List, [], ◌∷◌, Option, Some, None}
use Rattle.std.specs.Fmt.{decimal}
use Rattle.json.specs.Token.{Token, begin_array, begin_object, end_array, end_object, key, null, number, string}
use Rattle.json.specs.Written.{Written}

-- an object with these members
abbrev pub object : List Token → List Token
object members = begin_object ∷ (members ++ end_object ∷ [])

-- an array of these values
abbrev pub array : List Token → List Token
array values = begin_array ∷ (values ++ end_array ∷ [])

-- the name of a variant with its data
abbrev pub variant : List ℕ → List Token → List Token
variant name value = object (key name ∷ value)

-- the name of a variant with its fields
abbrev pub fields : List ℕ → List Token → List Token
fields name members = variant name (object members)

abbrev pub number_tokens : ℕ → List Token
number_tokens n = number (decimal n) ∷ []

abbrev pub text_tokens : List ℕ → List Token
text_tokens text = string text ∷ []

abbrev pub optional_tokens : {A : Type 0} → (A → List Token) → Option A → List Token
optional_tokens tokens (Some value) = tokens value
optional_tokens tokens None = null ∷ []

-- the tokens are added, and what was before them stays
pub record Adds (old new : Written) (tokens : List Token) : Type 0 where
  pub before : new.before ≡ old.before
  pub added : new.tokens ≡ old.tokens ++ tokens

-- the tokens that are left make, after those that were added, all
pub record Leads (old new : Written) (left all : List Token) : Type 0 where
  pub before : new.before ≡ old.before
  pub whole : new.tokens ++ left ≡ old.tokens ++ all
