-- Members that are written as JSON.
use Rattle.std.specs.Prelude.{ℕ, List, [], ◌∷◌, Option, Some, None}
use Rattle.std.specs.Fmt.{decimal}
use Rattle.json.specs.Token.{Token, key, string, number, null}

-- a member with a number, or with null
abbrev pub number_or_null : Option ℕ → Token
number_or_null (Some n) = number (decimal n)
number_or_null None = null

-- a member with a text, or with null
abbrev pub text_or_null : Option (List ℕ) → Token
text_or_null (Some text) = string text
text_or_null None = null

abbrev pub number_member : List ℕ → Option ℕ → List Token
number_member name n = key name ∷ number_or_null n ∷ []

abbrev pub text_member : List ℕ → Option (List ℕ) → List Token
text_member name text = key name ∷ text_or_null text ∷ []
