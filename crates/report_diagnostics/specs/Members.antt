-- Members of JSON objects.
use Rattle.std.specs.Prelude.{ℕ, List, [], ◌∷◌, Option, Some, None}
use Rattle.json.specs.Token.{Token, key}

-- nothing of a member without a value
abbrev pub optional_member : {A : Type 0} → (A → List Token) → (name : List ℕ) → Option A → List Token
optional_member tokens name (Some value) = key name ∷ tokens value
optional_member tokens name None = []
