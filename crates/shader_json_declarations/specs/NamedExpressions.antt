-- The names of a function's expressions in its JSON.
use Rattle.std.specs.Prelude.{◌≡◌, ◌⊎◌, ℕ, List, [], ◌∷◌, codes, slice_index, ⊤}
use Rattle.std.specs.Int.{IsInRange}
use Rattle.std.specs.Map.{keys_of}
use Rattle.json.specs.Json.{Json, Members, no_members, member, number}
use Rattle.shader_json_reader.specs.Numbers.{IsHandle, IsText}
use Rattle.shader_json_reader.specs.Shapes.{AreDistinct, IsObject}

-- the text is 0, or begins with another digit
abbrev pub IsPlain : List ℕ → Type 0
IsPlain key = (key ≡ codes "0") ⊎ IsInRange 49 57 (slice_index key 0)

-- the text is a handle in digits, without sign or leading zero
abbrev pub IsHandleKey : List ℕ → ℕ → Type 0
IsHandleKey key handle = IsPlain key × IsHandle (number key) handle

-- each member has a handle as its key, and the name of this expression as its value
abbrev pub AreNames : Members → List (ℕ × List ℕ) → Type 0
AreNames no_members [] = ⊤
AreNames no_members (name ∷ names) = ⊥
AreNames (member k j ms) [] = ⊥
AreNames (member k j ms) (name ∷ names) = IsHandleKey k name.0 × IsText j name.1 × AreNames ms names

-- no key stands twice
abbrev pub AreNamedExpressions : Json → List (ℕ × List ℕ) → Type 0
AreNamedExpressions j names = IsObject j (λ ms. AreNames ms names) × AreDistinct (keys_of names)
