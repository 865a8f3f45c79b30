-- Tables of names.
use Rattle.std.specs.Prelude.{ℕ, List, [], ◌∷◌, Bool, true, ◌&&◌}
use Rattle.std.specs.Borrow.{Bor}
use Rattle.std.specs.List.{list_any}
use Rattle.std.specs.Str.{bytes_eq}

-- each row begins with the spelling of its item
abbrev pub are_spelled : {A : Type 0} → (A → List ℕ) → List (Bor (List ℕ) × A) → Bool
are_spelled spelling [] = true
are_spelled spelling (row ∷ rows) = bytes_eq row.0.now (spelling row.1) && are_spelled spelling rows

-- a row has the spelling of the item
abbrev pub is_listed : {A : Type 0} → (A → List ℕ) → List (Bor (List ℕ) × A) → A → Bool
is_listed spelling rows x = list_any (λ row. bytes_eq row.0.now (spelling x)) rows
