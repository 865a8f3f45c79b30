-- What is next in a text that is read a value at a time, as the tokens that are left of it.
use Rattle.std.specs.Prelude.{◌≡◌, ◌||◌, ◌∷◌, ℕ, suc, Bool, true, false, List, Some}
use Rattle.std.specs.Str.{bytes_eq}
use Rattle.json.specs.Json.{Json, Members, no_members, member, object, value}
use Rattle.json.specs.Token.{Token}
use Rattle.shader_json_reader.specs.Shapes.{HasField, Reading}

-- the next value of the tokens stands for x, and the rest is behind it
pub record IsNext {A : Type 0} (R : Reading A) (depth : ℕ) (tokens rest : List Token) (x : A) : Type 0 where
  pub j : Json
  pub next : value depth tokens ≡ Some (j, rest)
  pub stands : R j x

-- that bracket is next, inside which values may nest one level less deep
pub record Opens (bracket : Token) (depth : ℕ) (tokens rest : List Token) (inside : ℕ) : Type 0 where
  pub bracket_first : tokens ≡ bracket ∷ rest
  pub level : depth ≡ suc inside

-- the member before others, unless the test holds
abbrev pub member_unless : Bool → List ℕ → Json → Members → Members
member_unless true k j ms = ms
member_unless false k j ms = member k j ms

-- the members but for those of two names, in order
abbrev pub without : (first second : List ℕ) → Members → Members
without first second no_members = no_members
without first second (member k j ms) = member_unless (bytes_eq k first || bytes_eq k second) k j (without first second ms)

-- the next value is an object in which each of two names has one member, which stands for a and for b, and the others are those left
pub record AreParts {A B : Type 0} (R : Reading A) (S : Reading B) (first second : List ℕ) (depth : ℕ) (tokens rest : List Token)
    (a : A) (b : B) (others : Json) : Type 0 where
  pub ms : Members
  pub next : value depth tokens ≡ Some (object ms, rest)
  pub has_first : HasField R first ms a
  pub has_second : HasField S second ms b
  pub left : others ≡ object (without first second ms)
