-- Tokens that are added one after another.
use Rattle.std.proofs.Common.{◌≡◌, ◌∙◌, ap, List, [], ◌∷◌, ◌++◌, Ok}
use Rattle.std.proofs.lemmas.List.{append_assoc}
use Rattle.json.specs.Token.{Token}
use Rattle.json.specs.Written.{Written, Writes}
use Rattle.report_json.specs.Tokens.{Adds}

-- what is added first, and what is added then
pub adds_then : {old between new : Written} {first rest : List Token} → Adds old between first → Adds between new rest →
    Adds old new (first ++ rest)
adds_then {old} {between} {new} {first} {rest} one other = record {
  before = other.before ∙ one.before;
  added = other.added ∙ ap (λ (ts : List Token). ts ++ rest) one.added ∙ append_assoc old.tokens first rest;
}

-- a token is all that is added
pub writes_last : {E : Type 0} {u : Unit {0}} {old new : Written} {token : Token} → Writes {E = E} (Ok u) old new token →
    Adds old new (token ∷ [])
writes_last writes = record { before = writes.room.0; added = writes.ok }

-- a token is added first
pub writes_then : {E : Type 0} {u : Unit {0}} {old between new : Written} {token : Token} {rest : List Token} →
    Writes {E = E} (Ok u) old between token → Adds between new rest → Adds old new (token ∷ rest)
writes_then one other = adds_then (writes_last one) other
