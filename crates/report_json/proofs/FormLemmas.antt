-- The tokens of a value of a known form.
use Rattle.std.proofs.Common.{◌≡◌, [], ◌∷◌, Err, List, Ok, OnOk, Result, rules, subst, sym}
use Rattle.json.specs.Token.{Token}
use Rattle.json.specs.Written.{Writes, Written}
use Rattle.report_json.specs.Tokens.{Adds}

-- the tokens of the form are those of the value
pub of_form : {A E : Type 0} (r : Result (Unit {0}) E) (old new : Written) (tokens : A → List Token) (value form : A) → value ≡ form →
    OnOk r (Adds old new (tokens form)) → OnOk r (Adds old new (tokens value))
of_form r old new tokens value form is = subst (λ (v : _). OnOk r (Adds old new (tokens v))) (sym is)

-- a token is all that is added
pub added_alone : {E : Type 0} (r : Result (Unit {0}) E) (old new : Written) (token : Token) → Writes r old new token →
    OnOk r (Adds old new (token ∷ []))
added_alone (Ok u) old new token writes = record { before = writes.room.0; added = writes.ok }
added_alone (Err e) old new token writes = search rules

-- the form is written as one token
pub of_word : {A E : Type 0} (r : Result (Unit {0}) E) (old new : Written) (tokens : A → List Token) (value form : A) (token : Token) →
    value ≡ form → tokens form ≡ token ∷ [] → Writes r old new token → OnOk r (Adds old new (tokens value))
of_word r old new tokens value form token is same writes =
    of_form r old new tokens value form is (subst (λ ts. OnOk r (Adds old new ts)) (sym same) (added_alone r old new token writes))
