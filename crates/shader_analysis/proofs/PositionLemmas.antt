-- Items at positions of lists, and errors that are passed on.
use Rattle.std.proofs.Common.{◌≡◌, sym, subst, ℕ, ◌<◌, List, [], ◌∷◌, Some, slice_get, length, get_or, Result, Ok, Err, IfErr, arith}
use Rattle.std.proofs.lemmas.Option.{slice_get-get_or}
use Rattle.std.specs.Result.{IsErrAnd}

-- the item at a position below the length
pub found_at : {X : Type 0} (xs : List X) (e : ℕ) → e < length xs → (x : X) × (slice_get xs e ≡ Some x)
found_at [] e lt = absurd (omega (arith, lt))
found_at (x ∷ xs) e lt = (get_or (x ∷ xs) e x, slice_get-get_or (x ∷ xs) e x lt)

-- a property of an error holds of the same error passed on
pub passed_on : {A E : Type 0} (P : E → Type 0) {e : E} (r : Result A E) → IsErrAnd r (λ v. v ≡ e) → P e → IfErr r P
passed_on P (Err v) is reported = subst P (sym is) reported
passed_on P (Ok a) is reported = absurd is
