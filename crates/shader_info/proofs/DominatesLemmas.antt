-- Comparison of two lists of uses, position by position.
use Rattle.std.proofs.Common.{◌≡◌, refl, ap, subst, ◌∙◌, zero, suc, Bool, true, List, [], ◌∷◌}
use Rattle.std.proofs.lemmas.Bool.{and_parts}
use Rattle.std.proofs.lemmas.Option.{none-some, same_Some}
use Rattle.std.specs.List.{list_all, zip}
use Rattle.std.proofs.Math.Bool.{◌&&◌}
use Rattle.shader_info.specs.declared.flags.GlobalUse.{GlobalUse}
use Rattle.shader_info.specs.Recorded.{Dominates}
use Rattle.shader_info.specs.Uses.{includes}

abbrev test : GlobalUse × GlobalUse → Bool
test pair = includes pair.0 pair.1

pub dominates_to : (xs ys : List GlobalUse) → list_all test (zip xs ys) ≡ true → Dominates xs ys
dominates_to [] ys h global at other e f = absurd (none-some at e)
dominates_to (x ∷ xs) [] h global at other e f = absurd (none-some other f)
dominates_to (x ∷ xs) (y ∷ ys) h zero at other e f =
    let same : x ≡ at = same_Some x at e in
    let same' : y ≡ other = same_Some y other f in
    let first : includes x y ≡ true = (and_parts (includes x y) (list_all test (zip xs ys)) h).0 in
    let P : GlobalUse → Type 0 = λ v. includes v other ≡ true in
    let Q : GlobalUse → Type 0 = λ v. includes x v ≡ true in
    subst P same (subst Q same' first)
dominates_to (x ∷ xs) (y ∷ ys) h (suc global) at other e f =
    dominates_to xs ys (and_parts (includes x y) (list_all test (zip xs ys)) h).1 global at other e f

both : (a b : Bool) → a ≡ true → b ≡ true → (a && b) ≡ true
both a b p q = ap (λ v. v && b) p ∙ q

pub of_dominates : (xs ys : List GlobalUse) → Dominates xs ys → list_all test (zip xs ys) ≡ true
of_dominates [] ys h = refl
of_dominates (x ∷ xs) [] h = refl
of_dominates (x ∷ xs) (y ∷ ys) h =
    both (includes x y) (list_all test (zip xs ys)) (h zero x y refl refl)
    (of_dominates xs ys (λ global at other e f. h (suc global) at other e f))
