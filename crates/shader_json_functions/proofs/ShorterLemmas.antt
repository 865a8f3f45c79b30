-- What a JSON value contains has fewer tokens than it.
use Rattle.std.proofs.Common.{◌≡◌, ◌∙◌, ◌<◌, ℕ, List, [], ◌∷◌, Bool, true, false, Option, None, Some, Global, ap}
use Rattle.std.proofs.Common.{arith, get_or, length, option_map, subst, sym}
use Rattle.std.proofs.lemmas.List.{length-append}
use Rattle.std.specs.Str.{bytes_eq}
use Rattle.json.specs.Json.{Json, null, boolean, number, string, array, object, Members, no_members, member}
use Rattle.json.specs.Tree.{json_tokens, items_tokens, members_tokens}
use Rattle.json.specs.Value.{value_view, items_view}
use Rattle.json.specs.declared.value.Value.{Value}
use Rattle.json.proofs.Trees.{item_smaller}
use Rattle.shader_json_reader.proofs.ShapeLemmas.{some_inverse}
use Rattle.shader_json_reader.specs.Shapes.{cons_if, values_of, variant_of}

-- the payload of a variant
payload_shorter : (j : Json) (name : List ℕ) (k : Json) → variant_of j ≡ Some (name, Some k)
    → length (json_tokens k) < length (json_tokens j)
payload_shorter (object (member n i no_members)) name k e =
    let same : i ≡ k = some_inverse _ _ (ap (λ (v : List ℕ × Option Json). v.1) (some_inverse _ _ e)) in
    subst (λ (l : Json). length (json_tokens l) < length (json_tokens (object (member n i no_members)))) same
    (omega (arith, length-append (json_tokens i) (members_tokens no_members)))
payload_shorter (object no_members) name k e = cc
payload_shorter (object (member n i (member m l ms))) name k e = cc
payload_shorter null name k e = cc
payload_shorter (boolean b) name k e = cc
payload_shorter (number s) name k e = cc
payload_shorter (string s) name k e =
    let none : ◌≡◌ {A = Option Json} None (Some k) = ap (λ (v : List ℕ × Option Json). v.1) (some_inverse _ _ e) in cc
payload_shorter (array js) name k e = cc

pub found_shorter : {D : Type 0} (j : Json) (view : D → Json) (name : List ℕ) (payload : Option D) (found : D)
    → variant_of j ≡ Some (name, option_map view payload) → payload ≡ Some found
    → length (json_tokens (view found)) < length (json_tokens j)
found_shorter j view name payload found is has =
    payload_shorter j name (view found) (is ∙ ap (λ p. Some (name, option_map view p)) has)

-- the only value of a name
among : (b : Bool) (n : List ℕ) (j : Json) (ms : Members) (vs : List Json) (k : Json) → cons_if b j vs ≡ k ∷ []
    → (vs ≡ k ∷ [] → length (json_tokens k) < length (members_tokens ms))
    → length (json_tokens k) < length (members_tokens (member n j ms))
among true n j ms vs k e rest =
    let same : j ≡ k = cc in
    subst (λ (l : Json). length (json_tokens l) < length (members_tokens (member n j ms))) same
    (omega (arith, length-append (json_tokens j) (members_tokens ms)))
among false n j ms vs k e rest = omega (arith, rest e, length-append (json_tokens j) (members_tokens ms))

pub value_shorter : (name : List ℕ) (ms : Members) (k : Json) → values_of name ms ≡ k ∷ []
    → length (json_tokens k) < length (members_tokens ms)
value_shorter name no_members k e = cc
value_shorter name (member n j ms) k e =
    among (bytes_eq n name) n j ms (values_of name ms) k e (λ rest. value_shorter name ms k rest)

pub item_shorter : (j : Json) (vs : List (Value Global)) (i : ℕ) (v : Value Global) → j ≡ array (items_view vs) → i < length vs
    → v ≡ get_or vs i v → length (json_tokens (value_view v)) < length (json_tokens j)
item_shorter j vs i v is within found =
    let smaller : length (json_tokens (value_view v)) < length (items_tokens (items_view vs)) =
    subst (λ (w : Value Global). length (json_tokens (value_view w)) < length (items_tokens (items_view vs))) (sym found)
    (item_smaller vs i v within) in
    subst (λ (k : Json). length (json_tokens (value_view v)) < length (json_tokens k)) (sym is) (omega arith)
