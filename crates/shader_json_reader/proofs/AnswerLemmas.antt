-- Failures that are passed on.
use Rattle.std.proofs.Common.{◌≡◌, ap, option_map, refl, subst, sym, List, Option, Some, None, MatchOption, [], ◌∷◌, ℕ}
use Rattle.std.proofs.Common.{Result, Ok, Err}
use Rattle.std.specs.Result.{IsErrAnd}
use Rattle.json.specs.Json.{Json, null, boolean, number, string, array, object, Items, Members}
use Rattle.shader_json_reader.specs.Answers.{Accepts, IsOfMemory, IsUnrefused}
use Rattle.shader_json_reader.specs.Shapes.{IsArray, IsObject, IsOnly, IsVariant, variant_of}
use Rattle.shader_json_reader.specs.declared.failure.Failure.{Failure}

-- a failure for want of memory is passed on as one
pub passed_on : {A : Type 0} (failure : Failure) (r : Result A Failure) → IsErrAnd r (λ e. e ≡ failure) → IsOfMemory failure
    → IsUnrefused r
passed_on failure (Ok x) is memory = absurd is
passed_on failure (Err e) is memory = subst IsOfMemory (sym is) memory

-- what is said of an object is said of its members
pub of_members : (P : Members → Type 0) (j : Json) (ms : Members) → j ≡ object ms → IsObject j P → P ms
of_members P j ms is h = subst (λ (k : Json). IsObject k P) is h

-- what is said of a variant is said of its name and payload
pub of_variant : (P : List ℕ → Option Json → Type 0) (j : Json) (name : List ℕ) (payload : Option Json)
    → variant_of j ≡ Some (name, payload) → IsVariant j P → P name payload
of_variant P j name payload is h = subst (λ found. MatchOption found ⊥ (λ v. P v.0 v.1)) is h

-- what is no object stands for nothing with members
with_members : {X : Type 0} (P : Members → Type 0) (j : Json) → ((ms : Members) → j ≡ object ms → X) → IsObject j P → X
with_members P null f h = absurd h
with_members P (boolean b) f h = absurd h
with_members P (number s) f h = absurd h
with_members P (string s) f h = absurd h
with_members P (array js) f h = absurd h
with_members P (object ms) f h = f ms refl

pub no_object : {A B : Type 0} (P : A → Members → Type 0) (j : Json) (failure : Failure) (r : Result B Failure)
    → IsErrAnd r (λ e. e ≡ failure) → ((ms : Members) → j ≡ object ms → IsOfMemory failure) → Accepts (λ x. IsObject j (P x)) r
no_object P j failure r is accepts x h = passed_on failure r is (with_members (P x) j accepts h)

-- what is no variant stands for nothing with a name
with_variant : {X : Type 0} (P : List ℕ → Option Json → Type 0) (found : Option (List ℕ × Option Json))
    → ((v : List ℕ × Option Json) → found ≡ Some v → X) → MatchOption found ⊥ (λ v. P v.0 v.1) → X
with_variant P None f h = absurd h
with_variant P (Some v) f h = f v refl

pub no_variant : {A B : Type 0} (P : A → List ℕ → Option Json → Type 0) (j : Json) (failure : Failure) (r : Result B Failure)
    → IsErrAnd r (λ e. e ≡ failure) → ((v : List ℕ × Option Json) → variant_of j ≡ Some v → IsOfMemory failure)
    → Accepts (λ x. IsVariant j (P x)) r
no_variant P j failure r is accepts x h = passed_on failure r is (with_variant (P x) (variant_of j) accepts h)

-- what is said of an array is said of its items
pub of_items : (P : Items → Type 0) (j : Json) (js : Items) → j ≡ array js → IsArray j P → P js
of_items P j js is h = subst (λ (k : Json). IsArray k P) is h

-- the only value of a name
pub with_only : {X : Type 0} (P : Json → Type 0) (vs : List Json) → ((j : Json) → vs ≡ j ∷ [] → P j → X) → IsOnly P vs → X
with_only P [] f h = absurd h
with_only P (j ∷ []) f h = f j refl h
with_only P (j ∷ (k ∷ js)) f h = absurd h

-- what is said of a variant in the arm of a name, whose payload is there
pub in_arm : {A : Type 0} (P : List ℕ → Option Json → Type 0) (j : Json) (name wanted : List ℕ) (view : A → Json) (payload : Option A)
    (k : A) → variant_of j ≡ Some (name, option_map view payload) → name ≡ wanted → payload ≡ Some k → IsVariant j P
    → P wanted (Some (view k))
in_arm P j name wanted view payload k is named held h =
    subst (λ p. P wanted p) (ap (option_map view) held)
    (subst (λ n. P n (option_map view payload)) named (of_variant P j name (option_map view payload) is h))
