-- The shapes of JSON determine what their parts determine.
use Rattle.std.proofs.Common.{◌≡◌, ◌∙◌, ap, sym, refl, ℕ, List, [], ◌∷◌, Bool, true, false, Option, Some, None, MatchOption}
use Rattle.std.proofs.lemmas.Bool.{both_ways}
use Rattle.std.specs.Str.{bytes_eq}
use Rattle.std.proofs.lemmas.Slice.Eq.{bytes_eq-Decides}
use Rattle.json.specs.Json.{Json, null, boolean, number, string, array, object, Items, no_items, item, Members}
use Rattle.json.specs.Find.{as_str}
use Rattle.shader_json_reader.specs.Shapes.{Reading, IsOnly, IsOnlyOrNull, IsNullable, IsObject, IsArray, IsList, Each, HasField}
use Rattle.shader_json_reader.specs.Shapes.{MayHaveField}
use Rattle.shader_json_reader.specs.Shapes.{IsVariant, values_of, variant_of}
use Rattle.shader_json_reader.specs.Shapes.{Determines}

-- of two names that differ a text is one at most
both : (b : Bool) → b ≡ true → b ≡ false → ⊥
both b is differs = both_ways b differs is

pub apart : {A : Type 0} (a b : List ℕ) → bytes_eq a b ≡ false → a ≡ b → A
apart a b differ same = absurd (both (bytes_eq a b) ((bytes_eq-Decides a b).1 same) differ)

-- ---- what a value determines

module _ {A : Type 0} (R : Reading A) (determined : Determines R) where
  pub only : (vs : List Json) (x y : A) → IsOnly (λ j. R j x) vs → IsOnly (λ j. R j y) vs → x ≡ y
  only [] x y u v = absurd u
  only (j ∷ []) x y u v = determined j x y u v
  only (j ∷ (k ∷ js)) x y u v = absurd u

  pub field : (name : List ℕ) (ms : Members) (x y : A) → HasField R name ms x → HasField R name ms y → x ≡ y
  field name ms x y u v = only (values_of name ms) x y u v

  some : (j : Json) (x y : Option A) → MatchOption x ⊥ (R j) → MatchOption y ⊥ (R j) → x ≡ y
  some j None y u v = absurd u
  some j (Some x) None u v = absurd v
  some j (Some x) (Some y) u v = ap Some (determined j x y u v)

  pub nullable : (j : Json) (x y : Option A) → IsNullable R j x → IsNullable R j y → x ≡ y
  nullable null x y u v = u ∙ sym v
  nullable (boolean b) x y u v = some (boolean b) x y u v
  nullable (number s) x y u v = some (number s) x y u v
  nullable (string s) x y u v = some (string s) x y u v
  nullable (array js) x y u v = some (array js) x y u v
  nullable (object ms) x y u v = some (object ms) x y u v

  only_or_null : (vs : List Json) (x y : Option A) → IsOnlyOrNull (λ j. IsNullable R j x) vs → IsOnlyOrNull (λ j. IsNullable R j y) vs
      → x ≡ y
  only_or_null [] x y u v = nullable null x y u v
  only_or_null (j ∷ []) x y u v = nullable j x y u v
  only_or_null (j ∷ (k ∷ js)) x y u v = absurd u

  pub optional : (name : List ℕ) (ms : Members) (x y : Option A) → MayHaveField R name ms x → MayHaveField R name ms y → x ≡ y
  optional name ms x y u v = only_or_null (values_of name ms) x y u v

  pub each : (js : Items) (xs ys : List A) → Each R js xs → Each R js ys → xs ≡ ys
  each no_items [] [] u v = refl
  each no_items [] (y ∷ ys) u v = absurd v
  each no_items (x ∷ xs) ys u v = absurd u
  each (item j js) [] ys u v = absurd u
  each (item j js) (x ∷ xs) [] u v = absurd v
  each (item j js) (x ∷ xs) (y ∷ ys) u v = λ i. determined j x y u.0 v.0 i ∷ each js xs ys u.1 v.1 i

  pub list : (j : Json) (xs ys : List A) → IsList R j xs → IsList R j ys → xs ≡ ys
  list null xs ys u v = absurd u
  list (boolean b) xs ys u v = absurd u
  list (number s) xs ys u v = absurd u
  list (string s) xs ys u v = absurd u
  list (array js) xs ys u v = each js xs ys u v
  list (object ms) xs ys u v = absurd u

  pub newtype : (payload : Option Json) (x y : A) → MatchOption payload ⊥ (λ j. R j x) → MatchOption payload ⊥ (λ j. R j y) → x ≡ y
  newtype None x y u v = absurd u
  newtype (Some j) x y u v = determined j x y u v

-- ---- objects, and variants with fields

module _ {X : Type 0} (x y : X) (P Q : Members → Type 0) (same : (ms : Members) → P ms → Q ms → x ≡ y) where
  pub same_object : (j : Json) → IsObject j P → IsObject j Q → x ≡ y
  same_object null u v = absurd u
  same_object (boolean b) u v = absurd u
  same_object (number s) u v = absurd u
  same_object (string s) u v = absurd u
  same_object (array js) u v = absurd u
  same_object (object ms) u v = same ms u v

  pub same_struct : (payload : Option Json) → MatchOption payload ⊥ (λ j. IsObject j P) → MatchOption payload ⊥ (λ j. IsObject j Q) → x
      ≡ y
  same_struct None u v = absurd u
  same_struct (Some j) u v = same_object j u v

module _ {X : Type 0} (x y : X) (P Q : Items → Type 0) (same : (js : Items) → P js → Q js → x ≡ y) where
  pub same_array : (j : Json) → IsArray j P → IsArray j Q → x ≡ y
  same_array null u v = absurd u
  same_array (boolean b) u v = absurd u
  same_array (number s) u v = absurd u
  same_array (string s) u v = absurd u
  same_array (array js) u v = same js u v
  same_array (object ms) u v = absurd u

module _ {X : Type 0} (x y : X) (P Q : Json → Type 0) (same : (j : Json) → P j → Q j → x ≡ y) where
  pub same_only : (vs : List Json) → IsOnly P vs → IsOnly Q vs → x ≡ y
  same_only [] u v = absurd u
  same_only (j ∷ []) u v = same j u v
  same_only (j ∷ (k ∷ js)) u v = absurd u

  pub same_some : (payload : Option Json) → MatchOption payload ⊥ P → MatchOption payload ⊥ Q → x ≡ y
  same_some None u v = absurd u
  same_some (Some j) u v = same j u v

module _ {X : Type 0} (x y : X) (P Q : List ℕ → Option Json → Type 0)
    (same : (name : List ℕ) (payload : Option Json) → P name payload → Q name payload → x ≡ y) where
  same_found : (found : Option (List ℕ × Option Json)) → MatchOption found ⊥ (λ v. P v.0 v.1) → MatchOption found ⊥ (λ v. Q v.0 v.1) → x
      ≡ y
  same_found None u v = absurd u
  same_found (Some w) u v = same w.0 w.1 u v

  pub same_variant : (j : Json) → IsVariant j P → IsVariant j Q → x ≡ y
  same_variant j u v = same_found (variant_of j) u v

-- ---- names

abbrev or_else : {A : Type 0} → Bool → A → Option A → Option A
or_else true x found = Some x
or_else false x found = found

-- the first item of that name
abbrev pub named : {A : Type 0} → (A → List ℕ) → List A → List ℕ → Option A
named spelling [] name = None
named spelling (x ∷ xs) name = or_else (bytes_eq (spelling x) name) x (named spelling xs name)

pub some_inverse : {A : Type 0} (x y : A) → Some x ≡ Some y → x ≡ y
some_inverse x y e = cc

string_inverse : (s t : List ℕ) → string s ≡ string t → s ≡ t
string_inverse s t e = some_inverse s t (ap as_str e)

-- names that a table finds again tell items apart
module _ {A : Type 0} (spelling : A → List ℕ) (all : List A) (found : (x : A) → named spelling all (spelling x) ≡ Some x) where
  pub name_determines : Determines (λ j x. j ≡ string (spelling x))
  name_determines j x y u v =
      let e : spelling x ≡ spelling y = string_inverse (spelling x) (spelling y) (sym u ∙ v) in
      some_inverse x y (sym (found x) ∙ (ap (named spelling all) e ∙ found y))
