-- The tokens of values that are put together spell a value.
use Rattle.std.proofs.Common.{◌≡◌, ◌∙◌, ◌++◌, ◌≤◌, ap, ap₂, refl, sym, append_assoc, append-nil, arith}
use Rattle.std.proofs.Common.{ℕ, suc, Bool, List, [], ◌∷◌, Option, Some, None}
use Rattle.std.specs.List.{flat_map}
use Rattle.json.specs.Json as json
use Rattle.json.specs.Json.{Items, Members, item, member, no_items, no_members}
use Rattle.json.specs.Strict.{keys}
use Rattle.json.specs.Token.{Token, boolean, key, null, number, string}
use Rattle.json.specs.Tree.{items_depth, items_tokens, json_tokens, members_depth, members_tokens}
use Rattle.report_json.specs.Tokens.{array, fields, object, optional_tokens, variant}
use Rattle.report_json.specs.Values.{SpellItems, SpellMembers, SpellNamed, SpellValue, items_inside, members_inside}

-- ---- brackets, and what is put one after another

pub members_closed : (ms : Members) → members_tokens ms ≡ members_inside ms ++ Token.end_object ∷ []
members_closed no_members = refl
members_closed (member name value rest) =
    ap (λ ts. key name ∷ (json_tokens value ++ ts)) (members_closed rest)
    ∙ ap (λ ts. key name ∷ ts) (sym (append_assoc (json_tokens value) (members_inside rest) _))

pub items_closed : (js : Items) → items_tokens js ≡ items_inside js ++ Token.end_array ∷ []
items_closed no_items = refl
items_closed (item value rest) =
    ap (λ ts. json_tokens value ++ ts) (items_closed rest) ∙ sym (append_assoc (json_tokens value) (items_inside rest) _)

-- some items, and then others
abbrev items_then : Items → Items → Items
items_then no_items others = others
items_then (item value rest) others = item value (items_then rest others)

abbrev members_then : Members → Members → Members
members_then no_members others = others
members_then (member name value rest) others = member name value (members_then rest others)

items_then_inside : (js others : Items) → items_inside (items_then js others) ≡ items_inside js ++ items_inside others
items_then_inside no_items others = refl
items_then_inside (item value rest) others =
    ap (λ ts. json_tokens value ++ ts) (items_then_inside rest others) ∙ sym (append_assoc (json_tokens value) (items_inside rest) _)

members_then_inside : (ms others : Members) → members_inside (members_then ms others) ≡ members_inside ms ++ members_inside others
members_then_inside no_members others = refl
members_then_inside (member name value rest) others =
    ap (λ ts. key name ∷ (json_tokens value ++ ts)) (members_then_inside rest others)
    ∙ ap (λ ts. key name ∷ ts) (sym (append_assoc (json_tokens value) (members_inside rest) _))

members_then_keys : (ms others : Members) → keys (members_then ms others) ≡ keys ms ++ keys others
members_then_keys no_members others = refl
members_then_keys (member name value rest) others = ap (λ ks. name ∷ ks) (members_then_keys rest others)

items_then_depth : (most : ℕ) (js others : Items) → items_depth js ≤ most → items_depth others ≤ most →
    items_depth (items_then js others) ≤ most
items_then_depth most no_items others h k = k
items_then_depth most (item value rest) others h k = omega (arith, items_then_depth most rest others (omega arith) k)

members_then_depth : (most : ℕ) (ms others : Members) → members_depth ms ≤ most → members_depth others ≤ most →
    members_depth (members_then ms others) ≤ most
members_then_depth most no_members others h k = k
members_then_depth most (member name value rest) others h k = omega (arith, members_then_depth most rest others (omega arith) k)

module _ {most : ℕ} where
  -- ---- values without brackets

  pub spell_text : {text : List ℕ} → SpellValue most (string text ∷ [])
  spell_text {text} = record { value = json.string text; spelled = refl; shallow = omega arith }

  pub spell_number : {text : List ℕ} → SpellValue most (number text ∷ [])
  spell_number {text} = record { value = json.number text; spelled = refl; shallow = omega arith }

  pub spell_boolean : {b : Bool} → SpellValue most (boolean b ∷ [])
  spell_boolean {b} = record { value = json.boolean b; spelled = refl; shallow = omega arith }

  pub spell_null : SpellValue most (null ∷ [])
  spell_null = record { value = json.null; spelled = refl; shallow = omega arith }

  pub spell_optional : {A : Type 0} (tokens : A → List Token) (value : Option A) → ((x : A) → SpellValue most (tokens x)) →
      SpellValue most (optional_tokens tokens value)
  spell_optional tokens (Some x) each = each x
  spell_optional tokens None each = spell_null

  -- ---- items

  pub no_item : SpellItems most []
  no_item = record { items = no_items; spelled = refl; shallow = omega arith }

  pub one_item : {ts : List Token} → SpellValue most ts → SpellItems most ts
  one_item {ts} spell = record {
    items = item spell.value no_items;
    spelled = append-nil (json_tokens spell.value) ∙ spell.spelled;
    shallow = omega (arith, spell.shallow);
  }

  pub then_items : {ts us : List Token} → SpellItems most ts → SpellItems most us → SpellItems most (ts ++ us)
  then_items {ts} {us} spell others = record {
    items = items_then spell.items others.items;
    spelled = items_then_inside spell.items others.items ∙ ap₂ (λ (a b : List Token). a ++ b) spell.spelled others.spelled;
    shallow = items_then_depth most spell.items others.items spell.shallow others.shallow;
  }

  -- each element is some items
  pub each_items : {A : Type 0} {f : A → List Token} → ((x : A) → SpellItems most (f x)) → (xs : List A) → SpellItems most (flat_map f xs)
  each_items each [] = no_item
  each_items each (x ∷ xs) = then_items (each x) (each_items each xs)

  -- each element is one value
  pub each_item : {A : Type 0} {f : A → List Token} → ((x : A) → SpellValue most (f x)) → (xs : List A) → SpellItems most (flat_map f xs)
  each_item each xs = each_items (λ x. one_item (each x)) xs

  -- ---- members

  pub no_member : SpellMembers most []
  no_member = record { members = no_members; spelled = refl; shallow = omega arith }

  pub one_member : {name : List ℕ} {ts : List Token} → SpellValue most ts → SpellMembers most (key name ∷ ts)
  one_member {name} {ts} spell = record {
    members = member name spell.value no_members;
    spelled = ap (λ us. key name ∷ us) (append-nil (json_tokens spell.value) ∙ spell.spelled);
    shallow = omega (arith, spell.shallow);
  }

  pub then_members : {ts us : List Token} → SpellMembers most ts → SpellMembers most us → SpellMembers most (ts ++ us)
  then_members {ts} {us} spell others = record {
    members = members_then spell.members others.members;
    spelled = members_then_inside spell.members others.members ∙ ap₂ (λ (a b : List Token). a ++ b) spell.spelled others.spelled;
    shallow = members_then_depth most spell.members others.members spell.shallow others.shallow;
  }

  -- a member, and others
  pub then_member : {name : List ℕ} {ts us : List Token} → SpellValue most ts → SpellMembers most us →
      SpellMembers most (key name ∷ (ts ++ us))
  then_member {name} {ts} {us} spell others = then_members (one_member {name = name} spell) others

  -- each element is some members
  pub each_member : {A : Type 0} {f : A → List Token} → ((x : A) → SpellMembers most (f x)) → (xs : List A) →
      SpellMembers most (flat_map f xs)
  each_member each [] = no_member
  each_member each (x ∷ xs) = then_members (each x) (each_member each xs)

  -- ---- members with names

  pub no_named : SpellNamed most [] []
  unfolding no_member
  no_named = record { spell = no_member; named = refl }

  pub one_named : {name : List ℕ} {ts : List Token} → SpellValue most ts → SpellNamed most (name ∷ []) (key name ∷ ts)
  unfolding one_member
  one_named spell = record { spell = one_member spell; named = refl }

  pub then_named : {names others : List (List ℕ)} {ts us : List Token} → SpellNamed most names ts → SpellNamed most others us →
      SpellNamed most (names ++ others) (ts ++ us)
  unfolding then_members
  then_named one other = record {
    spell = then_members one.spell other.spell;
    named = members_then_keys one.spell.members other.spell.members ∙ ap₂ (λ (a b : List (List ℕ)). a ++ b) one.named other.named;
  }

  -- ---- brackets

  pub spell_array : {ts : List Token} → SpellItems most ts → SpellValue (suc most) (array ts)
  spell_array {ts} spell = record {
    value = json.array spell.items;
    spelled = ap (λ us. Token.begin_array ∷ us)
        (items_closed spell.items ∙ ap (λ (us : List Token). us ++ Token.end_array ∷ []) spell.spelled);
    shallow = omega (arith, spell.shallow);
  }

  pub spell_object : {ts : List Token} → SpellMembers most ts → SpellValue (suc most) (object ts)
  spell_object {ts} spell = record {
    value = json.object spell.members;
    spelled = ap (λ us. Token.begin_object ∷ us)
        (members_closed spell.members ∙ ap (λ (us : List Token). us ++ Token.end_object ∷ []) spell.spelled);
    shallow = omega (arith, spell.shallow);
  }

  -- the name of a variant with its data
  pub spell_variant : {name : List ℕ} {ts : List Token} → SpellValue most ts → SpellValue (suc most) (variant name ts)
  spell_variant {name} {ts} spell = spell_object (one_member {name = name} spell)

-- the name of a variant with its fields
pub spell_fields : {most : ℕ} {name : List ℕ} {ts : List Token} → SpellMembers most ts → SpellValue (suc (suc most)) (fields name ts)
spell_fields {most} {name} {ts} spell = spell_variant {name = name} (spell_object spell)

-- ---- what nests less deep

pub value_within : {less most : ℕ} {ts : List Token} → SpellValue less ts → less ≤ most → SpellValue most ts
value_within spell within = record { value = spell.value; spelled = spell.spelled; shallow = omega (arith, spell.shallow) }

pub members_within : {less most : ℕ} {ts : List Token} → SpellMembers less ts → less ≤ most → SpellMembers most ts
members_within spell within = record { members = spell.members; spelled = spell.spelled; shallow = omega (arith, spell.shallow) }
