-- The values that tokens spell, and lines of JSON.
use Rattle.std.specs.Prelude.{◌≡◌, ◌≤◌, ◌++◌, ℕ, List, [], ◌∷◌, Some}
use Rattle.std.specs.Str.{IsUtf8}
use Rattle.json.specs.Json as json
use Rattle.json.specs.Json.{Items, Json, Members, document, item, member, no_items, no_members}
use Rattle.json.specs.Lex.{tokens}
use Rattle.json.specs.Print.{print}
use Rattle.json.specs.Strict.{keys}
use Rattle.json.specs.Token.{Token, key}
use Rattle.json.specs.Tree.{depth, items_depth, json_tokens, members_depth}
use Rattle.report_json.specs.Tokens.{object}

-- the tokens of values one after another, without brackets
abbrev pub items_inside : Items → List Token
items_inside no_items = []
items_inside (item value rest) = json_tokens value ++ items_inside rest

-- the tokens of members one after another, without brackets
abbrev pub members_inside : Members → List Token
members_inside no_members = []
members_inside (member name value rest) = key name ∷ (json_tokens value ++ members_inside rest)

-- the tokens are those of one value, in which at most so many arrays and objects stand in one another
pub record SpellValue (most : ℕ) (spelling : List Token) : Type 0 where
  pub value : Json
  pub spelled : json_tokens value ≡ spelling
  pub shallow : depth value ≤ most

-- the tokens are those of such values
pub record SpellItems (most : ℕ) (spelling : List Token) : Type 0 where
  pub items : Items
  pub spelled : items_inside items ≡ spelling
  pub shallow : items_depth items ≤ most

-- the tokens are those of members with such values
pub record SpellMembers (most : ℕ) (spelling : List Token) : Type 0 where
  pub members : Members
  pub spelled : members_inside members ≡ spelling
  pub shallow : members_depth members ≤ most

-- and the members have these names
pub record SpellNamed (most : ℕ) (names : List (List ℕ)) (spelling : List Token) : Type 0 where
  pub spell : SpellMembers most spelling
  pub named : keys spell.members ≡ names

-- the text is the print of an object with members of these tokens, and an end of the line; it is UTF-8, and a reader finds the tokens in it
pub record IsLine (members : List Token) (text : List ℕ) : Type 0 where
  pub printed : text ≡ print (object members) ++ 10 ∷ []
  pub reads_back : tokens text ≡ object members
  pub utf8 : IsUtf8 text

-- the text is JSON: an object whose members have these tokens, in this order
pub record IsObjectOf (listed : List Token) (text : List ℕ) : Type 0 where
  pub members : Members
  pub value : document text ≡ Some (json.object members)
  pub spelled : members_inside members ≡ listed
