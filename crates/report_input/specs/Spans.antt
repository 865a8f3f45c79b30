-- Values in a text of JSON, by the tokens before them, and by their bytes.
use Rattle.std.specs.Prelude.{◌≡◌, ◌-◌, ℕ, zero, suc, List, [], ◌∷◌, ◌++◌, Option, Some, None, drop, take, option_and_then}
use Rattle.json.specs.Json.{Json, after_end_array, document, max_depth, read_key, skip_value, value}
use Rattle.json.specs.Json as json
use Rattle.json.specs.Lex.{tokens}
use Rattle.json.specs.Token.{Token, begin_array, begin_object}
use Rattle.report_input.specs.declared.spans.Span.{Span}
use Rattle.report_input.specs.declared.steps.Step.{Step}
use Rattle.report_input.specs.declared.steps.Step.TheVariants.{Member, Item}

-- behind the value of a key, if there is one
abbrev pub behind_value : Option (List ℕ) → List Token → Option (List Token)
behind_value (Some name) ts = skip_value max_depth ts
behind_value None ts = None

-- behind a member, whose key comes first
abbrev pub behind_member : List Token → Option (List Token)
behind_member ts = option_and_then (λ read. behind_value read.0 read.1) (read_key ts)

-- behind so many members of an object
abbrev pub behind_members : ℕ → List Token → Option (List Token)
behind_members zero ts = Some ts
behind_members (suc n) ts = option_and_then behind_member (behind_members n ts)

-- behind so many items of an array
abbrev pub behind_items : ℕ → List Token → Option (List Token)
behind_items zero ts = Some ts
behind_items (suc n) ts = option_and_then (skip_value max_depth) (behind_items n ts)

-- from what an object has inside to the value of a member of this name
pub record IsMember (name : List ℕ) (ts rest : List Token) : Type 0 where
  pub before : ℕ
  pub key : List Token
  pub passed : behind_members before ts ≡ Some key
  pub named : read_key key ≡ Some (Some name, rest)

-- from what an array has inside to the item of this index
pub record IsItem (index : ℕ) (ts rest : List Token) : Type 0 where
  pub passed : behind_items index ts ≡ Some rest
  pub there : after_end_array rest ≡ None

-- from a value to the one inside it to which a step leads
pub record LeadsInto (bracket : Token) (Inside : List Token → List Token → Type 0) (ts rest : List Token) : Type 0 where
  pub inside : List Token
  pub opens : ts ≡ bracket ∷ inside
  pub leads : Inside inside rest

abbrev pub LeadsBy : Step → List Token → List Token → Type 0
LeadsBy (Member name) ts rest = LeadsInto begin_object (IsMember name) ts rest
LeadsBy (Item index) ts rest = LeadsInto begin_array (IsItem index) ts rest

-- from a value to the one to which all steps lead, in their order
abbrev pub Leads : List Step → List Token → List Token → Type 0
Leads [] ts rest = rest ≡ ts
Leads (step ∷ steps) ts rest = (middle : List Token) × LeadsBy step ts middle × Leads steps middle rest

-- the bytes of a text from one to before another one
abbrev pub bytes_of : List ℕ → Span → List ℕ
bytes_of text span = take (span.end - span.begin) (drop span.begin text)

-- the bytes spell the value that comes next
pub record IsNextSpan (text : List ℕ) (at : List Token) (span : Span) : Type 0 where
  pub j : Json
  pub behind : List Token
  pub is : value max_depth at ≡ Some (j, behind)
  pub spelled : document (bytes_of text span) ≡ Some j

-- the bytes spell the value to which the steps lead
pub record IsSpanOf (text : List ℕ) (steps : List Step) (span : Span) : Type 0 where
  pub at : List Token
  pub leads : Leads steps (tokens text) at
  pub is : IsNextSpan text at span

-- the bytes spell a key of this name
abbrev pub IsKeySpan : (name text : List ℕ) → Span → Type 0
IsKeySpan name text span = document (bytes_of text span) ≡ Some (json.string name)

-- the bytes spell the name of the member to which the last step leads
pub record IsRepeatedKeySpan (text : List ℕ) (steps : List Step) (span : Span) : Type 0 where
  pub before : List Step
  pub name : List ℕ
  pub last : steps ≡ before ++ Member name ∷ []
  pub is : IsKeySpan name text span
