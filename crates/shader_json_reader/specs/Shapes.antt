-- The shapes that serde's derives give data in JSON: structs, enums, options and lists. A relation says what data a value stands for.
use Rattle.std.specs.Prelude.{◌≡◌, ◌≢◌, ◌||◌, ℕ, List, [], ◌∷◌, Bool, true, false, IsTrue, Option, Some, None, MatchOption, length, ⊤}
use Rattle.std.specs.Str.{bytes_eq}
use Rattle.json.specs.Json.{Json, null, boolean, number, string, array, object, Items, no_items, item, Members, no_members, member}

-- what a value stands for
abbrev pub Reading : Type 0 → Type 1
Reading A = Json → A → Type 0

-- the value determines what it stands for
abbrev pub Determines : {A : Type 0} → Reading A → Type 0
Determines R = (j : Json) (x y : _) → R j x → R j y → x ≡ y

-- the item before others, if the test holds
abbrev pub cons_if : {A : Type 0} → Bool → A → List A → List A
cons_if true x xs = x ∷ xs
cons_if false x xs = xs

-- the list of what is there
abbrev pub kept : {A : Type 0} → Option A → List A
kept None = []
kept (Some x) = x ∷ []

-- the values of the members of that name, in order
abbrev pub values_of : List ℕ → Members → List Json
values_of name no_members = []
values_of name (member k j ms) = cons_if (bytes_eq k name) j (values_of name ms)

-- there is one value, and it is such
abbrev pub IsOnly : (Json → Type 0) → List Json → Type 0
IsOnly P [] = ⊥
IsOnly P (j ∷ []) = P j
IsOnly P (j ∷ (k ∷ js)) = ⊥

-- there is one value at most, and it is such, or null is if there is none
abbrev pub IsOnlyOrNull : (Json → Type 0) → List Json → Type 0
IsOnlyOrNull P [] = P null
IsOnlyOrNull P (j ∷ []) = P j
IsOnlyOrNull P (j ∷ (k ∷ js)) = ⊥

-- null stands for none, and any other value for what is there
abbrev pub IsNullable : {A : Type 0} → Reading A → Reading (Option A)
IsNullable R null x = x ≡ None
IsNullable R (boolean b) x = MatchOption x ⊥ (R (boolean b))
IsNullable R (number s) x = MatchOption x ⊥ (R (number s))
IsNullable R (string s) x = MatchOption x ⊥ (R (string s))
IsNullable R (array js) x = MatchOption x ⊥ (R (array js))
IsNullable R (object ms) x = MatchOption x ⊥ (R (object ms))

-- the object has one member of that name, which stands for x
abbrev pub HasField : {A : Type 0} → Reading A → List ℕ → Members → A → Type 0
HasField R name ms x = IsOnly (λ j. R j x) (values_of name ms)

-- the object has at most one member of that name; it stands for what is there, and null or none stands for none
abbrev pub MayHaveField : {A : Type 0} → Reading A → List ℕ → Members → Option A → Type 0
MayHaveField R name ms x = IsOnlyOrNull (λ j. IsNullable R j x) (values_of name ms)

-- the object has at most one member of that name, which stands for something unless it is null
abbrev pub MayHave : {A : Type 0} → Reading A → List ℕ → Members → Type 0
MayHave {A} R name ms = (x : Option A) × MayHaveField R name ms x

-- the value is an object with such members
abbrev pub IsObject : Json → (Members → Type 0) → Type 0
IsObject null P = ⊥
IsObject (boolean b) P = ⊥
IsObject (number s) P = ⊥
IsObject (string s) P = ⊥
IsObject (array js) P = ⊥
IsObject (object ms) P = P ms

-- each member has one of two names
abbrev pub HasOnly : (first second : List ℕ) → Members → Type 0
HasOnly first second no_members = ⊤
HasOnly first second (member k j ms) = IsTrue (bytes_eq k first || bytes_eq k second) × HasOnly first second ms

-- the value is an array with such items
abbrev pub IsArray : Json → (Items → Type 0) → Type 0
IsArray null P = ⊥
IsArray (boolean b) P = ⊥
IsArray (number s) P = ⊥
IsArray (string s) P = ⊥
IsArray (array js) P = P js
IsArray (object ms) P = ⊥

-- the items stand for the data of a list, in order
abbrev pub Each : {A : Type 0} → Reading A → Items → List A → Type 0
Each R no_items [] = ⊤
Each R no_items (x ∷ xs) = ⊥
Each R (item j js) [] = ⊥
Each R (item j js) (x ∷ xs) = R j x × Each R js xs

-- there are two items, and they are such
abbrev pub IsPair : (Json → Json → Type 0) → Items → Type 0
IsPair P no_items = ⊥
IsPair P (item first no_items) = ⊥
IsPair P (item first (item second no_items)) = P first second
IsPair P (item first (item second (item third js))) = ⊥

-- an array stands for a list
abbrev pub IsList : {A : Type 0} → Reading A → Reading (List A)
IsList R j xs = IsArray j (λ js. Each R js xs)

-- an array of three items stands for a list
abbrev pub IsTriple : {A : Type 0} → Reading A → Reading (List A)
IsTriple R j xs = IsList R j xs × (length xs ≡ 3)

-- the item is none of a list
abbrev pub IsAbsent : {A : Type 0} → A → List A → Type 0
IsAbsent x [] = ⊤
IsAbsent x (y ∷ ys) = (y ≢ x) × IsAbsent x ys

-- no two items of a list are equal
abbrev pub AreDistinct : {A : Type 0} → List A → Type 0
AreDistinct [] = ⊤
AreDistinct (x ∷ xs) = IsAbsent x xs × AreDistinct xs

-- the name of a variant, with its payload: a text alone, or an object with one member
abbrev pub variant_of : Json → Option (List ℕ × Option Json)
variant_of null = None
variant_of (boolean b) = None
variant_of (number s) = None
variant_of (string s) = Some (s, None)
variant_of (array js) = None
variant_of (object no_members) = None
variant_of (object (member k j no_members)) = Some (k, Some j)
variant_of (object (member k j (member l i ms))) = None

-- the value is a variant with such a name and payload
abbrev pub IsVariant : Json → (List ℕ → Option Json → Type 0) → Type 0
IsVariant j P = MatchOption (variant_of j) ⊥ (λ v. P v.0 v.1)

-- the name is the wanted one, and there is no payload
abbrev pub IsUnit : List ℕ → List ℕ → Option Json → Type 0
IsUnit wanted name payload = (name ≡ wanted) × (payload ≡ None)

-- the name is the wanted one, with such a payload
abbrev pub IsNewtype : List ℕ → List ℕ → Option Json → (Json → Type 0) → Type 0
IsNewtype wanted name payload P = (name ≡ wanted) × MatchOption payload ⊥ P

-- the name is the wanted one, with an object of such members
abbrev pub IsStruct : List ℕ → List ℕ → Option Json → (Members → Type 0) → Type 0
IsStruct wanted name payload P = IsNewtype wanted name payload (λ j. IsObject j P)
