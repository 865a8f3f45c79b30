-- Words and the types that they spell, in both directions.
use Rattle.std.proofs.Common.{◌≡◌, ℕ, ◌+◌, ◌-◌, ◌<◌, ◌≤◌, ◌^◌, Bool, true, false, cond, eqb, ltb, Option, Some, None, List, [], ◌∷◌}
use Rattle.std.proofs.Common.{◌++◌, length, take, drop, refl, sym, subst, ap, ◌∙◌, append_assoc, arith, length-append, not, ◌||◌}
use Rattle.std.specs.Prelude.{codes}
use Rattle.std.specs.Fmt.{decimal}
use Rattle.std.specs.List.{position, position_or_len, list_any, slice_split, join_with_byte}
use Rattle.std.specs.Str.{bytes_eq}
use Rattle.std.specs.Option.{option_map, option_and_then}
use Rattle.std.proofs.lemmas.Bool.{ltb-true, lt-ltb, eqb-true, eqb-false, ne_eqb}
use Rattle.std.proofs.lemmas.Fmt.{decimal-digits_of}
use Rattle.std.proofs.lemmas.Option.{cond_some, option_and_then_some, same_Some}
use Rattle.std.proofs.lemmas.Slice.Eq.{bytes_eq-Decides}
use Rattle.std.proofs.lemmas.List.{take-append-drop}
use Rattle.std.proofs.lemmas.List.Splits.{join_with_byte-slice_split}
use Rattle.std.proofs.lemmas.List.Sums.{split_at_first, passes_at_first}
use Rattle.std.proofs.Math.Seq.{take-append_seam, drop-append_seam, drop-append-add}
use Rattle.shader_ir.specs.declared.scalar.Scalar as s
use Rattle.shader_ir.specs.declared.scalar.VectorSize.TheVariants.{Bi, Tri, Quad}
use Rattle.shader_ir.specs.declared.scalar.VectorSize.{VectorSize}
use Rattle.shader_type_text.specs.declared.scalars.ScalarName.{ScalarName}
use Rattle.shader_type_text.specs.declared.scalars.ScalarName.TheVariants.{I16, I32, I64, U16, U32, U64, F16, F32}
use Rattle.shader_type_text.specs.declared.scalars.ScalarName.TheVariants.{F64, AbstractInt, AbstractFloat}
use Rattle.shader_type_text.specs.declared.scalars.ScalarName.TheVariants as names
use Rattle.shader_type_text.specs.declared.shape.Shape.{Shape}
use Rattle.shader_type_text.specs.declared.shape.Shape.TheVariants as shapes
use Rattle.shader_type_text.specs.declared.types.PlainType.{PlainType}
use Rattle.shader_type_text.specs.declared.types.PlainType.TheVariants.{Scalar, Vector, Matrix}
use Rattle.shader_type_text.specs.declared.types.SpelledType.{SpelledType}
use Rattle.shader_type_text.specs.declared.types.SpelledType.TheVariants.{Plain, Array}
use Rattle.shader_type_text.specs.Cuts.{after_prefix, before_suffix, generic_parts}
use Rattle.shader_type_text.specs.Laws.{TypesAreDistinct, TypesAreSpelled}
use Rattle.shader_type_text.specs.Numbers.{number_of_word, count_of_word, positive}
use Rattle.shader_type_text.specs.Scalars.{scalar_text, scalar_of_word, scalar_name_text, name_of, named_scalar, all_names, IsNamedScalar}
use Rattle.shader_type_text.specs.Types.{shape_text, shape_of_word, all_shapes, shape_type, plain_text, plain_of, plain_from, type_text}
use Rattle.shader_type_text.specs.Types.{type_of, type_from, array_items, array_type, array_from, IsNamedPlain, IsWritable}
use Rattle.shader_type_text.proofs.Decimals.{number_named, number_is}
use Rattle.shader_type_text.proofs.LookupLemmas.{found_is, mapped}
use Rattle.shader_type_text.proofs.Separators.{is_separator, is_break, is_comma, quiet_append, no_break, no_comma, decimal_quiet}
use Rattle.shader_type_text.proofs.Separators.{split_joined}

-- ---- scalars

-- the text of a name names it, is its scalar's text, and contains no separator
abbrev NameFacts : ScalarName → Type 0
NameFacts name = (name_of (scalar_name_text name) ≡ Some name) × (scalar_text (named_scalar name) ≡ scalar_name_text name) ×
    (list_any is_separator (scalar_name_text name) ≡ false)

sixteen : decimal 16 ≡ codes "16"
sixteen = decimal-digits_of 16 (omega arith) (omega arith)

thirty_two : decimal 32 ≡ codes "32"
thirty_two = decimal-digits_of 32 (omega arith) (omega arith)

sixty_four : decimal 64 ≡ codes "64"
sixty_four = decimal-digits_of 64 (omega arith) (omega arith)

name_facts : (name : ScalarName) → NameFacts name
name_facts name = elim name as (λ name. NameFacts name) [
  | I16 ↦ (refl, ap (λ (bits : List ℕ). 105 ∷ bits) sixteen, refl)
  | I32 ↦ (refl, ap (λ (bits : List ℕ). 105 ∷ bits) thirty_two, refl)
  | I64 ↦ (refl, ap (λ (bits : List ℕ). 105 ∷ bits) sixty_four, refl)
  | U16 ↦ (refl, ap (λ (bits : List ℕ). 117 ∷ bits) sixteen, refl)
  | U32 ↦ (refl, ap (λ (bits : List ℕ). 117 ∷ bits) thirty_two, refl)
  | U64 ↦ (refl, ap (λ (bits : List ℕ). 117 ∷ bits) sixty_four, refl)
  | F16 ↦ (refl, ap (λ (bits : List ℕ). 102 ∷ bits) sixteen, refl)
  | F32 ↦ (refl, ap (λ (bits : List ℕ). 102 ∷ bits) thirty_two, refl)
  | F64 ↦ (refl, ap (λ (bits : List ℕ). 102 ∷ bits) sixty_four, refl)
  | names.Bool ↦ (refl, refl, refl)
  | AbstractInt ↦ (refl, refl, refl)
  | AbstractFloat ↦ (refl, refl, refl)
]

scalar_named : (t : s.Scalar) → IsNamedScalar t → scalar_of_word (scalar_text t) ≡ Some t
scalar_named t named =
    rw (named.1, (name_facts named.0).1, (name_facts named.0).0) refl

scalar_quiet : (t : s.Scalar) → IsNamedScalar t → list_any is_separator (scalar_text t) ≡ false
scalar_quiet t named = rw (named.1, (name_facts named.0).1) (name_facts named.0).2

scalar_is : (word : List ℕ) (t : s.Scalar) → scalar_of_word word ≡ Some t → (word ≡ scalar_text t) × IsNamedScalar t
scalar_is word t found =
    let m = mapped named_scalar (name_of word) t found in
    let spelled = found_is scalar_name_text all_names word m.0 m.1 in
    (spelled ∙ sym (name_facts m.0).1 ∙ ap scalar_text m.2, (m.0, sym m.2))

-- ---- shapes

abbrev is_open : ℕ → Bool
is_open b = eqb b 60

-- the text of a shape names it, and contains no bracket and no separator
abbrev ShapeFacts : Shape → Type 0
ShapeFacts shape = (shape_of_word (shape_text shape) ≡ Some shape) × (list_any is_open (shape_text shape) ≡ false) ×
    (list_any is_separator (shape_text shape) ≡ false)

pub size_cases : (P : VectorSize → Type 0) → P Bi → P Tri → P Quad → (n : VectorSize) → P n
size_cases P two three four n = elim n as P [ Bi ↦ two | Tri ↦ three | Quad ↦ four ]

shape_facts : (shape : Shape) → ShapeFacts shape
shape_facts (shapes.Vector n) = size_cases (λ n. ShapeFacts (shapes.Vector n)) (refl, refl, refl) (refl, refl, refl) (refl, refl, refl) n
shape_facts (shapes.Matrix c r) = size_cases (λ c. ShapeFacts (shapes.Matrix c r))
    (size_cases (λ r. ShapeFacts (shapes.Matrix Bi r)) (refl, refl, refl) (refl, refl, refl) (refl, refl, refl) r)
    (size_cases (λ r. ShapeFacts (shapes.Matrix Tri r)) (refl, refl, refl) (refl, refl, refl) (refl, refl, refl) r)
    (size_cases (λ r. ShapeFacts (shapes.Matrix Quad r)) (refl, refl, refl) (refl, refl, refl) (refl, refl, refl) r) c

-- ---- a name and an argument in brackets

abbrev generic_text : List ℕ → List ℕ → List ℕ
generic_text name argument = name ++ 60 ∷ (argument ++ 62 ∷ [])

shape_type-text : (shape : Shape) (t : s.Scalar) → generic_text (shape_text shape) (scalar_text t) ≡ plain_text (shape_type shape t)
shape_type-text (shapes.Vector n) t = simp append_assoc
shape_type-text (shapes.Matrix c r) t = simp append_assoc

past_one : (b : Bool) (n m : ℕ) (c : Bool) → (b || c) ≡ false → (c ≡ false → n ≡ m) → cond (not b) (1 + n) 0 ≡ 1 + m
past_one true n m c none later = cc
past_one false n m c none later = ap (λ k. 1 + k) (later none)

first_open : (name rest : List ℕ) → list_any is_open name ≡ false → position_or_len is_open (name ++ 60 ∷ rest) ≡ length name
first_open [] rest none = refl
first_open (b ∷ name) rest none =
    past_one (eqb b 60) _ (length name) (list_any is_open name) none (first_open name rest) ∙ omega arith

open_at : (name rest : List ℕ) → list_any is_open name ≡ false → position is_open (name ++ 60 ∷ rest) ≡ Some (length name)
open_at name rest none =
    let at = first_open name rest none in
    let below : ltb (length name) (length (name ++ 60 ∷ rest)) ≡ true = lt-ltb _ _ (omega (arith, length-append name (60 ∷ rest))) in
    rw (at, below) refl

-- the text before a closing bracket
ended : (argument : List ℕ) → before_suffix (codes ">") (argument ++ 62 ∷ []) ≡ Some argument
ended argument =
    let at : length (argument ++ 62 ∷ []) - 1 ≡ length argument = omega (arith, length-append argument (62 ∷ [])) in
    rw (at, drop-append_seam argument (62 ∷ []), take-append_seam argument (62 ∷ [])) refl

generic_named : (name argument : List ℕ) → list_any is_open name ≡ false →
    generic_parts (generic_text name argument) ≡ Some (name, argument)
generic_named name argument none =
    rw (
      open_at name (argument ++ 62 ∷ []) none,
      drop-append-add name (60 ∷ (argument ++ 62 ∷ [])) 1,
      ended argument,
      take-append_seam name (60 ∷ (argument ++ 62 ∷ [])),
    ) refl

-- the text before an end, together with the end
before_is : (end bytes front : List ℕ) → before_suffix end bytes ≡ Some front → bytes ≡ front ++ end
before_is end bytes front e =
    let n = length bytes - length end in
    let h = cond_some (bytes_eq (drop n bytes) end) (take n bytes) front e in
    let tail = (bytes_eq-Decides (drop n bytes) end).0 h.0 in
    sym (take-append-drop n bytes) ∙ ap (λ xs. xs ++ drop n bytes) h.1 ∙ ap (λ xs. front ++ xs) tail

-- a beginning, and the text after it
after_is : (front bytes rest : List ℕ) → after_prefix front bytes ≡ Some rest → bytes ≡ front ++ rest
after_is front bytes rest e =
    let h = cond_some (bytes_eq (take (length front) bytes) front) (drop (length front) bytes) rest e in
    let head = (bytes_eq-Decides (take (length front) bytes) front).0 h.0 in
    sym (take-append-drop (length front) bytes) ∙ ap (λ (xs : List ℕ). xs ++ drop (length front) bytes) head
    ∙ ap (λ (xs : List ℕ). front ++ xs) h.1

generic_is : (word name argument : List ℕ) → generic_parts word ≡ Some (name, argument) → word ≡ generic_text name argument
generic_is word name argument e =
    option_and_then_some {P = word ≡ generic_text name argument}
    (λ at. option_map (λ (rest : List ℕ). (take at word, rest)) (before_suffix (codes ">") (drop (at + 1) word)))
    (position is_open word) (name, argument) e
    (λ at found inner.
    let h = cond_some (ltb (position_or_len is_open word) (length word)) (position_or_len is_open word) at found in
    let below : position_or_len is_open word < length word = ltb-true _ _ h.0 in
    let m = mapped (λ (rest : List ℕ). (take at word, rest)) (before_suffix (codes ">") (drop (at + 1) word)) (name, argument) inner in
    let opened = eqb-true _ _ (passes_at_first is_open word 0 below) in
    let whole = split_at_first is_open word 0 below in
    let tail = before_is (codes ">") (drop (at + 1) word) m.0 m.1 in
    let parts = pair_parts (take at word) name m.0 argument m.2 in
    (rw (opened, h.1) at whole)
    ∙ ap (λ (xs : List ℕ). take at word ++ 60 ∷ xs) tail
    ∙ ap (λ (xs : List ℕ). xs ++ 60 ∷ (m.0 ++ 62 ∷ [])) parts.0
    ∙ ap (λ (xs : List ℕ). name ++ 60 ∷ (xs ++ 62 ∷ [])) parts.1)
  where
    pair_parts : (a x b y : List ℕ) → ◌≡◌ {A = List ℕ × List ℕ} (a, b) (x, y) → (a ≡ x) × (b ≡ y)
    pair_parts a x b y e = (ap (λ (p : List ℕ × List ℕ). p.0) e, ap (λ (p : List ℕ × List ℕ). p.1) e)

-- ---- plain types

shape_type-named : (shape : Shape) (t : s.Scalar) → IsNamedScalar t → IsNamedPlain (shape_type shape t)
shape_type-named (shapes.Vector n) t named = named
shape_type-named (shapes.Matrix c r) t named = named

plain_is_by : (word : List ℕ) (p : PlainType) (parts : Option (List ℕ × List ℕ)) → generic_parts word ≡ parts →
    plain_from word parts ≡ Some p
    → (word ≡ plain_text p) × IsNamedPlain p
plain_is_by word p None cut e =
    let m = mapped Scalar (scalar_of_word word) p e in
    let h = scalar_is word m.0 m.1 in
    rw (← m.2) h
plain_is_by word p (Some parts) cut e =
    option_and_then_some {P = (word ≡ plain_text p) × IsNamedPlain p}
    (λ t. option_map (λ shape. shape_type shape t) (shape_of_word parts.0)) (scalar_of_word parts.1) p e
    (λ t found inner.
    let m = mapped (λ (shape : Shape). shape_type shape t) (shape_of_word parts.0) p inner in
    let name = found_is shape_text all_shapes parts.0 m.0 m.1 in
    let argument = scalar_is parts.1 t found in
    let spelled : word ≡ plain_text (shape_type m.0 t) =
    generic_is word parts.0 parts.1 cut
    ∙ ap (λ (xs : List ℕ). generic_text xs parts.1) name
    ∙ ap (λ (xs : List ℕ). generic_text (shape_text m.0) xs) argument.0
    ∙ shape_type-text m.0 t in
    rw (← m.2) (spelled, shape_type-named m.0 t argument.1))

pub plain_is : (word : List ℕ) (p : PlainType) → plain_of word ≡ Some p → (word ≡ plain_text p) × IsNamedPlain p
plain_is word p = plain_is_by word p (generic_parts word) refl

name_plain : (name : ScalarName) → plain_of (scalar_name_text name) ≡ Some (Scalar (named_scalar name))
name_plain name = elim name as (λ name. plain_of (scalar_name_text name) ≡ Some (Scalar (named_scalar name))) [
  | I16 ↦ refl
  | I32 ↦ refl
  | I64 ↦ refl
  | U16 ↦ refl
  | U32 ↦ refl
  | U64 ↦ refl
  | F16 ↦ refl
  | F32 ↦ refl
  | F64 ↦ refl
  | names.Bool ↦ refl
  | AbstractInt ↦ refl
  | AbstractFloat ↦ refl
]

generic_plain : (shape : Shape) (t : s.Scalar) → IsNamedScalar t →
    plain_of (generic_text (shape_text shape) (scalar_text t)) ≡ Some (shape_type shape t)
generic_plain shape t named =
    rw (generic_named (shape_text shape) (scalar_text t) (shape_facts shape).1, scalar_named t named, (shape_facts shape).0) refl

pub plain_named : (p : PlainType) → IsNamedPlain p → plain_of (plain_text p) ≡ Some p
plain_named (Scalar t) named = rw (named.1, (name_facts named.0).1) (name_plain named.0)
plain_named (Vector n t) named = ap plain_of (sym (shape_type-text (shapes.Vector n) t)) ∙ generic_plain (shapes.Vector n) t named
plain_named (Matrix c r t) named = ap plain_of (sym (shape_type-text (shapes.Matrix c r) t)) ∙ generic_plain (shapes.Matrix c r) t named

shaped_quiet : (shape : Shape) (t : s.Scalar) → IsNamedScalar t →
    list_any is_separator (shape_text shape ++ codes "<" ++ scalar_text t ++ codes ">") ≡ false
shaped_quiet shape t named =
    quiet_append is_separator (shape_text shape ++ codes "<" ++ scalar_text t) (codes ">")
    (quiet_append is_separator (shape_text shape ++ codes "<") (scalar_text t)
    (quiet_append is_separator (shape_text shape) (codes "<") (shape_facts shape).2 refl)
    (scalar_quiet t named))
    refl

pub plain_quiet : (p : PlainType) → IsNamedPlain p → list_any is_separator (plain_text p) ≡ false
plain_quiet (Scalar t) named = scalar_quiet t named
plain_quiet (Vector n t) named = shaped_quiet (shapes.Vector n) t named
plain_quiet (Matrix c r t) named = shaped_quiet (shapes.Matrix c r) t named

-- ---- arrays

-- the text between the brackets
abbrev items_text : PlainType → ℕ → ℕ → List ℕ
items_text base count stride = join_with_byte 44 (plain_text base ∷ decimal count ∷ decimal stride ∷ [])

items_named : (items : List ℕ) → array_items (codes "array<" ++ items ++ codes ">") ≡ Some items
items_named items = ended items

name_no_array : (name : ScalarName) → array_items (scalar_name_text name) ≡ None
name_no_array name = elim name as (λ name. array_items (scalar_name_text name) ≡ None) [
  | I16 ↦ refl
  | I32 ↦ refl
  | I64 ↦ refl
  | U16 ↦ refl
  | U32 ↦ refl
  | U64 ↦ refl
  | F16 ↦ refl
  | F32 ↦ refl
  | F64 ↦ refl
  | names.Bool ↦ refl
  | AbstractInt ↦ refl
  | AbstractFloat ↦ refl
]

plain_no_array : (p : PlainType) → IsNamedPlain p → array_items (plain_text p) ≡ None
plain_no_array (Scalar t) named = rw (named.1, (name_facts named.0).1) (name_no_array named.0)
plain_no_array (Vector n t) named = size_cases (λ n. array_items (plain_text (Vector n t)) ≡ None) refl refl refl n
plain_no_array (Matrix c r t) named = size_cases (λ c. array_items (plain_text (Matrix c r t)) ≡ None)
    (size_cases (λ r. array_items (plain_text (Matrix Bi r t)) ≡ None) refl refl refl r)
    (size_cases (λ r. array_items (plain_text (Matrix Tri r t)) ≡ None) refl refl refl r)
    (size_cases (λ r. array_items (plain_text (Matrix Quad r t)) ≡ None) refl refl refl r) c

count_named : (n : ℕ) → 1 ≤ n → n < 2 ^ 32 → count_of_word (decimal n) ≡ Some n
count_named n some small =
    let positive : eqb n 0 ≡ false = ne_eqb n 0 (λ e. omega (arith, e)) in
    rw (number_named n small, positive) refl

positive_is : (b : Bool) (n count : ℕ) → b ≡ eqb n 0 → cond b None (Some n) ≡ Some count → (n ≡ count) × (1 ≤ count)
positive_is true n count is e = cc
positive_is false n count is e = let same = same_Some n count e in (same, omega (arith, same, eqb-false n 0 (sym is)))

count_is : (word : List ℕ) (count : ℕ) → count_of_word word ≡ Some count → (word ≡ decimal count) × (1 ≤ count) × (count < 2 ^ 32)
count_is word count e =
    option_and_then_some {P = (word ≡ decimal count) × (1 ≤ count) × (count < 2 ^ 32)} positive (number_of_word word) count e
    (λ n found inner.
    let h = number_is word n found in
    let p = positive_is (eqb n 0) n count refl inner in
    (h.0 ∙ ap decimal p.0, p.1, omega (arith, h.1, p.0)))

array_named : (base : PlainType) (count stride : ℕ) → IsWritable (Array base count stride) →
    type_of (type_text (Array base count stride)) ≡ Some (Array base count stride)
array_named base count stride writable =
    let cut = split_joined 44 (plain_text base) (decimal count ∷ decimal stride ∷ []) refl (
      no_comma (plain_text base) (plain_quiet base writable.0),
      (
        no_comma (decimal count) (decimal_quiet count (omega (arith, writable.2))),
        (no_comma (decimal stride) (decimal_quiet stride (omega (arith, writable.3))), tt),
      ),
    ) in
    rw (
      items_named (items_text base count stride),
      cut,
      plain_named base writable.0,
      count_named count writable.1 writable.2,
      number_named stride writable.3,
    ) refl

-- words in an array's brackets
abbrev within : List (List ℕ) → List ℕ
within items = codes "array<" ++ join_with_byte 44 items ++ codes ">"

array_type_is : (base count stride : List ℕ) (t : SpelledType) → array_type base count stride ≡ Some t
    → (type_text t ≡ within (base ∷ count ∷ stride ∷ [])) × IsWritable t
array_type_is base count stride t e =
    let Goal : SpelledType → Type 0 = λ u. (type_text u ≡ within (base ∷ count ∷ stride ∷ [])) × IsWritable u in
    option_and_then_some {P = Goal t} (λ plain. option_and_then (λ n. option_map (λ bytes. Array plain n bytes) (number_of_word stride))
    (count_of_word count)) (plain_of base) t e
    (λ plain found_plain e'. option_and_then_some {P = Goal t} (λ n. option_map (λ bytes. Array plain n bytes) (number_of_word stride))
    (count_of_word count) t e'
    (λ n found_count e''.
    let m = mapped (λ (bytes : ℕ). Array plain n bytes) (number_of_word stride) t e'' in
    let p = plain_is base plain found_plain in
    let c = count_is count n found_count in
    let b = number_is stride m.0 m.1 in
    let spelled : type_text (Array plain n m.0) ≡ within (base ∷ count ∷ stride ∷ []) =
    ap (λ (x : List ℕ). within (x ∷ decimal n ∷ decimal m.0 ∷ [])) (sym p.0)
    ∙ ap (λ (x : List ℕ). within (base ∷ x ∷ decimal m.0 ∷ [])) (sym c.0)
    ∙ ap (λ (x : List ℕ). within (base ∷ count ∷ x ∷ [])) (sym b.0) in
    subst Goal m.2 (spelled, (p.1, c.1, c.2, b.1))))

array_from_is : (items : List (List ℕ)) (t : SpelledType) → array_from items ≡ Some t
    → (type_text t ≡ within items) × IsWritable t
array_from_is [] t e = cc
array_from_is (a ∷ []) t e = cc
array_from_is (a ∷ b ∷ []) t e = cc
array_from_is (a ∷ b ∷ c ∷ []) t e = array_type_is a b c t e
array_from_is (a ∷ b ∷ c ∷ d ∷ more) t e = cc

items_are : (word items : List ℕ) → array_items word ≡ Some items → word ≡ codes "array<" ++ items ++ codes ">"
items_are word items e =
    option_and_then_some {P = word ≡ codes "array<" ++ items ++ codes ">"} (before_suffix (codes ">"))
    (after_prefix (codes "array<") word) items e
    (λ rest behind inner. after_is (codes "array<") word rest behind
    ∙ ap (λ (xs : List ℕ). codes "array<" ++ xs) (before_is (codes ">") rest items inner))

-- ---- all types

type_is_by : (word : List ℕ) (t : SpelledType) (items : Option (List ℕ)) → array_items word ≡ items → type_from word items ≡ Some t
    → (word ≡ type_text t) × IsWritable t
type_is_by word t None cut e =
    let m = mapped Plain (plain_of word) t e in
    let h = plain_is word m.0 m.1 in
    rw (← m.2) h
type_is_by word t (Some items) cut e =
    let h = array_from_is (slice_split is_comma items) t e in (
      items_are word items cut ∙ ap (λ (xs : List ℕ). codes "array<" ++ xs ++ codes ">") (sym (join_with_byte-slice_split 44 items))
          ∙ sym h.0,
      h.1,
    )

pub type_is : (word : List ℕ) (t : SpelledType) → type_of word ≡ Some t → (word ≡ type_text t) × IsWritable t
type_is word t = type_is_by word t (array_items word) refl

pub type_named : (t : SpelledType) → IsWritable t → type_of (type_text t) ≡ Some t
type_named (Plain p) named = rw (plain_no_array p named, plain_named p named) refl
type_named (Array base count stride) writable = array_named base count stride writable

array_quiet : (items : List ℕ) → list_any is_break items ≡ false → list_any is_break (codes "array<" ++ items ++ codes ">") ≡ false
array_quiet items none = quiet_append is_break items (codes ">") none refl

-- the text of a type contains no space and no end of line
pub type_quiet : (t : SpelledType) → IsWritable t → list_any is_break (type_text t) ≡ false
type_quiet (Plain p) named = no_break (plain_text p) (plain_quiet p named)
type_quiet (Array base count stride) writable =
    array_quiet (items_text base count stride)
    (quiet_append is_break (plain_text base) (44 ∷ (decimal count ++ 44 ∷ decimal stride))
    (no_break (plain_text base) (plain_quiet base writable.0))
    (quiet_append is_break (decimal count) (44 ∷ decimal stride)
    (no_break (decimal count) (decimal_quiet count (omega (arith, writable.2))))
    (no_break (decimal stride) (decimal_quiet stride (omega (arith, writable.3))))))

pub types_are_spelled : TypesAreSpelled
types_are_spelled word t = (type_is word t, λ spelled writable. ap type_of spelled ∙ type_named t writable)

pub types_are_distinct : TypesAreDistinct
types_are_distinct t u writable other same =
    same_Some t u (sym (type_named t writable) ∙ ap type_of same ∙ type_named u other)
