-- Arenas that are read item by item.
use Rattle.std.proofs.Common.{◌≡◌, ◌+◌, ◌<◌, ◌≤◌, ◌∙◌, ap, ℕ, List, [], ◌∷◌, ◌++◌, Global, get_or, length, subst, take, arith}
use Rattle.std.proofs.lemmas.List.{length-append}
use Rattle.json.specs.Json.{Json, array}
use Rattle.json.specs.Value.{items_view, value_view}
use Rattle.json.specs.declared.value.Value.{Value}
use Rattle.shader_arena.specs.Positions.{most_items}
use Rattle.shader_json_reader.proofs.AnswerLemmas.{of_items}
use Rattle.shader_json_reader.proofs.ShapeLemmas.{list}
use Rattle.shader_json_reader.specs.Shapes.{AreDistinct, Determines, Each, IsAbsent, Reading}
use Rattle.shader_json_declarations.proofs.DistinctLemmas.{absent_before}
use Rattle.shader_json_declarations.proofs.ListLemmas.{each_count, list_count, split_each, take_count}
use Rattle.shader_json_declarations.specs.Arenas.{IsArena}

-- an array determines the arena that it stands for
pub arena : {A : Type 0} (R : Reading A) → Determines R → (j : Json) (xs ys : List A) → IsArena R j xs → IsArena R j ys → xs ≡ ys
arena R determined j xs ys u v = list R determined j xs ys u.0 v.0

-- an arena that isn't full has room for one more item
pub room_left : {A : Type 0} (xs : List A) (x : A) (ys : List A) → ys ≡ xs ++ x ∷ [] → length xs < most_items → length ys ≤ most_items
room_left xs x ys grown room =
    let more : length ys ≡ length xs + 1 = ap length grown ∙ length-append xs (x ∷ []) in
    omega (arith, more, room)

-- an arena that is full before the last item stands for nothing
pub never_full : {A X : Type 0} (R : Reading A) (j : Json) (vs : List (Value Global)) (i : ℕ) (ys xs : List A) → j ≡ array (items_view vs)
    → i < length vs → Each R (items_view (take i vs)) ys → length ys ≡ most_items → IsArena R j xs → X
never_full R j vs i ys xs is within each full arena =
    let read : length ys ≡ i = each_count R (take i vs) ys each ∙ take_count vs i within in
    let all : length xs ≡ length vs = list_count R j vs xs is arena.0 in
    let most : length xs ≤ most_items = arena.1 in
    absurd (omega (arith, read, all, most, full, within))

-- an item of an arena of unequal items is none of those before it, and there is room for it
pub new_item : {A X : Type 0} (R : Reading A) → Determines R → (j : Json) (vs : List (Value Global)) (i : ℕ) (v : Value Global)
    (ys : List A) (y : A) (xs : List A) → j ≡ array (items_view vs) → i < length vs → v ≡ get_or vs i v
    → Each R (items_view (take i vs)) ys → R (value_view v) y → IsArena R j xs → AreDistinct xs
    → (IsAbsent y ys → length ys < most_items → X) → X
new_item R determined j vs i v ys y xs is within same so_far here arena distinct f =
    split_each R determined vs i v ys xs within same so_far (of_items (λ js. Each R js xs) j (items_view vs) is arena.0) (λ x rest r split.
    let read : x ≡ y = determined (value_view v) x y r here in
    let apart : IsAbsent x ys = absent_before ys x rest (subst (λ (zs : List _). AreDistinct zs) split distinct) in
    let before : length ys ≡ i = each_count R (take i vs) ys so_far ∙ take_count vs i within in
    let all : length xs ≡ length vs = list_count R j vs xs is arena.0 in
    let most : length xs ≤ most_items = arena.1 in
    f (subst (λ (z : _). IsAbsent z ys) read apart) (omega (arith, before, all, most, within)))
