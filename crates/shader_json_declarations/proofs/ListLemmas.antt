-- Lists that are read item by item.
use Rattle.std.proofs.Common.{◌≡◌, ℕ, zero, suc, refl, ◌+◌, ◌<◌, ◌≤◌, List, [], ◌∷◌, ◌++◌, ◌∙◌, ap, sym, subst, take, get_or, length}
use Rattle.std.proofs.Common.{Global, Vec, arith}
use Rattle.std.proofs.lemmas.List.{take_more}
use Rattle.json.specs.Json.{Json, null, boolean, number, string, array, object, Items}
use Rattle.json.specs.Value.{value_view, items_view}
use Rattle.json.specs.declared.value.Value.{Array, Value}
use Rattle.json.proofs.Trees.{view-Array}
use Rattle.shader_json_reader.proofs.AnswerLemmas.{of_items}
use Rattle.shader_json_reader.specs.Shapes.{Determines, Each, IsArray, IsList, IsPair, Reading}

Each-append : {A : Type 0} (R : Reading A) (vs : List (Value Global)) (v : Value Global) (xs : List A) (x : A)
    → Each R (items_view vs) xs → R (value_view v) x → Each R (items_view (vs ++ v ∷ [])) (xs ++ x ∷ [])
Each-append R [] v [] x each here = (here, tt)
Each-append R [] v (y ∷ ys) x each here = absurd each
Each-append R (w ∷ vs) v [] x each here = absurd each
Each-append R (w ∷ vs) v (y ∷ ys) x each here = (each.0, Each-append R vs v ys x each.1 here)

-- one more item is read
pub each_more : {A : Type 0} (R : Reading A) (vs : List (Value Global)) (i : ℕ) (v : Value Global) (xs : List A) (x : A) (ys : List A)
    → ys ≡ xs ++ x ∷ [] → i < length vs → v ≡ get_or vs i v → Each R (items_view (take i vs)) xs → R (value_view v) x
    → Each R (items_view (take (i + 1) vs)) ys
each_more R vs i v xs x ys pushed within is each here =
    let front : take i vs ++ v ∷ [] ≡ take (i + 1) vs = sym (take_more vs i v within ∙ ap (λ w. take i vs ++ w ∷ []) (sym is)) in
    let all : Each R (items_view (take (i + 1) vs)) (xs ++ x ∷ []) =
    subst (λ (ws : List (Value Global)). Each R (items_view ws) (xs ++ x ∷ [])) front (Each-append R (take i vs) v xs x each here) in
    subst (λ (zs : List _). Each R (items_view (take (i + 1) vs)) zs) (sym pushed) all

pub take_over : {A : Type 0} (xs : List A) (i : ℕ) → length xs ≤ i → take i xs ≡ xs
take_over [] zero h = refl
take_over [] (suc i) h = refl
take_over (x ∷ xs) zero h = absurd (omega arith)
take_over (x ∷ xs) (suc i) h = ap (λ ys. x ∷ ys) (take_over xs i (omega arith))

-- all items of an array are read
pub all_read : {A : Type 0} (R : Reading A) (j : Json) (vs : List (Value Global)) (i : ℕ) (xs : List A) → j ≡ array (items_view vs)
    → length vs ≤ i → Each R (items_view (take i vs)) xs → IsList R j xs
all_read R j vs i xs is end each =
    let all : Each R (items_view vs) xs = subst (λ (ws : List (Value Global)). Each R (items_view ws) xs) (take_over vs i end) each in
    subst (λ (k : Json). IsList R k xs) (sym is) all

-- what an array is whose items are listed
pub array_view : (j : Value Global) (v : Vec (Value Global) Global) (vs : List (Value Global)) → j ≡ Array v → vs ≡ v.items
    → value_view j ≡ array (items_view vs)
array_view j v vs is listed = ap value_view is ∙ view-Array v ∙ ap (λ ws. array (items_view ws)) (sym listed)

-- an item of an array stands for something if the array does
item_at : {A X : Type 0} (R : Reading A) (vs : List (Value Global)) (i : ℕ) (v : Value Global) (xs : List A) → i < length vs
    → v ≡ get_or vs i v → ((x : A) → R (value_view v) x → X) → Each R (items_view vs) xs → X
item_at R [] i v xs within same f each = absurd (omega arith)
item_at R (w ∷ vs) i v [] within same f each = absurd each
item_at R (w ∷ vs) zero v (x ∷ xs) within same f each = f x (subst (λ (u : Value Global). R (value_view u) x) (sym same) each.0)
item_at R (w ∷ vs) (suc i) v (x ∷ xs) within same f each = item_at R vs i v xs (omega arith) same f each.1

pub item_of : {A X : Type 0} (R : Reading A) (j : Json) (vs : List (Value Global)) (i : ℕ) (v : Value Global) (xs : List A)
    → j ≡ array (items_view vs) → i < length vs → v ≡ get_or vs i v → ((x : A) → R (value_view v) x → X) → IsList R j xs → X
item_of R j vs i v xs is within same f listed =
    item_at R vs i v xs within same f (of_items (λ js. Each R js xs) j (items_view vs) is listed)

pub take_count : {A : Type 0} (xs : List A) (i : ℕ) → i < length xs → length (take i xs) ≡ i
take_count [] i within = absurd (omega arith)
take_count (x ∷ xs) zero within = refl
take_count (x ∷ xs) (suc i) within = ap suc (take_count xs i (omega arith))

-- as many items as are read
pub each_count : {A : Type 0} (R : Reading A) (vs : List (Value Global)) (xs : List A) → Each R (items_view vs) xs → length xs ≡ length vs
each_count R [] [] each = refl
each_count R [] (x ∷ xs) each = absurd each
each_count R (v ∷ vs) [] each = absurd each
each_count R (v ∷ vs) (x ∷ xs) each = ap suc (each_count R vs xs each.1)

pub list_count : {A : Type 0} (R : Reading A) (j : Json) (vs : List (Value Global)) (xs : List A) → j ≡ array (items_view vs)
    → IsList R j xs → length xs ≡ length vs
list_count R j vs xs is listed = each_count R vs xs (of_items (λ js. Each R js xs) j (items_view vs) is listed)

-- what is no array stands for no list
pub no_array : {A X : Type 0} (R : Reading A) (j : Json) (xs : List A) → ((js : Items) → j ≡ array js → X) → IsList R j xs → X
no_array R null xs f listed = absurd listed
no_array R (boolean b) xs f listed = absurd listed
no_array R (number n) xs f listed = absurd listed
no_array R (string n) xs f listed = absurd listed
no_array R (array js) xs f listed = f js refl
no_array R (object ms) xs f listed = absurd listed

-- an array with another number of items than two is no pair
two_items : {X : Type 0} (P : Json → Json → Type 0) (vs : List (Value Global)) → (length vs ≡ 2 → ⊥) → IsPair P (items_view vs) → X
two_items P [] other pair = absurd pair
two_items P (a ∷ []) other pair = absurd pair
two_items P (a ∷ (b ∷ [])) other pair = absurd (other refl)
two_items P (a ∷ (b ∷ (e ∷ vs))) other pair = absurd pair

pub not_two : {X : Type 0} (P : Json → Json → Type 0) (j : Json) (vs : List (Value Global)) → j ≡ array (items_view vs)
    → (length vs ≡ 2 → ⊥) → IsArray j (IsPair P) → X
not_two P j vs is other h = two_items P vs other (of_items (IsPair P) j (items_view vs) is h)

-- what stands for all items begins with what stands for the first ones
pub split_each : {A X : Type 0} (R : Reading A) → Determines R → (vs : List (Value Global)) (i : ℕ) (v : Value Global) (ys xs : List A)
    → i < length vs → v ≡ get_or vs i v → Each R (items_view (take i vs)) ys → Each R (items_view vs) xs
    → ((x : A) (rest : List A) → R (value_view v) x → xs ≡ ys ++ x ∷ rest → X) → X
split_each R determined [] i v ys xs within same so_far all f = absurd (omega arith)
split_each R determined (w ∷ vs) zero v [] [] within same so_far all f = absurd all
split_each R determined (w ∷ vs) zero v [] (x ∷ xs) within same so_far all f =
    f x xs (subst (λ (u : Value Global). R (value_view u) x) (sym same) all.0) refl
split_each R determined (w ∷ vs) zero v (y ∷ ys) xs within same so_far all f = absurd so_far
split_each R determined (w ∷ vs) (suc i) v [] xs within same so_far all f = absurd so_far
split_each R determined (w ∷ vs) (suc i) v (y ∷ ys) [] within same so_far all f = absurd all
split_each R determined (w ∷ vs) (suc i) v (y ∷ ys) (x ∷ xs) within same so_far all f =
    let first : x ≡ y = determined (value_view w) x y all.0 so_far.0 in
    split_each R determined vs i v ys xs (omega arith) same so_far.1 all.1 (λ z rest r is. f z rest r (λ k. first k ∷ is k))

-- three items
module _ {A : Type 0} (R : Reading A) where
  three_each : (vs : List (Value Global)) (a b c : Value Global) (x y z : A) → length vs ≡ 3 → R (value_view (get_or vs 0 a)) x
      → R (value_view (get_or vs 1 b)) y → R (value_view (get_or vs 2 c)) z → Each R (items_view vs) (x ∷ y ∷ z ∷ [])
  three_each [] a b c x y z three p q r = absurd (omega arith)
  three_each (k ∷ []) a b c x y z three p q r = absurd (omega arith)
  three_each (k ∷ l ∷ []) a b c x y z three p q r = absurd (omega arith)
  three_each (k ∷ l ∷ m ∷ []) a b c x y z three p q r = (p, (q, (r, tt)))
  three_each (k ∷ l ∷ m ∷ n ∷ vs) a b c x y z three p q r = absurd (omega arith)

  pub three_items : (j : Json) (vs : List (Value Global)) → j ≡ array (items_view vs) → (k l m : Value Global) (x y z : A)
      → length vs ≡ 3 → k ≡ get_or vs 0 k → l ≡ get_or vs 1 l → m ≡ get_or vs 2 m → R (value_view k) x → R (value_view l) y
      → R (value_view m) z → IsList R j (x ∷ y ∷ z ∷ [])
  three_items j vs is k l m x y z three at_k at_l at_m p q r =
      let all = three_each vs k l m x y z three (subst (λ (v : Value Global). R (value_view v) x) at_k p)
      (subst (λ (v : Value Global). R (value_view v) y) at_l q) (subst (λ (v : Value Global). R (value_view v) z) at_m r) in
      subst (λ (i : Json). IsList R i (x ∷ y ∷ z ∷ [])) (sym is) all
