-- A row of a table whose rows begin with the names of their items.
use Rattle.std.proofs.Common.{◌≡◌, ◌≢◌, ◌∙◌, ℕ, zero, suc, ◌+◌, List, [], ◌∷◌, ◌++◌, Bool, true, false, ◌&&◌, ◌||◌, ap, refl, sym, subst}
use Rattle.std.proofs.Common.{take}
use Rattle.std.proofs.Common.{get_or, length, ◌<◌, ◌≤◌, arith}
use Rattle.std.proofs.lemmas.Bool.{true≢false}
use Rattle.std.proofs.lemmas.List.{take_more}
use Rattle.std.specs.Borrow.{Bor}
use Rattle.std.proofs.lemmas.Slice.Eq.{bytes_eq-Decides}
use Rattle.std.specs.List.{list_any}
use Rattle.std.specs.Str.{bytes_eq}
use Rattle.shader_json_declarations.proofs.ListLemmas.{take_over}
use Rattle.shader_json_declarations.specs.Rows.{are_spelled, is_listed}

first_of : (b c : Bool) → (b && c) ≡ true → b ≡ true
first_of true c h = refl
first_of false c h = h

rest_of : (b c : Bool) → (b && c) ≡ true → c ≡ true
rest_of true c h = h
rest_of false c h = cc

pub spelled-row : {A : Type 0} (spelling : A → List ℕ) (rows : List (Bor (List ℕ) × A)) (i : ℕ) (row : Bor (List ℕ) × A)
    → i < length rows → row ≡ get_or rows i row → are_spelled spelling rows ≡ true → row.0.now ≡ spelling row.1
spelled-row spelling [] i row within found spelled = absurd (omega arith)
spelled-row spelling (r ∷ rows) zero row within found spelled =
    let here : r.0.now ≡ spelling r.1 = (bytes_eq-Decides r.0.now (spelling r.1)).0 (first_of _ _ spelled) in
    subst (λ (x : Bor (List ℕ) × _). x.0.now ≡ spelling x.1) (sym found) here
spelled-row spelling (r ∷ rows) (suc i) row within found spelled = spelled-row spelling rows i row (omega arith) found (rest_of _ _ spelled)

cons_none : (b : Bool) (rest more : Bool) → (rest ≡ false → more ≡ false) → (b || rest) ≡ false → (b || more) ≡ false
cons_none true rest more f found = found
cons_none false rest more f none = f none

list_any-last : {A : Type 0} (test : A → Bool) (xs : List A) (x : A) → list_any test xs ≡ false → false ≡ test x
    → list_any test (xs ++ x ∷ []) ≡ false
list_any-last test [] x none other = ap (λ b. b || false) (sym other)
list_any-last test (y ∷ ys) x none other = cons_none (test y) _ _ (λ rest. list_any-last test ys x rest other) none

-- one more row has another name
pub other_row : {A : Type 0} (name : List ℕ) (rows : List (Bor (List ℕ) × A)) (i : ℕ) (row : Bor (List ℕ) × A) → i < length rows
    → row ≡ get_or rows i row → list_any (λ r. bytes_eq r.0.now name) (take i rows) ≡ false → false ≡ bytes_eq row.0.now name
    → list_any (λ r. bytes_eq r.0.now name) (take (i + 1) rows) ≡ false
other_row name rows i row within same none other =
    ap (list_any (λ r. bytes_eq r.0.now name)) (take_more rows i row within ∙ ap (λ x. take i rows ++ x ∷ []) (sym same))
    ∙ list_any-last (λ r. bytes_eq r.0.now name) (take i rows) row none other

-- a name that no row has is that of no item
pub not_listed : {A : Type 0} (spelling : A → List ℕ) (name : List ℕ) (rows : List (Bor (List ℕ) × A)) (i : ℕ) → length rows ≤ i
    → list_any (λ r. bytes_eq r.0.now name) (take i rows) ≡ false → ((x : A) → is_listed spelling rows x ≡ true) → (x : A)
    → name ≢ spelling x
not_listed spelling name rows i end none listed x same =
    let all : list_any (λ r. bytes_eq r.0.now name) rows ≡ false =
    ap (list_any (λ r. bytes_eq r.0.now name)) (sym (take_over rows i end)) ∙ none in
    true≢false (sym (listed x) ∙ (ap (λ word. list_any (λ r. bytes_eq r.0.now word) rows) (sym same) ∙ all))
