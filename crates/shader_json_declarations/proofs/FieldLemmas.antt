-- The values of the members of one name, member by member.
use Rattle.std.proofs.Common.{◌≡◌, ◌≢◌, ◌↔◌, ℕ, zero, suc, ◌+◌, ◌<◌, drop, List, [], ◌∷◌, ◌++◌, Bool, true, false, refl, ◌∙◌, ap, take}
use Rattle.std.proofs.Common.{get_or, length, Global, Vec, arith, sym, subst, not, ◌||◌, IsTrue}
use Rattle.std.proofs.Common.{Option, Some, None, option_map}
use Rattle.std.proofs.lemmas.Bool.{true≢false}
use Rattle.std.proofs.lemmas.Bool.Decides.{Decides-eqb}
use Rattle.std.specs.Bool.{◌==◌}
use Rattle.std.specs.Option.{is_some}
use Rattle.std.specs.Borrow.{Bor}
use Rattle.std.specs.Str.{bytes_eq}
use Rattle.std.proofs.lemmas.List.{take_more, append-nil}
use Rattle.json.specs.Json.{Json, Members, member, no_members, object}
use Rattle.json.specs.Value.{value_view, members_view}
use Rattle.json.specs.declared.value.Value.{Object, Value}
use Rattle.json.proofs.Trees.{view-Object}
use Rattle.shader_json_reader.specs.Shapes.{HasOnly, IsOnlyOrNull, cons_if, kept, values_of, variant_of}

some≢none : {A : Type 0} {x : A} → Some x ≢ None
some≢none same = cc

cons≢nil : {A : Type 0} {x : A} {xs : List A} → x ∷ xs ≢ []
cons≢nil same = cc

cons_if-append : {A : Type 0} (b : Bool) (x : A) (xs ys : List A) → cons_if b x (xs ++ ys) ≡ cons_if b x xs ++ ys
cons_if-append true x xs ys = refl
cons_if-append false x xs ys = refl

values_of-append : (name : List ℕ) (ms : List (Bor (List ℕ) × Value Global)) (m : Bor (List ℕ) × Value Global)
    → values_of name (members_view (ms ++ m ∷ [])) ≡ values_of name (members_view ms) ++ cons_if (bytes_eq m.0.now name) (value_view m.1) []
values_of-append name [] m = refl
values_of-append name (n ∷ ms) m =
    ap (cons_if (bytes_eq n.0.now name) (value_view n.1)) (values_of-append name ms m)
    ∙ cons_if-append (bytes_eq n.0.now name) (value_view n.1) (values_of name (members_view ms)) (cons_if (bytes_eq m.0.now name)
    (value_view m.1) [])

pub values_of-more : (name : List ℕ) (ms : List (Bor (List ℕ) × Value Global)) (i : ℕ) (m : Bor (List ℕ) × Value Global) → i < length ms
    → m ≡ get_or ms i m → values_of name (members_view (take (i + 1) ms))
    ≡ values_of name (members_view (take i ms)) ++ cons_if (bytes_eq m.0.now name) (value_view m.1) []
values_of-more name ms i m within same =
    ap (λ xs. values_of name (members_view xs)) (take_more ms i m within ∙ ap (λ x. take i ms ++ x ∷ []) (sym same))
    ∙ values_of-append name (take i ms) m

-- the first value of that name
pub first_value : {A B : Type 0} (f : A → B) (found : Option A) (vs : List B) (b : Bool) (x : B) → vs ≡ kept (option_map f found)
    → false ≡ is_some found
    → true ≡ b → vs ++ cons_if b x [] ≡ x ∷ []
first_value f None vs b x so_far none here = ap (λ ys. ys ++ cons_if b x []) so_far ∙ ap (λ (c : Bool). cons_if c x []) (sym here)
first_value f (Some y) vs b x so_far none here = cc

-- a value of another name
pub other_value : {B : Type 0} (vs : List B) (b : Bool) (x : B) → false ≡ b → vs ++ cons_if b x [] ≡ vs
other_value vs b x other = ap (λ (c : Bool). vs ++ cons_if c x []) (sym other) ∙ append-nil vs

-- the values are those of the first members and of the others
values_of-both : (name : List ℕ) (ms : List (Bor (List ℕ) × Value Global)) (i : ℕ)
    → values_of name (members_view ms) ≡ values_of name (members_view (take i ms)) ++ values_of name (members_view (drop i ms))
values_of-both name [] zero = refl
values_of-both name [] (suc i) = refl
values_of-both name (m ∷ ms) zero = refl
values_of-both name (m ∷ ms) (suc i) =
    ap (cons_if (bytes_eq m.0.now name) (value_view m.1)) (values_of-both name ms i)
    ∙ cons_if-append (bytes_eq m.0.now name) (value_view m.1) (values_of name (members_view (take i ms)))
    (values_of name (members_view (drop i ms)))

two_values : {A B X : Type 0} (f : A → B) (found : Option A) (vs all rest : List B) (b : Bool) (x : B) (one : Option B)
    → vs ≡ kept (option_map f found) → true ≡ is_some found → true ≡ b → all ≡ (vs ++ cons_if b x []) ++ rest → all ≡ kept one → X
two_values f None vs all rest b x one so_far some here split is = absurd (true≢false some)
two_values f (Some y) vs all rest true x None so_far some here split is = absurd (cons≢nil (sym split′ ∙ is)) where
  split′ : all ≡ f y ∷ (x ∷ rest)
  split′ = split ∙ ap (λ ys. (ys ++ x ∷ []) ++ rest) so_far
two_values f (Some y) vs all rest true x (Some z) so_far some here split is = absurd (cons≢nil (tails (sym split′ ∙ is))) where
  split′ : all ≡ f y ∷ (x ∷ rest)
  split′ = split ∙ ap (λ ys. (ys ++ x ∷ []) ++ rest) so_far

  tails : f y ∷ (x ∷ rest) ≡ z ∷ [] → x ∷ rest ≡ []
  tails same = cc
two_values f (Some y) vs all rest false x one so_far some here split is = absurd (true≢false here)

-- a second value of a name is one too many
pub no_second : {X : Type 0} (name : List ℕ) (ms : List (Bor (List ℕ) × Value Global)) (i : ℕ) (m : Bor (List ℕ) × Value Global)
    (found : Option (ℕ × Bor (Value Global))) (one : Option Json) → i < length ms → m ≡ get_or ms i m
    → values_of name (members_view (take i ms)) ≡ kept (option_map (λ f. value_view f.1.now) found) → true ≡ is_some found
    → true ≡ bytes_eq m.0.now name → values_of name (members_view ms) ≡ kept one → X
no_second name ms i m found one within same so_far some here is =
    two_values (λ f. value_view f.1.now) found (values_of name (members_view (take i ms))) (values_of name (members_view ms))
    (values_of name (members_view (drop (i + 1) ms))) (bytes_eq m.0.now name) (value_view m.1) one so_far some here
    (values_of-both name ms (i + 1)
    ∙ ap (λ ys. ys ++ values_of name (members_view (drop (i + 1) ms))) (values_of-more name ms i m within same)) is

-- there is one value at most
pub with_one : {X : Type 0} (P : Json → Type 0) (vs : List Json) → ((found : Option Json) → vs ≡ kept found → X) → IsOnlyOrNull P vs → X
with_one P [] f h = f None refl
with_one P (j ∷ []) f h = f (Some j) refl
with_one P (j ∷ (k ∷ js)) f h = absurd h

-- ---- members that have one of two names

pub is_first : (first second : Bool) → false ≡ not first → IsTrue (first || second)
is_first true second h = refl
is_first false second h = absurd (true≢false (sym h))

pub is_second : (first second : Bool) → false ≡ not second → IsTrue (first || second)
is_second true second h = refl
is_second false true h = refl
is_second false false h = absurd (true≢false (sym h))

module _ (first second : List ℕ) where
  only-append : (ms : List (Bor (List ℕ) × Value Global)) (m : Bor (List ℕ) × Value Global) → HasOnly first second (members_view ms)
      → IsTrue (bytes_eq m.0.now first || bytes_eq m.0.now second) → HasOnly first second (members_view (ms ++ m ∷ []))
  only-append [] m so_far here = (here, tt)
  only-append (n ∷ ms) m so_far here = (so_far.0, only-append ms m so_far.1 here)

  -- one more member has one of the names
  pub only_more : (ms : List (Bor (List ℕ) × Value Global)) (i : ℕ) (m : Bor (List ℕ) × Value Global) → i < length ms → m ≡ get_or ms i m
      → HasOnly first second (members_view (take i ms)) → IsTrue (bytes_eq m.0.now first || bytes_eq m.0.now second)
      → HasOnly first second (members_view (take (i + 1) ms))
  only_more ms i m within same so_far here =
      subst (λ (ns : List (Bor (List ℕ) × Value Global)). HasOnly first second (members_view ns))
      (sym (take_more ms i m within ∙ ap (λ x. take i ms ++ x ∷ []) (sym same))) (only-append (take i ms) m so_far here)

  -- each member has one of the names
  pub only_at : (ms : List (Bor (List ℕ) × Value Global)) (i : ℕ) (m : Bor (List ℕ) × Value Global) → i < length ms → m ≡ get_or ms i m
      → HasOnly first second (members_view ms) → IsTrue (bytes_eq m.0.now first || bytes_eq m.0.now second)
  only_at [] i m within same all = absurd (omega arith)
  only_at (n ∷ ms) zero m within same all =
      subst (λ (k : Bor (List ℕ) × Value Global). IsTrue (bytes_eq k.0.now first || bytes_eq k.0.now second)) (sym same) all.0
  only_at (n ∷ ms) (suc i) m within same all = only_at ms i m (omega arith) same all.1

pub neither : {X : Type 0} (first second : Bool) → true ≡ not first → true ≡ not second → IsTrue (first || second) → X
neither true second f s one = absurd (true≢false f)
neither false true f s one = absurd (true≢false s)
neither false false f s one = absurd (true≢false (sym one))

-- ---- objects as variants

-- what an object is whose members are listed
pub object_view : (j : Value Global) (v : Vec (Bor (List ℕ) × Value Global) Global) (ms : List (Bor (List ℕ) × Value Global)) → j ≡ Object v
    → ms ≡ v.items → value_view j ≡ object (members_view ms)
object_view j v ms is listed = ap value_view is ∙ view-Object v ∙ ap (λ ns. object (members_view ns)) (sym listed)

-- an object with another number of members than one is no variant
pub not_one : {X : Type 0} (j : Json) (ms : List (Bor (List ℕ) × Value Global)) (v : List ℕ × Option Json) → j ≡ object (members_view ms)
    → (length ms ≡ 1 → ⊥) → variant_of j ≡ Some v → X
not_one j [] v is other found = absurd (some≢none (sym found ∙ ap variant_of is))
not_one j (m ∷ []) v is other found = absurd (other refl)
not_one j (m ∷ (n ∷ ms)) v is other found = absurd (some≢none (sym found ∙ ap variant_of is))

-- ---- objects without members

suc_is_0 : {n : ℕ} → suc n ≢ 0
suc_is_0 same = omega (arith, same)

no_member : {k : List ℕ} {i : Json} {ms : Members} → object no_members ≢ object (member k i ms)
no_member same = cc

-- an object is empty if it has no members
pub empty_object : (j : Json) (ms : List (Bor (List ℕ) × Value Global)) → j ≡ object (members_view ms) → (empty : Bool)
    → empty ≡ (length ms == 0) → IsTrue empty ↔ (j ≡ object no_members)
empty_object j [] view empty same = (λ yes. view, λ none. same)
empty_object j (m ∷ ms) view empty same =
    (λ yes. absurd (suc_is_0 ((Decides-eqb (length (m ∷ ms)) 0).0 (sym same ∙ yes))), λ none. absurd (no_member (sym none ∙ view)))
