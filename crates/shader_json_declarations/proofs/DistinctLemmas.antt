-- Lists in which no item stands twice.
use Rattle.std.proofs.Common.{◌≡◌, ◌≢◌, ◌∙◌, ap, sym, subst, refl, Bool, true, false, not, ◌||◌}
use Rattle.std.proofs.Common.{if◌then◌else◌, Option, List, [], ◌∷◌, ◌++◌, ◌+◌, length, arith}
use Rattle.std.proofs.lemmas.List.{length-append}
use Rattle.std.proofs.lemmas.Bool.{true≢false}
use Rattle.std.proofs.lemmas.Map.Made.{is_some-lookup}
use Rattle.std.specs.Cmp.{IsEquivalence}
use Rattle.std.specs.List.{list_any}
use Rattle.std.specs.Map.{keys_of, lookup}
use Rattle.std.specs.Option.{is_some}
use Rattle.shader_arena.specs.Unique.{has_equal, with_item}
use Rattle.shader_ir.specs.Same.{DecidesSame}
use Rattle.shader_json_reader.specs.Shapes.{AreDistinct, IsAbsent}

IsAbsent-append : {A : Type 0} (x : A) (ys : List A) (z : A) → IsAbsent x ys → (z ≢ x) → IsAbsent x (ys ++ z ∷ [])
IsAbsent-append x [] z absent other = (other, tt)
IsAbsent-append x (y ∷ ys) z absent other = (absent.0, IsAbsent-append x ys z absent.1 other)

AreDistinct-append : {A : Type 0} (xs : List A) (x : A) → AreDistinct xs → IsAbsent x xs → AreDistinct (xs ++ x ∷ [])
AreDistinct-append [] x distinct absent = (tt, tt)
AreDistinct-append (y ∷ ys) x distinct absent =
    (IsAbsent-append y ys x distinct.0 (λ same. absent.0 (sym same)), AreDistinct-append ys x distinct.1 absent.1)

-- one more item, which was absent
pub distinct_more : {A : Type 0} (xs : List A) (x : A) (more : List A) → more ≡ xs ++ x ∷ [] → IsAbsent x xs → AreDistinct xs
    → AreDistinct more
distinct_more xs x more added absent distinct =
    subst (λ (ys : List _). AreDistinct ys) (sym added) (AreDistinct-append xs x distinct absent)

keys_of-append : {K V : Type 0} (es : List (K × V)) (e : K × V) → keys_of (es ++ e ∷ []) ≡ keys_of es ++ e.0 ∷ []
keys_of-append [] e = refl
keys_of-append (f ∷ es) e = ap (λ ks. f.0 ∷ ks) (keys_of-append es e)

keys_of-both : {K V : Type 0} (es fs : List (K × V)) → keys_of (es ++ fs) ≡ keys_of es ++ keys_of fs
keys_of-both [] fs = refl
keys_of-both (e ∷ es) fs = ap (λ ks. e.0 ∷ ks) (keys_of-both es fs)

-- one more entry, whose key was absent
pub keys_more : {K V : Type 0} (es : List (K × V)) (e : K × V) (more : List (K × V)) → more ≡ es ++ e ∷ [] → IsAbsent e.0 (keys_of es)
    → AreDistinct (keys_of es) → AreDistinct (keys_of more)
keys_more es e more added absent distinct =
    distinct_more (keys_of es) e.0 (keys_of more) (ap keys_of added ∙ keys_of-append es e) absent distinct

neither : (b c : Bool) → (b || c) ≡ false → (b ≡ false) × (c ≡ false)
neither true c h = absurd (true≢false h)
neither false c h = (refl, h)

-- an item that equals none is absent
pub absent_from_any : {A : Type 0} (eq : A → A → Bool) → IsEquivalence eq → (x : A) (ys : List A) → list_any (eq x) ys ≡ false
    → IsAbsent x ys
absent_from_any eq laws x [] none = tt
absent_from_any eq laws x (y ∷ ys) none =
    let apart = neither (eq x y) (list_any (eq x) ys) none in
    (λ same. true≢false (sym (laws.refl x) ∙ ap (eq x) (sym same) ∙ apart.0), absent_from_any eq laws x ys apart.1)

-- a key whose look-up found nothing is absent
pub absent_key : {K V : Type 0} (eq : K → K → Bool) → IsEquivalence eq → (k : K) (es : List (K × V)) (old : Option V)
    → old ≡ lookup (eq k) es → false ≡ is_some old → IsAbsent k (keys_of es)
absent_key eq laws k es old found none =
    absent_from_any eq laws k (keys_of es) (sym (is_some-lookup (eq k) es) ∙ ap is_some (sym found) ∙ sym none)

not_true : (b : Bool) → not b ≡ true → b ≡ false
not_true true h = sym h
not_true false h = refl

-- an item that is new to a set is absent
pub absent_new : {A : Type 0} (eq : A → A → Bool) → IsEquivalence eq → (x : A) (ys : List A) (new : Bool) → new ≡ not (list_any (eq x) ys)
    → new ≡ true → IsAbsent x ys
absent_new eq laws x ys new is true_new = absent_from_any eq laws x ys (not_true (list_any (eq x) ys) (sym is ∙ true_new))

-- an item with which a list of unequal items grows is absent
pub absent_grown : {A : Type 0} (eq : A → A → Bool) → IsEquivalence eq → (x : A) (ys more : List A) → more ≡ with_item eq ys x
    → length more ≢ length ys → IsAbsent x ys
absent_grown eq laws x ys more is grown = by (has_equal eq ys x) refl
  where
    by : (b : Bool) → has_equal eq ys x ≡ b → IsAbsent x ys
    by true found = absurd (grown (ap length (is ∙ ap (λ (b : Bool). if b then ys else ys ++ x ∷ []) found)))
    by false none = absent_from_any eq laws x ys none

-- what is absent equals no item, by an equality that decides
none_of : (b rest : Bool) → (b ≡ true → ⊥) → rest ≡ false → (b || rest) ≡ false
none_of true rest other none = absurd (other refl)
none_of false rest other none = none

any_absent : {A : Type 0} (eq : A → A → Bool) → DecidesSame eq → (x : A) (ys : List A) → IsAbsent x ys → list_any (eq x) ys ≡ false
any_absent eq decides x [] absent = refl
any_absent eq decides x (y ∷ ys) absent =
    none_of (eq x y) (list_any (eq x) ys) (λ same. absent.0 (sym ((decides x y).0 same))) (any_absent eq decides x ys absent.1)

pub not_in_map : {K V X : Type 0} (eq : K → K → Bool) → DecidesSame eq → (k : K) (es : List (K × V)) (old : Option V)
    → old ≡ lookup (eq k) es → true ≡ is_some old → IsAbsent k (keys_of es) → X
not_in_map eq decides k es old found some absent =
    absurd (true≢false (some ∙ (ap is_some found ∙ (is_some-lookup (eq k) es ∙ any_absent eq decides k (keys_of es) absent))))

pub not_in_set : {A X : Type 0} (eq : A → A → Bool) → DecidesSame eq → (x : A) (ys : List A) (new : Bool)
    → new ≡ not (list_any (eq x) ys) → false ≡ new → IsAbsent x ys → X
not_in_set eq decides x ys new is known absent =
    absurd (true≢false (sym (known ∙ (is ∙ ap not (any_absent eq decides x ys absent)))))

pub not_in_arena : {A X : Type 0} (eq : A → A → Bool) → DecidesSame eq → (x : A) (ys more : List A) → more ≡ with_item eq ys x
    → length more ≡ length ys → IsAbsent x ys → X
not_in_arena eq decides x ys more is same absent =
    let grown : more ≡ ys ++ x ∷ [] = is ∙ ap (λ (b : Bool). if b then ys else ys ++ x ∷ []) (any_absent eq decides x ys absent) in
    let longer : length more ≡ length ys + 1 = ap length grown ∙ length-append ys (x ∷ []) in
    absurd (omega (arith, longer, same))

-- an item among others is none of those before it
apart_from : {A : Type 0} (y : A) (ys : List A) (x : A) (rest : List A) → IsAbsent y (ys ++ x ∷ rest) → y ≢ x
apart_from y [] x rest absent = λ same. absent.0 (sym same)
apart_from y (z ∷ ys) x rest absent = apart_from y ys x rest absent.1

pub absent_before : {A : Type 0} (ys : List A) (x : A) (rest : List A) → AreDistinct (ys ++ x ∷ rest) → IsAbsent x ys
absent_before [] x rest distinct = tt
absent_before (y ∷ ys) x rest distinct = (apart_from y ys x rest distinct.0, absent_before ys x rest distinct.1)

pub key_before : {K V : Type 0} (es : List (K × V)) (e : K × V) (rest : List (K × V)) → AreDistinct (keys_of (es ++ e ∷ rest))
    → IsAbsent e.0 (keys_of es)
key_before es e rest distinct =
    absent_before (keys_of es) e.0 (keys_of rest) (subst (λ (ks : List _). AreDistinct ks) (keys_of-both es (e ∷ rest)) distinct)
