-- Entries of maps that are read one after another.
use Rattle.std.proofs.Common.{◌≡◌, ℕ, ◌+◌, ◌<◌, ◌≤◌, ◌∙◌, ap, sym, subst, Bool, true, false, Option, Some, None, List, [], ◌∷◌, ◌++◌}
use Rattle.std.proofs.lemmas.Bool.{true≢false}
use Rattle.std.proofs.Common.{zero, suc, refl, arith, take, get_or, length, Global, Vec, Result, Ok, Err, OnOk, OnErr}
use Rattle.std.specs.Borrow.{Bor}
use Rattle.std.specs.Map.{keys_of, lookup}
use Rattle.std.specs.Option.{is_some}
use Rattle.std.proofs.lemmas.List.{take_more}
use Rattle.indexmap.proofs.MapLemmas.{absent_from_lookup, insert_entry-absent}
use Rattle.indexmap.specs.IndexMap.{insert_entry}
use Rattle.json.specs.Json.{Json, Items, no_items, item, array, number, object}
use Rattle.json.specs.Value.{items_view, members_view, value_view}
use Rattle.json.specs.declared.value.Value.{Object, Value}
use Rattle.json.proofs.Trees.{view-Object}
use Rattle.shader_ir.specs.declared.module.PredeclaredType.{PredeclaredType}
use Rattle.shader_ir.specs.declared.scalar.Scalar.{Scalar}
use Rattle.shader_json_reader.proofs.AnswerLemmas.{of_members}
use Rattle.shader_json_reader.proofs.NumberLemmas.{handle_same, text_same}
use Rattle.shader_json_reader.specs.Numbers.{IsText}
use Rattle.shader_json_reader.specs.Shapes.{AreDistinct, Determines, Each, IsAbsent, IsObject, Reading}
use Rattle.shader_json_declarations.specs.NamedExpressions.{AreNamedExpressions, AreNames, IsHandleKey}
use Rattle.shader_json_declarations.proofs.DistinctLemmas.{key_before}
use Rattle.shader_json_declarations.proofs.ListLemmas.{take_over}
use Rattle.shader_json_declarations.specs.SpecialTypes.{ArePredeclared, IsDroppedEntry, IsEntry, item_unless, items_unless, recorded}
use Rattle.shader_json_declarations.specs.SpecialTypes.{unrecorded}

-- the entry of a new key goes last
pub new_last : {K V : Type 0} (eq : K → K → Bool) (es : List (K × V)) (k : K) (v : V) (old : Option V) → old ≡ lookup (eq k) es
    → false ≡ is_some old → insert_entry eq es k v ≡ es ++ (k, v) ∷ []
new_last eq es k v None found none = insert_entry-absent eq k v es (absent_from_lookup (eq k) es (sym found))
new_last eq es k v (Some w) found none = cc

-- what was read, with its failure as seen from elsewhere
pub if_within : {A E : Type 0} (read result : Result A E) {P Q : Type 0} → (P → Q) → OnOk read P → OnOk read (result ≡ read)
    → OnErr read (OnOk result ⊥) → OnOk result Q
if_within (Ok x) result {Q} f known same failed = subst (λ r. OnOk r Q) (sym same) (f known)
if_within (Err e) (Ok x) f known same failed = absurd failed
if_within (Err e) (Err d) f known same failed = tt

-- the same from two facts
pub if_within_both : {A E : Type 0} (read result : Result A E) {P Q S : Type 0} → (P → Q → S) → OnOk read P → OnOk read Q
    → OnOk read (result ≡ read) → OnErr read (OnOk result ⊥) → OnOk result S
if_within_both (Ok x) result {S} f known also same failed = subst (λ r. OnOk r S) (sym same) (f known also)
if_within_both (Err e) (Ok x) f known also same failed = absurd failed
if_within_both (Err e) (Err d) f known also same failed = tt

-- what holds of what was read
pub was_within : {A E : Type 0} (read : Result A E) {P : Type 0} → OnOk read P → OnErr read ⊥ → P
was_within (Ok x) known failed = known
was_within (Err e) known failed = absurd failed

-- ---- names

-- a member as the code has it
abbrev Member : Type 0
Member = Bor (List ℕ) × Value Global

names-append : (ms : List Member) (m : Member) (names : List (ℕ × List ℕ)) (name : ℕ × List ℕ) → AreNames (members_view ms) names
    → IsHandleKey m.0.now name.0 → IsText (value_view m.1) name.1
    → AreNames (members_view (ms ++ m ∷ [])) (names ++ name ∷ [])
names-append [] m [] name so_far key text = (key, text, tt)
names-append [] m (other ∷ names) name so_far key text = absurd so_far
names-append (n ∷ ms) m [] name so_far key text = absurd so_far
names-append (n ∷ ms) m (other ∷ names) name so_far key text = (so_far.0, so_far.1, names-append ms m names name so_far.2 key text)

-- one more name is read
pub names_more : (ms : List Member) (i : ℕ) (m : Member) (names : List (ℕ × List ℕ)) (name : ℕ × List ℕ) (more : List (ℕ × List ℕ))
    → more ≡ names ++ name ∷ [] → i < length ms → m ≡ get_or ms i m → AreNames (members_view (take i ms)) names
    → IsHandleKey m.0.now name.0 → IsText (value_view m.1) name.1 → AreNames (members_view (take (i + 1) ms)) more
names_more ms i m names name more pushed within is so_far key text =
    let front : take i ms ++ m ∷ [] ≡ take (i + 1) ms = sym (take_more ms i m within ∙ ap (λ n. take i ms ++ n ∷ []) (sym is)) in
    let all : AreNames (members_view (take (i + 1) ms)) (names ++ name ∷ []) =
    subst (λ (ns : List Member). AreNames (members_view ns) (names ++ name ∷ [])) front
    (names-append (take i ms) m names name so_far key text)
    in subst (λ (ns : List (ℕ × List ℕ)). AreNames (members_view (take (i + 1) ms)) ns) (sym pushed) all

-- all names of an object are read
pub all_names : (j : Value Global) (v : Vec Member Global) (ms : List Member) (i : ℕ) (names : List (ℕ × List ℕ)) → j ≡ Object v
    → ms ≡ v.items → length ms ≤ i → AreNames (members_view (take i ms)) names → AreDistinct (keys_of names)
    → AreNamedExpressions (value_view j) names
all_names j v ms i names is listed end so_far distinct =
    let view : value_view j ≡ object (members_view ms) =
    ap value_view is ∙ view-Object v ∙ ap (λ ns. object (members_view ns)) (sym listed) in (
      subst (λ (k : Json). IsObject k (λ ns. AreNames ns names)) (sym view)
          (subst (λ (ns : List Member). AreNames (members_view ns) names) (take_over ms i end) so_far),
      distinct,
    )

-- the members of an object whose names are read
of_names : (j : Value Global) (v : Vec Member Global) (ms : List Member) (names : List (ℕ × List ℕ)) → j ≡ Object v → ms ≡ v.items
    → AreNamedExpressions (value_view j) names → AreNames (members_view ms) names
of_names j v ms names is listed h =
    of_members (λ ns. AreNames ns names) (value_view j) (members_view ms)
    (ap value_view is ∙ view-Object v ∙ ap (λ ns. object (members_view ns)) (sym listed)) h.0

split_names : {X : Type 0} (ms : List Member) (i : ℕ) (m : Member) (ys xs : List (ℕ × List ℕ)) → i < length ms → m ≡ get_or ms i m
    → AreNames (members_view (take i ms)) ys → AreNames (members_view ms) xs
    → ((x : ℕ × List ℕ) (rest : List (ℕ × List ℕ)) → IsHandleKey m.0.now x.0 → IsText (value_view m.1) x.1 → xs ≡ ys ++ x ∷ rest → X) → X
split_names [] i m ys xs within same so_far all f = absurd (omega arith)
split_names (n ∷ ms) zero m [] [] within same so_far all f = absurd all
split_names (n ∷ ms) zero m [] (x ∷ xs) within same so_far all f =
    f x xs (subst (λ (k : Member). IsHandleKey k.0.now x.0) (sym same) all.0)
    (subst (λ (k : Member). IsText (value_view k.1) x.1) (sym same) all.1) refl
split_names (n ∷ ms) zero m (y ∷ ys) xs within same so_far all f = absurd so_far
split_names (n ∷ ms) (suc i) m [] xs within same so_far all f = absurd so_far
split_names (n ∷ ms) (suc i) m (y ∷ ys) [] within same so_far all f = absurd all
split_names (n ∷ ms) (suc i) m (y ∷ ys) (x ∷ xs) within same so_far all f =
    let key : x.0 ≡ y.0 = handle_same (number n.0.now) x.0 y.0 all.0.1 so_far.0.1 in
    let text : x.1 ≡ y.1 = text_same (value_view n.1) x.1 y.1 all.1 so_far.1 in
    split_names ms i m ys xs (omega arith) same so_far.2 all.2 (λ z rest k r is. f z rest k r (λ e. (key e, text e) ∷ is e))

-- the name at a member
pub name_at : {X : Type 0} (j : Value Global) (v : Vec Member Global) (ms : List Member) (i : ℕ) (m : Member) (ys xs : List (ℕ × List ℕ))
    → j ≡ Object v → ms ≡ v.items → i < length ms → m ≡ get_or ms i m → AreNames (members_view (take i ms)) ys
    → AreNamedExpressions (value_view j) xs
    → ((x : ℕ × List ℕ) → IsHandleKey m.0.now x.0 → IsText (value_view m.1) x.1 → IsAbsent x.0 (keys_of ys) → X) → X
name_at j v ms i m ys xs is listed within same so_far all f =
    split_names ms i m ys xs within same so_far (of_names j v ms xs is listed all)
    (λ x rest key text split. f x key text
    (key_before ys x rest (subst (λ (zs : List (ℕ × List ℕ)). AreDistinct (keys_of zs)) split all.1)))

-- ---- items that are left out by a test

module _ {A : Type 0} (R : Reading A) (test : Json → Bool) where
  -- what holds of more items holds of them behind one that is left out or not
  each_unless : (b : Bool) (j : Json) (js ks : Items) (xs ys : List A) → ((rest : List A) → Each R js rest → Each R ks (rest ++ ys))
      → Each R (item_unless b j js) xs → Each R (item_unless b j ks) (xs ++ ys)
  each_unless true j js ks xs ys more h = more xs h
  each_unless false j js ks [] ys more h = absurd h
  each_unless false j js ks (x ∷ xs) ys more h = (h.0, more xs h.1)

  unless-append : (vs : List (Value Global)) (v : Value Global) (xs ys : List A) → Each R (items_unless test (items_view vs)) xs
      → Each R (items_unless test (item (value_view v) no_items)) ys → Each R (items_unless test (items_view (vs ++ v ∷ []))) (xs ++ ys)
  unless-append [] v [] ys so_far here = here
  unless-append [] v (x ∷ xs) ys so_far here = absurd so_far
  unless-append (w ∷ vs) v xs ys so_far here =
      each_unless (test (value_view w)) (value_view w) (items_unless test (items_view vs)) (items_unless test (items_view (vs ++ v ∷ [])))
      xs ys (λ rest h. unless-append vs v rest ys h here) so_far

  kept_item : (b : Bool) (j : Json) (js : Items) (xs : List A) → b ≡ false → Each R (item_unless b j js) xs → Each R (item j js) xs
  kept_item true j js xs kept h = absurd (true≢false kept)
  kept_item false j js xs kept h = h

  module _ {X : Type 0} (determined : Determines R) (v : Value Global) where
    split_step : (b : Bool) (j : Json) (some all : Items) (ys xs : List A) → Each R (item_unless b j some) ys
        → Each R (item_unless b j all) xs
        → ((us ws : List A) → Each R some us → Each R all ws
        → ((x : A) (rest : List A) → R (value_view v) x → ws ≡ us ++ x ∷ rest → X) → X)
        → ((x : A) (rest : List A) → R (value_view v) x → xs ≡ ys ++ x ∷ rest → X) → X
    split_step true j some all ys xs u w more f = more ys xs u w f
    split_step false j some all [] xs u w more f = absurd u
    split_step false j some all (y ∷ ys) [] u w more f = absurd w
    split_step false j some all (y ∷ ys) (x ∷ xs) u w more f =
        more ys xs u.1 w.1 (λ z rest r is. f z rest r (λ k. determined j x y w.0 u.0 k ∷ is k))

    first_item : (j : Json) (js : Items) (xs : List A) → j ≡ value_view v → Each R (item j js) xs
        → ((x : A) (rest : List A) → R (value_view v) x → xs ≡ x ∷ rest → X) → X
    first_item j js [] is h f = absurd h
    first_item j js (x ∷ xs) is h f = f x xs (subst (λ (k : Json). R k x) is h.0) refl

    -- what stands for all items begins with what stands for the first ones
    pub split_unless : (vs : List (Value Global)) (i : ℕ) (ys xs : List A) → i < length vs → v ≡ get_or vs i v
        → test (value_view v) ≡ false → Each R (items_unless test (items_view (take i vs))) ys
        → Each R (items_unless test (items_view vs)) xs
        → ((x : A) (rest : List A) → R (value_view v) x → xs ≡ ys ++ x ∷ rest → X) → X
    split_unless [] i ys xs within same kept so_far all f = absurd (omega arith)
    split_unless (w ∷ vs) zero (y ∷ ys) xs within same kept so_far all f = absurd so_far
    split_unless (w ∷ vs) zero [] xs within same kept so_far all f =
        first_item (value_view w) (items_unless test (items_view vs)) xs (sym (ap value_view same))
        (kept_item (test (value_view w)) (value_view w) (items_unless test (items_view vs)) xs
        (subst (λ (u : Value Global). test (value_view u) ≡ false) same kept) all) f
    split_unless (w ∷ vs) (suc i) ys xs within same kept so_far all f =
        split_step (test (value_view w)) (value_view w) (items_unless test (items_view (take i vs))) (items_unless test (items_view vs)) ys
        xs so_far all (λ us ws u r g. split_unless vs i us ws (omega arith) same kept u r g) f

  -- one more item is read
  pub unless_more : (vs : List (Value Global)) (i : ℕ) (v : Value Global) (xs more : List A) → i < length vs → v ≡ get_or vs i v
      → Each R (items_unless test (items_view (take i vs))) xs
      → ((ys : List A) × Each R (items_unless test (item (value_view v) no_items)) ys × (more ≡ xs ++ ys))
      → Each R (items_unless test (items_view (take (i + 1) vs))) more
  unless_more vs i v xs more within is so_far added =
      let front : take i vs ++ v ∷ [] ≡ take (i + 1) vs = sym (take_more vs i v within ∙ ap (λ w. take i vs ++ w ∷ []) (sym is)) in
      let all : Each R (items_unless test (items_view (take (i + 1) vs))) (xs ++ added.0) =
      subst (λ (ws : List (Value Global)). Each R (items_unless test (items_view ws)) (xs ++ added.0)) front
      (unless-append (take i vs) v xs added.0 so_far added.1)
      in subst (λ (ys : List A). Each R (items_unless test (items_view (take (i + 1) vs))) ys) (sym added.2) all

-- ---- predeclared types

-- all pairs of an array are read
pub all_recorded : (j : Json) (vs : List (Value Global)) (i : ℕ) (es : List (PredeclaredType × ℕ)) (scalars : List Scalar)
    → j ≡ array (items_view vs) → length vs ≤ i → Each IsEntry (recorded (items_view (take i vs))) es
    → Each IsDroppedEntry (unrecorded (items_view (take i vs))) scalars → AreDistinct (keys_of es) → AreDistinct scalars
    → ArePredeclared j es
all_recorded j vs i es scalars is end entries dropped keys distinct =
    let whole : take i vs ≡ vs = take_over vs i end in
    subst (λ (k : Json). ArePredeclared k es) (sym is) (
      subst (λ (ws : List (Value Global)). Each IsEntry (recorded (items_view ws)) es) whole entries,
      keys,
      (scalars, subst (λ (ws : List (Value Global)). Each IsDroppedEntry (unrecorded (items_view ws)) scalars) whole dropped, distinct),
    )
