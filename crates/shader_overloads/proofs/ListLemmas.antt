-- The elements at the positions that pass.
use Rattle.std.proofs.Common.{◌≡◌, ◌≢◌, ℕ, zero, suc, ◌+◌, ◌<◌, ◌≤◌, Bool, true, false, cond, not, ◌&&◌, ◌||◌, List, [], ◌∷◌, ◌++◌}
use Rattle.std.proofs.Common.{length, map, refl, sym, ◌∙◌, ap, arith, inl, inr, Some, slice_get, get_or, length-append, ◌*◌}
use Rattle.std.specs.List.{filter, flat_map, list_any}
use Rattle.std.proofs.lemmas.Bool.{cases_lt, both_ways, or_parts, or_from, or_left, and_parts, not-true}
use Rattle.std.proofs.lemmas.List.{nil_from_length, length-map}
use Rattle.shader_overloads.specs.Bits.{items_where, cons_if}

pub items_where-none : {X : Type 0} (p : ℕ → Bool) (xs : List X) → ((i : ℕ) → i < length xs → p i ≡ false) → items_where p xs ≡ []
items_where-none p [] none = refl
items_where-none p (x ∷ xs) none =
    rw (none 0 (omega arith)) (items_where-none (λ k. p (suc k)) xs (λ i h. none (suc i) (omega arith)))

items_where_agree : {X : Type 0} (p q : ℕ → Bool) (xs : List X) → ((i : ℕ) → p i ≡ q i) → items_where p xs ≡ items_where q xs
items_where_agree p q [] agree = refl
items_where_agree p q (x ∷ xs) agree =
    rw (agree 0) (ap (cons_if (q 0) x) (items_where_agree (λ k. p (suc k)) (λ k. q (suc k)) xs (λ i. agree (suc i))))

-- the elements begin with the one at position t
pub record Front {X : Type 0} (ys xs : List X) (t : ℕ) (d : X) : Type 0 where
  pub rest : List X
  pub is : ys ≡ get_or xs t d ∷ rest

-- t is the first position that passes
pub items_where-front : {X : Type 0} (p : ℕ → Bool) (xs : List X) (t : ℕ) (d : X) → ((i : ℕ) → i < t → p i ≡ false) → p t ≡ true →
    t < length xs → Front (items_where p xs) xs t d
items_where-front p [] t d none here h = absurd (omega arith)
items_where-front p (x ∷ xs) zero d none here h = record { rest = items_where (λ k. p (suc k)) xs; is = rw here refl }
items_where-front p (x ∷ xs) (suc t) d none here h =
    let tail = items_where-front (λ k. p (suc k)) xs t d (λ i l. none (suc i) (omega arith)) here (omega arith) in
    record { rest = tail.rest; is = rw (none 0 (omega arith)) tail.is }

-- t is the first position that passes p, and q passes what p passes after it
pub items_where-split : {X : Type 0} (p q : ℕ → Bool) (xs : List X) (t : ℕ) (d : X) → ((i : ℕ) → i < t → p i ≡ false) → p t ≡ true →
    ((i : ℕ) → i ≤ t → q i ≡ false) → ((i : ℕ) → t < i → q i ≡ p i) → t < length xs → items_where p xs ≡ get_or xs t d ∷ items_where q xs
items_where-split p q [] t d none here gone same h = absurd (omega arith)
items_where-split p q (x ∷ xs) zero d none here gone same h =
    rw (here, gone 0 (omega arith)) (ap (λ ys. x ∷ ys) (sym (items_where_agree _ _ xs (λ i. same (suc i) (omega arith)))))
items_where-split p q (x ∷ xs) (suc t) d none here gone same h =
    rw (none 0 (omega arith), gone 0 (omega arith))
    (items_where-split (λ k. p (suc k)) (λ k. q (suc k)) xs t d (λ i l. none (suc i) (omega arith)) here (λ i l. gone (suc i) (omega arith))
    (λ i l. same (suc i) (omega arith)) (omega arith))

pub sole : {X : Type 0} {ys xs : List X} {t : ℕ} {d : X} → Front ys xs t d → length ys ≡ 1 → ys ≡ get_or xs t d ∷ []
sole {xs = xs} {t = t} {d = d} front one =
    let e : length front.rest ≡ 0 = omega (arith, ap length front.is) in
    front.is ∙ ap (λ r. get_or xs t d ∷ r) (nil_from_length front.rest e)

pub first_within : {X : Type 0} (p : ℕ → Bool) (xs : List X) (t : ℕ) → ((i : ℕ) → i < t → p i ≡ false) →
    items_where p xs ≢ [] → t < length xs
first_within p xs t none some = elim (cases_lt t (length xs)) [
  | inl h ↦ h
  | inr h ↦ absurd (some (items_where-none p xs (λ i l. none i (omega arith))))
]

pub filter_all : {X : Type 0} (xs : List X) → filter (λ _. true) xs ≡ xs
filter_all [] = refl
filter_all (x ∷ xs) = ap (λ ys. x ∷ ys) (filter_all xs)

-- ---- positions of a set and a test of the elements

-- at each position, the first test agrees with the second on the element there
abbrev pub Positions : {X : Type 0} → (ℕ → Bool) → (X → Bool) → List X → Type 0
Positions m q [] = Unit {0}
Positions m q (x ∷ xs) = (m 0 ≡ q x) × Positions (λ k. m (suc k)) q xs

filter-cons_if : {X : Type 0} (q : X → Bool) (b : Bool) (x : X) (xs : List X) →
    filter q (cons_if b x xs) ≡ cons_if (b && q x) x (filter q xs)
filter-cons_if q true x xs = elim (q x) as (λ v. cond v (x ∷ filter q xs) (filter q xs) ≡ cons_if v x (filter q xs))
    [ true ↦ refl | false ↦ refl ]
filter-cons_if q false x xs = refl

pub items_where-and : {X : Type 0} (q : X → Bool) (m n r : ℕ → Bool) (xs : List X) → Positions m q xs → ((k : ℕ) → r k ≡ (n k && m k)) →
    items_where r xs ≡ filter q (items_where n xs)
items_where-and q m n r [] positions both = refl
items_where-and q m n r (x ∷ xs) positions both =
    rw (both 0, positions.0)
    (ap (cons_if (n 0 && q x) x) (items_where-and q (λ k. m (suc k)) (λ k. n (suc k)) (λ k. r (suc k)) xs positions.1
    (λ k. both (suc k))) ∙ sym (filter-cons_if q (n 0) x _))

any-cons_if : {X : Type 0} (test : X → Bool) (b : Bool) (x : X) (xs : List X) → test x ≡ false → list_any test xs ≡ false →
    list_any test (cons_if b x xs) ≡ false
any-cons_if test true x xs h t = or_from _ _ h t
any-cons_if test false x xs h t = t

any-items_where : {X : Type 0} (test : X → Bool) (m : ℕ → Bool) (xs : List X) → list_any test xs ≡ false →
    list_any test (items_where m xs) ≡ false
any-items_where test m [] h = refl
any-items_where test m (x ∷ xs) h =
    let parts = or_parts (test x) (list_any test xs) h in
    any-cons_if test (m 0) x _ parts.0 (any-items_where test (λ k. m (suc k)) xs parts.1)

any-filter : {X : Type 0} (test : X → Bool) (q : X → Bool) (xs : List X) → list_any test xs ≡ false → list_any test (filter q xs) ≡ false
any-filter test q [] h = refl
any-filter test q (x ∷ xs) h =
    let parts = or_parts (test x) (list_any test xs) h in
    elim (q x) as (λ b. list_any test (cond b (x ∷ filter q xs) (filter q xs)) ≡ false) [
      | true ↦ or_from _ _ parts.0 (any-filter test q xs parts.1)
      | false ↦ any-filter test q xs parts.1
    ]

-- a list whose elements are pairwise distinct by a test
abbrev pub all_differ : {X : Type 0} → (X → X → Bool) → List X → Bool
all_differ same [] = true
all_differ same (x ∷ xs) = not (list_any (same x) xs) && all_differ same xs

module _ {X : Type 0} (same : X → X → Bool) (same_self : (x : X) → same x x ≡ true) where
  absent : (x : X) (xs ys : List X) → list_any (same x) ys ≡ false → x ∷ xs ≡ ys → ⊥
  absent x xs ys none e = both_ways (list_any (same x) ys) none (ap (list_any (same x)) (sym e) ∙ or_left _ _ (same_self x))

  one_position : (x : X) (fs bs : List X) → list_any (same x) fs ≡ false → list_any (same x) bs ≡ false → (b c : Bool) →
      cons_if b x fs ≡ cond c (x ∷ bs) bs → (b ≡ c) × (fs ≡ bs)
  one_position x fs bs no_a no_b true true e = (refl, cc)
  one_position x fs bs no_a no_b false false e = (refl, e)
  one_position x fs bs no_a no_b true false e = absurd (absent x fs bs no_b e)
  one_position x fs bs no_a no_b false true e = absurd (absent x bs fs no_a (sym e))

  -- if the elements are distinct, a set whose list is a filter contains the positions that pass
  pub positions_from_list : (q : X → Bool) (m : ℕ → Bool) (xs : List X) → all_differ same xs ≡ true →
      items_where m xs ≡ filter q xs → Positions m q xs
  positions_from_list q m [] differ e = tt
  positions_from_list q m (x ∷ xs) differ e =
      let parts = and_parts (not (list_any (same x) xs)) (all_differ same xs) differ in
      let none = not-true _ parts.0 in
      let step = one_position x _ _ (any-items_where (same x) (λ k. m (suc k)) xs none) (any-filter (same x) q xs none) (m 0) (q x) e in
      (step.0, positions_from_list q (λ k. m (suc k)) xs parts.1 step.1)

  located_here : (x : X) (rest : List X) (b : Bool) → list_any (same x) rest ≡ false → b ≡ list_any (same x) (cons_if b x rest)
  located_here x rest true none = sym (or_left _ _ (same_self x))
  located_here x rest false none = sym none

  found_later : (x y : X) (rest : List X) (b : Bool) → same y x ≡ false → list_any (same y) rest ≡ list_any (same y) (cons_if b x rest)
  found_later x y rest true other = sym (ap (λ v. v || list_any (same y) rest) other)
  found_later x y rest false other = refl

  module _ (same_sym : (x y : X) → same x y ≡ same y x) where
    positions_later : (m : ℕ → Bool) (x : X) (rest ys : List X) (b : Bool) → list_any (same x) ys ≡ false →
        Positions m (λ y. list_any (same y) rest) ys → Positions m (λ y. list_any (same y) (cons_if b x rest)) ys
    positions_later m x rest [] b none positions = tt
    positions_later m x rest (y ∷ ys) b none positions =
        let parts = or_parts (same x y) (list_any (same x) ys) none in
        (positions.0 ∙ found_later x y rest b (same_sym y x ∙ parts.0), positions_later (λ k. m (suc k)) x rest ys b parts.1 positions.1)

    -- if the elements are distinct, a position is in a set exactly if its element is in the set's list
    pub positions_of_members : (m : ℕ → Bool) (xs : List X) → all_differ same xs ≡ true →
        Positions m (λ x. list_any (same x) (items_where m xs)) xs
    positions_of_members m [] differ = tt
    positions_of_members m (x ∷ xs) differ =
        let parts = and_parts (not (list_any (same x) xs)) (all_differ same xs) differ in
        let none = not-true _ parts.0 in
        let absent_later = any-items_where (same x) (λ k. m (suc k)) xs none in (
          located_here x _ (m 0) absent_later,
          positions_later (λ k. m (suc k)) x _ xs (m 0) none
              (positions_of_members (λ k. m (suc k)) xs parts.1),
        )

-- a set whose positions pass a test contains the elements that pass
pub items_where-filtered : {X : Type 0} (q : X → Bool) (m : ℕ → Bool) (xs : List X) → Positions m q xs → items_where m xs ≡ filter q xs
items_where-filtered q m [] positions = refl
items_where-filtered q m (x ∷ xs) positions =
    rw positions.0 (elim (q x) as (λ b. cons_if b x (items_where (λ k. m (suc k)) xs) ≡ cond b (x ∷ filter q xs) (filter q xs)) [
      | true ↦ ap (λ ys. x ∷ ys) (items_where-filtered q (λ k. m (suc k)) xs positions.1)
      | false ↦ items_where-filtered q (λ k. m (suc k)) xs positions.1
    ])

pub positions_of_either : {X : Type 0} (p q : X → Bool) (m n r : ℕ → Bool) (xs : List X) → Positions m p xs → Positions n q xs →
    ((k : ℕ) → r k ≡ (m k || n k)) → Positions r (λ x. p x || q x) xs
positions_of_either p q m n r [] left right either = tt
positions_of_either p q m n r (x ∷ xs) left right either = (
  either 0 ∙ ap (λ b. b || n 0) left.0 ∙ ap (λ b. p x || b) right.0,
  positions_of_either p q (λ k. m (suc k)) (λ k. n (suc k)) (λ k. r (suc k)) xs left.1 right.1 (λ k. either (suc k)),
)

-- ---- elements by their numbers

-- a set of positions whose elements are those of another set that pass a test
pub items_where-filter : {X : Type 0} (q : X → Bool) (n r : ℕ → Bool) (xs : List X) →
    ((k : ℕ) (x : X) → slice_get xs k ≡ Some x → r k ≡ (n k && q x)) → items_where r xs ≡ filter q (items_where n xs)
items_where-filter q n r [] each = refl
items_where-filter q n r (x ∷ xs) each =
    rw (each 0 x refl) (ap (cons_if (n 0 && q x) x) (items_where-filter q (λ k. n (suc k)) (λ k. r (suc k)) xs
    (λ k y at. each (suc k) y at)) ∙ sym (filter-cons_if q (n 0) x _))

pub slice_get-within : {X : Type 0} (xs : List X) (k : ℕ) (x : X) → slice_get xs k ≡ Some x → k < length xs
slice_get-within [] k x e = cc
slice_get-within (y ∷ xs) zero x e = omega arith
slice_get-within (y ∷ xs) (suc k) x e = let h = slice_get-within xs k x e in omega arith

slice_get-append_left : {X : Type 0} (xs ys : List X) (k : ℕ) → k < length xs → slice_get (xs ++ ys) k ≡ slice_get xs k
slice_get-append_left [] ys k h = absurd (omega arith)
slice_get-append_left (x ∷ xs) ys zero h = refl
slice_get-append_left (x ∷ xs) ys (suc k) h = slice_get-append_left xs ys k (omega arith)

slice_get-append_right : {X : Type 0} (xs ys : List X) (k : ℕ) → slice_get (xs ++ ys) (length xs + k) ≡ slice_get ys k
slice_get-append_right [] ys k = let e : 0 + k ≡ k = omega arith in ap (slice_get ys) e
slice_get-append_right (x ∷ xs) ys k = let e : suc (length xs) + k ≡ suc (length xs + k) = omega arith in
    ap (slice_get (x ∷ (xs ++ ys))) e ∙ slice_get-append_right xs ys k

slice_get-map : {X Y : Type 0} (f : X → Y) (xs : List X) (k : ℕ) (x : X) → slice_get xs k ≡ Some x → slice_get (map f xs) k ≡ Some (f x)
slice_get-map f [] k x e = cc
slice_get-map f (y ∷ xs) zero x e = let d : y ≡ x = cc in ap (λ v. Some (f v)) d
slice_get-map f (y ∷ xs) (suc k) x e = slice_get-map f xs k x e

-- the element with a number among all combinations
pub slice_get-combinations : {X Y Z : Type 0} (f : X → Y → Z) (xs : List X) (ys : List Y) (i j : ℕ) (x : X) (y : Y) →
    slice_get xs i ≡ Some x → slice_get ys j ≡ Some y → slice_get (flat_map (λ v. map (f v) ys) xs) (i * length ys + j) ≡ Some (f x y)
slice_get-combinations f [] ys i j x y d e = cc
slice_get-combinations f (v ∷ xs) ys zero j x y d e =
    let same : v ≡ x = cc in
    let within : j < length (map (f v) ys) = rw length-map (slice_get-within ys j y e) in
    let start : 0 * length ys + j ≡ j = omega arith in
    ap (slice_get (map (f v) ys ++ flat_map (λ w. map (f w) ys) xs)) start
    ∙ slice_get-append_left (map (f v) ys) (flat_map (λ w. map (f w) ys) xs) j within
    ∙ slice_get-map (f v) ys j y e ∙ ap (λ w. Some (f w y)) same
slice_get-combinations f (v ∷ xs) ys (suc i) j x y d e =
    let later : suc i * length ys + j ≡ length (map (f v) ys) + (i * length ys + j) = omega (arith, length-map ys (f v)) in
    ap (slice_get (map (f v) ys ++ flat_map (λ w. map (f w) ys) xs)) later
    ∙ slice_get-append_right (map (f v) ys) (flat_map (λ w. map (f w) ys) xs) (i * length ys + j)
    ∙ slice_get-combinations f xs ys i j x y d e

pub length-combinations : {X Y Z : Type 0} (f : X → Y → Z) (xs : List X) (ys : List Y) →
    length (flat_map (λ v. map (f v) ys) xs) ≡ length xs * length ys
length-combinations f [] ys = omega arith
length-combinations f (x ∷ xs) ys = omega (
  arith,
  length-append (map (f x) ys) (flat_map (λ v. map (f v) ys) xs),
  length-map ys (f x),
  length-combinations f xs ys,
)

-- the element at a position within a list
pub record ElementAt {X : Type 0} (xs : List X) (k : ℕ) : Type 0 where
  pub element : X
  pub is : slice_get xs k ≡ Some element

pub element_at : {X : Type 0} (xs : List X) (k : ℕ) → k < length xs → ElementAt xs k
element_at [] k h = absurd (omega arith)
element_at (x ∷ xs) zero h = record { element = x; is = refl }
element_at (x ∷ xs) (suc k) h = let e = element_at xs k (omega arith) in record { element = e.element; is = e.is }

pub Positions-at : {X : Type 0} (m : ℕ → Bool) (q : X → Bool) (xs : List X) (k : ℕ) (x : X) → Positions m q xs →
    slice_get xs k ≡ Some x → m k ≡ q x
Positions-at m q [] k x positions e = cc
Positions-at m q (y ∷ xs) zero x positions e = let d : y ≡ x = cc in positions.0 ∙ ap q d
Positions-at m q (y ∷ xs) (suc k) x positions e = Positions-at (λ i. m (suc i)) q xs k x positions.1 e

-- the first element of a set of positions
pub items_where-first : {X : Type 0} (p : ℕ → Bool) (xs : List X) (t : ℕ) → ((i : ℕ) → i < t → p i ≡ false) → p t ≡ true → t < length xs →
    slice_get (items_where p xs) 0 ≡ slice_get xs t
items_where-first p [] t none here h = absurd (omega arith)
items_where-first p (x ∷ xs) zero none here h = rw here refl
items_where-first p (x ∷ xs) (suc t) none here h =
    rw (none 0 (omega arith)) (items_where-first (λ k. p (suc k)) xs t (λ i l. none (suc i) (omega arith)) here (omega arith))

cons_if-append : {X : Type 0} (b : Bool) (y : X) (ys zs : List X) → cons_if b y (ys ++ zs) ≡ cons_if b y ys ++ zs
cons_if-append true y ys zs = refl
cons_if-append false y ys zs = refl

pub items_where-all : {X : Type 0} (p : ℕ → Bool) (xs : List X) → ((i : ℕ) → i < length xs → p i ≡ true) → items_where p xs ≡ xs
items_where-all p [] all = refl
items_where-all p (x ∷ xs) all =
    rw (all 0 (omega arith)) (ap (λ ys. x ∷ ys) (items_where-all (λ k. p (suc k)) xs (λ i h. all (suc i) (omega arith))))

-- ---- a set of numbered combinations

items_where-map : {X Y : Type 0} (f : X → Y) (p : ℕ → Bool) (xs : List X) → items_where p (map f xs) ≡ map f (items_where p xs)
items_where-map f p [] = refl
items_where-map f p (x ∷ xs) = elim (p 0) as (λ b. cons_if b (f x) (items_where (λ k. p (suc k)) (map f xs))
    ≡ map f (cons_if b x (items_where (λ k. p (suc k)) xs))) [
      | true ↦ ap (λ ys. f x ∷ ys) (items_where-map f (λ k. p (suc k)) xs)
      | false ↦ items_where-map f (λ k. p (suc k)) xs
    ]

items_where_agree_below : {X : Type 0} (p q : ℕ → Bool) (xs : List X) → ((i : ℕ) → i < length xs → p i ≡ q i) →
    items_where p xs ≡ items_where q xs
items_where_agree_below p q [] agree = refl
items_where_agree_below p q (x ∷ xs) agree =
    rw (agree 0 (omega arith)) (ap (cons_if (q 0) x) (items_where_agree_below (λ k. p (suc k)) (λ k. q (suc k)) xs
    (λ i h. agree (suc i) (omega arith))))

items_where-append : {X : Type 0} (p : ℕ → Bool) (xs ys : List X) →
    items_where p (xs ++ ys) ≡ items_where p xs ++ items_where (λ k. p (length xs + k)) ys
items_where-append p [] ys = items_where_agree p (λ k. p (0 + k)) ys (λ i. let e : i ≡ 0 + i = omega arith in ap p e)
items_where-append p (x ∷ xs) ys =
    ap (cons_if (p 0) x) (items_where-append (λ k. p (suc k)) xs ys
    ∙ ap (λ zs. items_where (λ k. p (suc k)) xs ++ zs) (items_where_agree _ _ ys (λ i. let e : suc (length xs + i) ≡ suc (length xs) + i =
    omega arith in ap p e)))
    ∙ cons_if-append (p 0) x _ _

-- if each number is in the set exactly as its two components are in theirs, the set contains the combinations of the components
pub items_where-combinations : {X Y Z : Type 0} (f : X → Y → Z) (m g h : ℕ → Bool) (xs : List X) (ys : List Y) →
    ((i j : ℕ) → i < length xs → j < length ys → m (i * length ys + j) ≡ (g i && h j)) →
    items_where m (flat_map (λ x. map (f x) ys) xs) ≡ flat_map (λ x. map (f x) (items_where h ys)) (items_where g xs)
items_where-combinations f m g h [] ys parts = refl
items_where-combinations f m g h (x ∷ xs) ys parts =
    items_where-append m (map (f x) ys) (flat_map (λ v. map (f v) ys) xs)
    ∙ ap (λ zs. zs ++ items_where (λ k. m (length (map (f x) ys) + k)) (flat_map (λ v. map (f v) ys) xs))
    (items_where-map (f x) m ys ∙ ap (map (f x)) (items_where_agree_below m (λ j. g 0 && h j) ys (λ j l. let e : j ≡ 0 * length ys + j =
    omega arith in ap m e ∙ parts 0 j (omega arith) l)))
    ∙ ap (λ zs. map (f x) (items_where (λ j. g 0 && h j) ys) ++ zs)
    (items_where-combinations f (λ k. m (length (map (f x) ys) + k)) (λ k. g (suc k)) h xs ys
    (λ i j l n. let e : length (map (f x) ys) + (i * length ys + j) ≡ suc i * length ys + j = omega (arith, length-map ys (f x)) in
    ap m e ∙ parts (suc i) j (omega arith) n))
    ∙ elim (g 0) as (λ b. map (f x) (items_where (λ j. b && h j) ys)
    ++ flat_map (λ v. map (f v) (items_where h ys)) (items_where (λ k. g (suc k)) xs)
    ≡ flat_map (λ v. map (f v) (items_where h ys)) (cons_if b x (items_where (λ k. g (suc k)) xs))) [
      | true ↦ refl
      | false ↦ ap (λ zs. map (f x) zs ++ flat_map (λ v. map (f v) (items_where h ys)) (items_where (λ k. g (suc k)) xs))
          (items_where-none (λ _. false) ys (λ i l. refl))
    ]
