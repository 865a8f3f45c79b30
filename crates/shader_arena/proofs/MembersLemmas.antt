-- Membership and order of lists of positions.
use Rattle.std.proofs.Common.{◌≡◌, ℕ, zero, suc, ◌+◌, ◌-◌, ◌<◌, ◌≤◌, Bool, true, false, List, [], ◌∷◌, length}
use Rattle.std.proofs.Common.{get_or, Contains, IsTrue, ◌⊎◌, inl, inr, ◌↔◌, refl, subst, add-one, arith}
use Rattle.std.proofs.lemmas.Bool.{false≢true}
use Rattle.std.specs.List.Sorted.{IsStrictlyIncreasing}
use Rattle.shader_arena.specs.Positions.{positions_from, positions_between, members_from, members, is_member}

-- the first element of a list, or an element of the rest
cases_cons : (x : ℕ) (xs : List ℕ) (y k : ℕ) → k < length (x ∷ xs) → get_or (x ∷ xs) k y ≡ y → (x ≡ y) ⊎ Contains xs y
cases_cons x xs y zero within at = inl at
cases_cons x xs y (suc k) within at = inr (k, omega arith, at)

Contains-head : (x : ℕ) (xs : List ℕ) (y : ℕ) → x ≡ y → Contains (x ∷ xs) y
Contains-head x xs y e = (0, omega arith, e)

Contains-tail : (x : ℕ) (xs : List ℕ) (y : ℕ) → Contains xs y → Contains (x ∷ xs) y
Contains-tail x xs y found = (suc found.0, omega (arith, found.1), found.2)

-- a position that is set is among the members
found_member : (first : ℕ) (flags : List Bool) (k position : ℕ) → first + k ≡ position → IsTrue (is_member flags k) →
    Contains (members_from first flags) position
found_member first [] k position e set = absurd (false≢true set)
found_member first (true ∷ flags) zero position e set = Contains-head first (members_from (first + 1) flags) position (omega arith)
found_member first (false ∷ flags) zero position e set = absurd (false≢true set)
found_member first (true ∷ flags) (suc k) position e set = Contains-tail first (members_from (first + 1) flags) position
    (found_member (first + 1) flags k position (omega arith) set)
found_member first (false ∷ flags) (suc k) position e set = found_member (first + 1) flags k position (omega arith) set

-- the flag of each member is set
set_member : (first : ℕ) (flags : List Bool) (position : ℕ) → Contains (members_from first flags) position →
    (k : ℕ) × (first + k ≡ position) × IsTrue (is_member flags k)
set_member first [] position found = absurd (omega (arith, found.1))
set_member first (false ∷ flags) position found =
    let later = set_member (first + 1) flags position found in (suc later.0, omega (arith, later.1), later.2)
set_member first (true ∷ flags) position found =
    by (cases_cons first (members_from (first + 1) flags) position found.0 found.1 found.2) (set_member (first + 1) flags position)
  where
    by : (first ≡ position) ⊎ Contains (members_from (first + 1) flags) position
        → (Contains (members_from (first + 1) flags) position → (k : ℕ) × (first + 1 + k ≡ position) × IsTrue (is_member flags k))
        → (k : ℕ) × (first + k ≡ position) × IsTrue (is_member (true ∷ flags) k)
    by (inl e) rest = (0, omega arith, refl)
    by (inr found) rest = let later = rest found in (suc later.0, omega (arith, later.1), later.2)

-- exactly the positions that are set are members
pub Contains-members : (flags : List Bool) (position : ℕ) → Contains (members flags) position ↔ IsTrue (is_member flags position)
Contains-members flags position = (by, found_member 0 flags position position (omega arith))
  where
    by : Contains (members flags) position → IsTrue (is_member flags position)
    by found =
        let at = set_member 0 flags position found in
        let same : at.0 ≡ position = omega (arith, at.1) in
        subst (λ k. IsTrue (is_member flags k)) same at.2

-- there are at most as many members as flags
pub length-members_from : (first : ℕ) (flags : List Bool) → length (members_from first flags) ≤ length flags
length-members_from first [] = omega arith
length-members_from first (true ∷ flags) = omega (arith, length-members_from (first + 1) flags)
length-members_from first (false ∷ flags) = omega (arith, length-members_from (first + 1) flags)

-- the positions from first on are those at least first and below the end
found_position : (first n position k : ℕ) → first + k ≡ position → k < n → Contains (positions_from first n) position
found_position first zero position k e within = absurd (omega arith)
found_position first (suc n) position zero e within = Contains-head first (positions_from (first + 1) n) position (omega arith)
found_position first (suc n) position (suc k) e within =
    Contains-tail first (positions_from (first + 1) n) position (found_position (first + 1) n position k (omega arith) (omega arith))

within_positions : (first n position : ℕ) → Contains (positions_from first n) position → (first ≤ position) × (position < first + n)
within_positions first zero position found = absurd (omega (arith, found.1))
within_positions first (suc n) position found =
    by (cases_cons first (positions_from (first + 1) n) position found.0 found.1 found.2) (within_positions (first + 1) n position)
  where
    by : (first ≡ position) ⊎ Contains (positions_from (first + 1) n) position
        → (Contains (positions_from (first + 1) n) position → (first + 1 ≤ position) × (position < first + 1 + n))
        → (first ≤ position) × (position < first + suc n)
    by (inl e) rest = (omega arith, omega arith)
    by (inr found) rest = let later = rest found in (omega (arith, later.0), omega (arith, later.1))

-- exactly the positions from start up to but without end are between them
pub Contains-positions_between : (start end position : ℕ) → Contains (positions_between start end) position
    ↔ ((start ≤ position) × (position < end))
Contains-positions_between start end position = (
  by,
  λ ends. found_position start (end - start) position (position - start) (omega (arith, ends.0))
      (omega (arith, ends.0, ends.1)),
)
  where
    by : Contains (positions_between start end) position → (start ≤ position) × (position < end)
    by found = let ends = within_positions start (end - start) position found in (ends.0, omega (arith, ends.0, ends.1))

-- each number of a list is above the one before it, and the first is at least low
abbrev Rises : ℕ → List ℕ → Type 0
Rises low [] = Unit {0}
Rises low (x ∷ xs) = (low ≤ x) × Rises (x + 1) xs

Rises-weaker : (low high : ℕ) (xs : List ℕ) → low ≤ high → Rises high xs → Rises low xs
Rises-weaker low high [] below rises = tt
Rises-weaker low high (x ∷ xs) below rises = (omega (arith, rises.0), rises.1)

IsStrictlyIncreasing-from_rises : (low : ℕ) (xs : List ℕ) → Rises low xs → IsStrictlyIncreasing xs
IsStrictlyIncreasing-from_rises low [] rises k within = absurd (omega arith)
IsStrictlyIncreasing-from_rises low (x ∷ []) rises k within = absurd (omega arith)
IsStrictlyIncreasing-from_rises low (x ∷ y ∷ ys) rises zero within = omega (arith, rises.1.0)
IsStrictlyIncreasing-from_rises low (x ∷ y ∷ ys) rises (suc k) within =
    let later = IsStrictlyIncreasing-from_rises (x + 1) (y ∷ ys) rises.1 k (omega arith) in rw add-one (rw add-one at later)

Rises-members_from : (first : ℕ) (flags : List Bool) → Rises first (members_from first flags)
Rises-members_from first [] = tt
Rises-members_from first (true ∷ flags) = (omega arith, Rises-members_from (first + 1) flags)
Rises-members_from first (false ∷ flags) =
    Rises-weaker first (first + 1) (members_from (first + 1) flags) (omega arith) (Rises-members_from (first + 1) flags)

pub IsStrictlyIncreasing-members : (flags : List Bool) → IsStrictlyIncreasing (members flags)
IsStrictlyIncreasing-members flags = IsStrictlyIncreasing-from_rises 0 (members flags) (Rises-members_from 0 flags)

Rises-positions_from : (first n : ℕ) → Rises first (positions_from first n)
Rises-positions_from first zero = tt
Rises-positions_from first (suc n) = (omega arith, Rises-positions_from (first + 1) n)

pub IsStrictlyIncreasing-positions_between : (start end : ℕ) → IsStrictlyIncreasing (positions_between start end)
IsStrictlyIncreasing-positions_between start end =
    IsStrictlyIncreasing-from_rises start (positions_between start end) (Rises-positions_from start (end - start))
