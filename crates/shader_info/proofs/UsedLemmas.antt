-- The globals with given uses, among those that a handle may have.
use Rattle.std.proofs.Common.{◌≡◌, ◌+◌, ◌<◌, ◌⊎◌, inl, inr, refl, sym, subst, arith, ℕ, Bool, true, false, List, [], ◌∷◌, length, min, cond}
use Rattle.std.proofs.Common.{Option, unwrap_or}
use Rattle.std.specs.List.{Contains, filter}
use Rattle.std.specs.Option.{option_map}
use Rattle.std.proofs.Math.Nat.{le-min, min-le_right}
use Rattle.std.proofs.lemmas.List.Elements.{All-contains, All-contains_itself, All-filter, filter_passes}
use Rattle.std.proofs.lemmas.List.Kept.{IsStrictlyIncreasing-filter}
use Rattle.std.proofs.lemmas.Option.{slice_get_cases}
use Rattle.shader_arena.proofs.MembersLemmas.{Contains-positions_between, IsStrictlyIncreasing-positions_between}
use Rattle.shader_arena.specs.Positions.{most_items, positions_between}
use Rattle.shader_info.proofs.PairLemmas.{cases, here, there}
use Rattle.shader_info.specs.declared.flags.GlobalUse.{GlobalUse}
use Rattle.shader_info.specs.declared.info.FunctionInfo.{FunctionInfo}
use Rattle.shader_info.specs.Recorded.{AreUsed, is_used_for}
use Rattle.shader_info.specs.Uses.{includes}

-- each element of the list that passes the test is in the filtered list
to_filter : (p : ℕ → Bool) (xs : List ℕ) (x : ℕ) → Contains xs x → p x ≡ true → Contains (filter p xs) x
to_filter p [] x at passes = absurd (omega (arith, at.1))
to_filter p (y ∷ ys) x at passes = from (p y) refl (cases y ys x at) (λ later. to_filter p ys x later passes) where
  from : (b : Bool) → p y ≡ b → (y ≡ x) ⊎ Contains ys x → (Contains ys x → Contains (filter p ys) x) →
      Contains (cond b (y ∷ filter p ys) (filter p ys)) x
  from true is (inl same) rest = let P : ℕ → Type 0 = λ v. Contains (y ∷ filter p ys) v in subst P same (here y (filter p ys))
  from true is (inr later) rest = there y (filter p ys) x (rest later)
  from false is (inl same) rest =
      let P : ℕ → Type 0 = λ v. p v ≡ false in
      let other : p x ≡ false = subst P same is in absurd (cc)
  from false is (inr later) rest = rest later

of_filter : (p : ℕ → Bool) (xs : List ℕ) (x : ℕ) → Contains (filter p xs) x → Contains xs x × (p x ≡ true)
of_filter p xs x at = (
  All-contains (Contains xs) (filter p xs) x (All-filter p (Contains xs) xs (All-contains_itself xs)) at,
  All-contains (λ v. p v ≡ true) (filter p xs) x (filter_passes p xs) at,
)

-- a global with uses is one of the info
is_within : (info : FunctionInfo) (uses : GlobalUse) (global : ℕ) → is_used_for info uses global ≡ true →
    global < length info.global_uses
is_within info uses global used = elim (slice_get_cases info.global_uses global).1 [
  | inl inside ↦ inside.1
  | inr past ↦ let P : Option GlobalUse → Type 0 = λ v. unwrap_or (option_map (λ at. includes at uses) v) false ≡ true in
      let none : false ≡ true = subst P past.1 used in absurd (cc)
]

-- those that are left of all that a handle may have
pub used_reported : (info : FunctionInfo) (uses : GlobalUse) (globals : List ℕ) →
    globals ≡ filter (is_used_for info uses) (positions_between 0 (min (length info.global_uses) most_items)) →
    AreUsed info uses globals
used_reported info uses globals is =
    let count = length info.global_uses in
    let all = positions_between 0 (min count most_items) in
    let p = is_used_for info uses in
    let P : List ℕ → Type 0 = AreUsed info uses in
    subst P (sym is) (record {
      ascending = IsStrictlyIncreasing-filter p all (IsStrictlyIncreasing-positions_between 0 (min count most_items));
      members = λ global. (of_used global, λ used. to_used global used.0 used.1);
    }) where
      of_used : (global : ℕ) →
          Contains (filter (is_used_for info uses) (positions_between 0 (min (length info.global_uses) most_items))) global →
          (global < most_items) × (is_used_for info uses global ≡ true)
      of_used global found =
          let count = length info.global_uses in
          let parts = of_filter (is_used_for info uses) (positions_between 0 (min count most_items)) global found in
          let below = ((Contains-positions_between 0 (min count most_items) global).0 parts.0).1 in
          (omega (arith, below, min-le_right count most_items), parts.1)

      to_used : (global : ℕ) → global < most_items → is_used_for info uses global ≡ true →
          Contains (filter (is_used_for info uses) (positions_between 0 (min (length info.global_uses) most_items))) global
      to_used global handle used =
          let count = length info.global_uses in
          let within = is_within info uses global used in
          let below = le-min {k = global + 1} {a = count} {b = most_items} (omega (arith, within)) (omega (arith, handle)) in
          let among = (Contains-positions_between 0 (min count most_items) global).1 (omega arith, omega (arith, below)) in
          to_filter (is_used_for info uses) (positions_between 0 (min count most_items)) global among used
