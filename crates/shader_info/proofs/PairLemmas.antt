-- Pairs of two globals, and their order.
use Rattle.std.proofs.Common.{◌≡◌, ◌<◌, ◌⊎◌, inl, inr, [], ◌∷◌, subst, ℕ, List, map, arith}
use Rattle.std.specs.BTreeSet.{BTreeSet, IsFromIterResult}
use Rattle.std.specs.Cmp.{IsTotalOrder}
use Rattle.std.specs.List.{Contains}
use Rattle.std.specs.Ordering.{nat_cmp}
use Rattle.std.proofs.lemmas.Cmp.{nat_cmp_total, on_total, then_total}
use Rattle.std.proofs.lemmas.List.Elements.{Contains-append_cases, Contains-append_left, Contains-append_right}
use Rattle.std.proofs.lemmas.List.Elements.{Contains-push, Contains-push_cases}
use Rattle.std.proofs.lemmas.Map.Lookups.{CmpEqualImpliesEq, exact_pairs, exact_unsigned}
use Rattle.std.proofs.lemmas.Map.Views.{btree_set_contains_from_list, btree_set_contains_iff}
use Rattle.shader_info.specs.declared.info.FunctionInfo.{FunctionInfo}
use Rattle.shader_info.specs.declared.info.SamplingKey.{SamplingKey}
use Rattle.shader_info.specs.Recorded.{ArePairsOf, pair_cmp}

-- ---- members of lists

module _ {X : Type 0} where
  nowhere : (x : X) → Contains [] x → ⊥
  nowhere x h = let lt : h.0 < 0 = h.1 in omega arith

  pub here : (x : X) (xs : List X) → Contains (x ∷ xs) x
  here x xs = Contains-append_left (x ∷ []) xs x (Contains-push [] x)

  pub there : (x : X) (xs : List X) (y : X) → Contains xs y → Contains (x ∷ xs) y
  there x xs y h = Contains-append_right (x ∷ []) xs y h

  pub cases : (x : X) (xs : List X) (y : X) → Contains (x ∷ xs) y → (x ≡ y) ⊎ Contains xs y
  cases x xs y h = elim (Contains-append_cases (x ∷ []) xs y h) [
    | inl one ↦ elim (Contains-push_cases [] x y one) [ inl none ↦ absurd (nowhere y none) | inr e ↦ inl e ]
    | inr rest ↦ inr rest
  ]

module _ {X Y : Type 0} (f : X → Y) where
  in_map : (xs : List X) (y : Y) → Contains (map f xs) y → (x : X) × Contains xs x × (f x ≡ y)
  in_map [] y h = absurd (nowhere y h)
  in_map (x ∷ xs) y h = elim (cases (f x) (map f xs) y h) [
    | inl e ↦ (x, here x xs, e)
    | inr rest ↦ let r = in_map xs y rest in (r.0, there x xs r.0 r.1, r.2)
  ]

  of_map : (xs : List X) (x : X) → Contains xs x → Contains (map f xs) (f x)
  of_map [] x h = absurd (nowhere x h)
  of_map (z ∷ zs) x h = elim (cases z zs x h) [
    | inl e ↦ let P : X → Type 0 = λ v. Contains (f z ∷ map f zs) (f v) in subst P e (here (f z) (map f zs))
    | inr rest ↦ there (f z) (map f zs) (f x) (of_map zs x rest)
  ]

-- ---- pairs

pub pairs_total : IsTotalOrder pair_cmp
pairs_total = then_total (on_total (λ (p : ℕ × ℕ). p.0) nat_cmp_total) (on_total (λ (p : ℕ × ℕ). p.1) nat_cmp_total)

pub pairs_exact : CmpEqualImpliesEq pair_cmp
pairs_exact = exact_pairs nat_cmp nat_cmp exact_unsigned exact_unsigned

abbrev pub key_numbers : SamplingKey → ℕ × ℕ
key_numbers key = (key.image, key.sampler)

abbrev key_of : ℕ × ℕ → SamplingKey
key_of pair = record { image = pair.0; sampler = pair.1 }

of_numbers : (keys : List SamplingKey) (pair : ℕ × ℕ) → Contains (map key_numbers keys) pair → Contains keys (key_of pair)
of_numbers keys pair h =
    let k = in_map key_numbers keys pair h in
    subst (λ v. Contains keys (key_of v)) k.2 k.1

-- a set that was made of them has the pairs of two globals, in ascending order
pub pairs_reported : (info : FunctionInfo) (set : BTreeSet (ℕ × ℕ)) →
    IsFromIterResult pair_cmp (map key_numbers info.sampling_set.keys) set → ArePairsOf info set.keys
pairs_reported info set built = record {
  ascending = built.1;
  members = λ i s.
      let among = btree_set_contains_from_list pairs_total pairs_exact (map key_numbers info.sampling_set.keys) set built (i, s) in
      let stored = btree_set_contains_iff pairs_total pairs_exact set (i, s) in (
        λ h. of_numbers info.sampling_set.keys (i, s) (among.0 (stored.1 h)),
        λ h. stored.0 (among.1 (of_map key_numbers info.sampling_set.keys (key_of (i, s)) h)),
      );
}
