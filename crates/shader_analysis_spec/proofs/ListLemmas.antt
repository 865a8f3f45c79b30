-- Members of lists.
use Rattle.std.proofs.Common.{◌≡◌, sym, ap, ℕ, ◌<◌, ◌⊎◌, inl, inr, List, [], ◌∷◌, arith}
use Rattle.std.proofs.Common.{map, subst, suc, ◌+◌, ◌∙◌, length, get_or, drop, add-one}
use Rattle.std.proofs.Math.Seq.{drop-cons}
use Rattle.std.specs.List.{Contains, flat_map}
use Rattle.std.proofs.lemmas.List.Elements.{Contains-append_left, Contains-append_right, Contains-append_cases}
use Rattle.std.proofs.lemmas.List.Elements.{Contains-push, Contains-push_cases}

module _ {X : Type 0} where
  pub nowhere : (x : X) → Contains [] x → ⊥
  nowhere x h = let lt : h.0 < 0 = h.1 in omega arith

  pub here : (x : X) (xs : List X) → Contains (x ∷ xs) x
  here x xs = Contains-append_left (x ∷ []) xs x (Contains-push [] x)

  pub there : (x : X) (xs : List X) (y : X) → Contains xs y → Contains (x ∷ xs) y
  there x xs y h = Contains-append_right (x ∷ []) xs y h

  pub cases : (x : X) (xs : List X) (y : X) → Contains (x ∷ xs) y → (x ≡ y) ⊎ Contains xs y
  cases x xs y h = elim (Contains-append_cases (x ∷ []) xs y h) [
    | inl one ↦ elim (Contains-push_cases [] x y one) [ inl none ↦ absurd (nowhere y none) | inr e ↦ inl e ]
    | inr rest ↦ inr rest
  ]

module _ {X Y : Type 0} (f : X → Y) where
  pub in_map : (xs : List X) (y : Y) → Contains (map f xs) y → (x : X) × Contains xs x × (f x ≡ y)
  in_map [] y h = absurd (nowhere y h)
  in_map (x ∷ xs) y h = elim (cases (f x) (map f xs) y h) [
    | inl e ↦ (x, here x xs, e)
    | inr rest ↦ let r = in_map xs y rest in (r.0, there x xs r.0 r.1, r.2)
  ]

  pub of_map : (xs : List X) (x : X) → Contains xs x → Contains (map f xs) (f x)
  of_map [] x h = absurd (nowhere x h)
  of_map (z ∷ zs) x h = elim (cases z zs x h) [
    | inl e ↦ let P : X → Type 0 = λ v. Contains (f z ∷ map f zs) (f v) in subst P e (here (f z) (map f zs))
    | inr rest ↦ there (f z) (map f zs) (f x) (of_map zs x rest)
  ]

module _ {X Y : Type 0} (f : X → List Y) where
  pub in_flat : (xs : List X) (y : Y) → Contains (flat_map f xs) y → (x : X) × Contains xs x × Contains (f x) y
  in_flat [] y h = absurd (nowhere y h)
  in_flat (x ∷ xs) y h = elim (Contains-append_cases (f x) (flat_map f xs) y h) [
    | inl one ↦ (x, here x xs, one)
    | inr rest ↦ let r = in_flat xs y rest in (r.0, there x xs r.0 r.1, r.2)
  ]

  pub of_flat : (xs : List X) (x : X) (y : Y) → Contains xs x → Contains (f x) y → Contains (flat_map f xs) y
  of_flat [] x y h k = absurd (nowhere x h)
  of_flat (z ∷ zs) x y h k = elim (cases z zs x h) [
    | inl e ↦ let P : X → Type 0 = λ v. Contains (f v) y in Contains-append_left (f z) (flat_map f zs) y (subst P (sym e) k)
    | inr rest ↦ Contains-append_right (f z) (flat_map f zs) y (of_flat zs x y rest k)
  ]

-- the rest of a list begins with its item
pub drop_item : {X : Type 0} (xs : List X) (i : ℕ) (x : X) → i < length xs → x ≡ get_or xs i x → drop i xs ≡ x ∷ drop (i + 1) xs
drop_item xs i x lt e = rw add-one (drop-cons xs i x lt ∙ ap (λ v. v ∷ drop (suc i) xs) (sym e))
