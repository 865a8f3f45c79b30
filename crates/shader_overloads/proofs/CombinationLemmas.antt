-- The end of a walk over combinations, and the images of all pairs.
use Rattle.std.proofs.Common.{◌≡◌, ◌∙◌, ◌++◌, ap, refl, List, [], ◌∷◌, map}
use Rattle.std.specs.List.{flat_map}
use Rattle.std.proofs.lemmas.Grind.{flat_map-append}
use Rattle.std.proofs.lemmas.List.Folds.{flat_map-map}
use Rattle.shader_overloads.specs.Combinations.{pairs_left, pair_combinations, triples_left, triples_of}

pairs_with_none : {X Y : Type 0} (xs : List X) → pair_combinations {Y = Y} xs [] ≡ []
pairs_with_none [] = refl
pairs_with_none (x ∷ xs) = pairs_with_none xs

no_pairs : {X Y : Type 0} (xs : List X) → pairs_left {Y = Y} xs [] [] ≡ []
no_pairs [] = refl
no_pairs (x ∷ xs) = pairs_with_none xs

-- the first item has no partner left, and so has no other
pub pairs_done : {X Y : Type 0} (xs : List X) (partners ys : List Y) → partners ≡ [] → ys ≡ [] → pairs_left xs partners ys ≡ []
pairs_done xs partners ys e f = ap (λ ps. pairs_left xs ps ys) e ∙ ap (pairs_left xs []) f ∙ no_pairs xs

triples_with_none : {X Y Z : Type 0} (xs : List X) (ys : List Y) (zs : List Z) → pair_combinations ys zs ≡ [] → triples_of xs ys zs ≡ []
triples_with_none [] ys zs e = refl
triples_with_none (x ∷ xs) ys zs e = ap (λ ps. map (λ pair. (x, pair.0, pair.1)) ps ++ triples_of xs ys zs) e ∙ triples_with_none xs ys zs e

no_triples : {X Y Z : Type 0} (xs : List X) (ys : List Y) (zs : List Z) → pair_combinations ys zs ≡ [] → triples_left xs [] ys zs ≡ []
no_triples [] ys zs e = refl
no_triples (x ∷ xs) ys zs e = triples_with_none xs ys zs e

pub triples_done : {X Y Z : Type 0} (xs : List X) (partners : List (Y × Z)) (ys : List Y) (zs : List Z) → partners ≡ [] →
    pair_combinations ys zs ≡ [] → triples_left xs partners ys zs ≡ []
triples_done xs partners ys zs e f = ap (λ ps. triples_left xs ps ys zs) e ∙ no_triples xs ys zs f

-- mapping all pairs is mapping each item of the first list with each of the second
pub over_pairs : {X Y Z : Type 0} (f : X → Y → List Z) (xs : List X) (ys : List Y) →
    flat_map (λ (pair : X × Y). f pair.0 pair.1) (pair_combinations xs ys) ≡ flat_map (λ x. flat_map (f x) ys) xs
over_pairs f [] ys = refl
over_pairs f (x ∷ xs) ys =
    flat_map-append (λ pair. f pair.0 pair.1) (map (λ y. (x, y)) ys) (pair_combinations xs ys)
    ∙ ap (λ zs. zs ++ flat_map (λ pair. f pair.0 pair.1) (pair_combinations xs ys))
    (flat_map-map (λ pair. f pair.0 pair.1) (λ y. (x, y)) ys)
    ∙ ap (λ zs. flat_map (f x) ys ++ zs) (over_pairs f xs ys)
