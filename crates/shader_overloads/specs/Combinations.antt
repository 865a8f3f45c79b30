-- Combinations of the items of lists, the first list outermost.
use Rattle.std.specs.Prelude.{List, [], ◌∷◌, ◌++◌, map}
use Rattle.std.specs.List.{flat_map}

abbrev pub pair_combinations : {X Y : Type 0} → List X → List Y → List (X × Y)
pair_combinations xs ys = flat_map (λ x. map (λ y. (x, y)) ys) xs

abbrev pub triples_of : {X Y Z : Type 0} → List X → List Y → List Z → List (X × Y × Z)
triples_of xs ys zs = flat_map (λ x. map (λ pair. (x, pair.0, pair.1)) (pair_combinations ys zs)) xs

-- the remaining pairs, if the first item has only these partners left
abbrev pub pairs_left : {X Y : Type 0} → List X → List Y → List Y → List (X × Y)
pairs_left [] partners ys = []
pairs_left (x ∷ xs) partners ys = map (λ y. (x, y)) partners ++ pair_combinations xs ys

-- the remaining triples, if the first item has only these pairs left
abbrev pub triples_left : {X Y Z : Type 0} → List X → List (Y × Z) → List Y → List Z → List (X × Y × Z)
triples_left [] partners ys zs = []
triples_left (x ∷ xs) partners ys zs = map (λ pair. (x, pair.0, pair.1)) partners ++ triples_of xs ys zs
