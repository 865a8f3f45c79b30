-- Filters commute and repeat without effect.
use Rattle.std.proofs.Common.{◌≡◌, ◌∙◌, sym, refl, Bool, true, false, ◌&&◌, List}
use Rattle.std.specs.List.{filter}
use Rattle.std.proofs.lemmas.List.Elements.{filter_agree}
use Rattle.shader_overloads.specs.NarrowLaws.{CallsCommute, CallsRepeat}
use Rattle.shader_overloads.proofs.NarrowLemmas.{filter-filter}

and_swapped : (a b : Bool) → (a && b) ≡ (b && a)
and_swapped true true = refl
and_swapped true false = refl
and_swapped false true = refl
and_swapped false false = refl

and_repeated : (a : Bool) → (a && a) ≡ a
and_repeated true = refl
and_repeated false = refl

filters_commute : {X : Type 0} (p q : X → Bool) (xs : List X) → filter p (filter q xs) ≡ filter q (filter p xs)
filters_commute p q xs = filter-filter p q xs ∙ filter_agree _ _ (λ x. and_swapped (q x) (p x)) xs ∙ sym (filter-filter q p xs)

filters_repeat : {X : Type 0} (p : X → Bool) (xs : List X) → filter p (filter p xs) ≡ filter p xs
filters_repeat p xs = filter-filter p p xs ∙ filter_agree _ _ (λ x. and_repeated (p x)) xs

pub calls_commute : CallsCommute
calls_commute accepting types first second rules = filters_commute _ _ rules

pub calls_repeat : CallsRepeat
calls_repeat accepting types call rules = filters_repeat _ rules
