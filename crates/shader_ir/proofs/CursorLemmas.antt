-- A search finds the operand at a position; what is left from there on.
use Rattle.std.proofs.Common.{◌≡◌, refl, ap, ℕ, zero, suc, ◌+◌, List, [], ◌∷◌, Some, None, drop, fold, slice_get}
use native.Mathlib.Numerals.{unary_clauses}
use Rattle.std.proofs.lemmas.List.Folds.{fold_stays}
use Rattle.shader_ir.specs.Cursors.{search_after, found_operand}
use Rattle.shader_ir.specs.declared.proc.operands.Label.{Label}
use Rattle.shader_ir.specs.declared.proc.operands.Search.TheVariants.{Ahead, Found}

pub searched : (operands : List (ℕ × Label)) (position : ℕ) →
    found_operand (fold search_after (Ahead position) operands) ≡ slice_get operands position
searched [] position = refl
searched (operand ∷ operands) zero =
    ap found_operand (fold_stays search_after (Found operand.0 operand.1) (λ next. refl) operands)
searched (operand ∷ operands) (suc position) = searched operands position

module _ {A : Type 0} where
  from_next : (xs : List A) (n : ℕ) (x : A) → slice_get xs n ≡ Some x → drop n xs ≡ x ∷ drop (suc n) xs
  from_next [] n x at = cc
  from_next (y ∷ xs) zero x at = cc
  from_next (y ∷ xs) (suc n) x at = from_next xs n x at

  -- what is left from a position on, if there is an item
  pub left_from : (xs : List A) (n : ℕ) (x : A) → slice_get xs n ≡ Some x → drop n xs ≡ x ∷ drop (n + 1) xs
  left_from xs n x at = simp unary_clauses (from_next xs n x at)

  -- and if there is none
  pub none_left : (xs : List A) (n : ℕ) → slice_get xs n ≡ None → drop n xs ≡ []
  none_left [] zero at = refl
  none_left [] (suc n) at = refl
  none_left (y ∷ xs) zero at = cc
  none_left (y ∷ xs) (suc n) at = none_left xs n at
