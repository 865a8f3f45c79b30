-- The four components of a swizzle's pattern.
use Rattle.std.proofs.Common.{◌≡◌, ℕ, subst, sym, List, [], ◌∷◌, get_or, length, Global, arith}
use Rattle.json.specs.Json.{Json, array}
use Rattle.json.specs.Value.{value_view, items_view}
use Rattle.json.specs.declared.value.Value.{Value}
use Rattle.shader_json_reader.specs.Shapes.{Each, IsList, Reading}

module _ {A : Type 0} (R : Reading A) where
  four_each : (vs : List (Value Global)) (a b c d : Value Global) (w x y z : A) → length vs ≡ 4 → R (value_view (get_or vs 0 a)) w
      → R (value_view (get_or vs 1 b)) x → R (value_view (get_or vs 2 c)) y → R (value_view (get_or vs 3 d)) z
      → Each R (items_view vs) (w ∷ x ∷ y ∷ z ∷ [])
  four_each [] a b c d w x y z four p q r s = absurd (omega arith)
  four_each (k ∷ []) a b c d w x y z four p q r s = absurd (omega arith)
  four_each (k ∷ l ∷ []) a b c d w x y z four p q r s = absurd (omega arith)
  four_each (k ∷ l ∷ m ∷ []) a b c d w x y z four p q r s = absurd (omega arith)
  four_each (k ∷ l ∷ m ∷ n ∷ []) a b c d w x y z four p q r s = (p, (q, (r, (s, tt))))
  four_each (k ∷ l ∷ m ∷ n ∷ o ∷ vs) a b c d w x y z four p q r s = absurd (omega arith)

  -- four items
  pub four_items : (j : Json) (vs : List (Value Global)) → j ≡ array (items_view vs) → (k l m n : Value Global) (w x y z : A)
      → length vs ≡ 4 → k ≡ get_or vs 0 k → l ≡ get_or vs 1 l
      → m ≡ get_or vs 2 m → n ≡ get_or vs 3 n → R (value_view k) w → R (value_view l) x → R (value_view m) y → R (value_view n) z
      → IsList R j (w ∷ x ∷ y ∷ z ∷ [])
  four_items j vs is k l m n w x y z four at_k at_l at_m at_n p q r s =
      let all = four_each vs k l m n w x y z four (subst (λ (v : Value Global). R (value_view v) w) at_k p)
      (subst (λ (v : Value Global). R (value_view v) x) at_l q) (subst (λ (v : Value Global). R (value_view v) y) at_m r)
      (subst (λ (v : Value Global). R (value_view v) z) at_n s) in
      subst (λ (i : Json). IsList R i (w ∷ x ∷ y ∷ z ∷ [])) (sym is) all
