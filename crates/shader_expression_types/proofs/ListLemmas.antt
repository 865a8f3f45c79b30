-- The remaining expressions, and properties of a growing list of types.
use Rattle.std.proofs.Common.{◌≡◌, refl, ap, sym, subst, ◌∙◌, ◌⊎◌, inl, inr, ℕ, ◌+◌, ◌<◌, ◌≤◌, List, []}
use Rattle.std.proofs.Common.{◌∷◌, ◌++◌, Some, slice_get, length, get_or, length-append, append_assoc, All, arith}
use Rattle.std.specs.List.{enumerate_from}
use Rattle.std.proofs.lemmas.List.Elements.{All-contains_itself}
use Rattle.std.proofs.lemmas.Bool.{cases_lt}
use Rattle.std.proofs.lemmas.Option.{get_or_from_slice_get, same_Some, slice_get-get_or, slice_get_within}
use Rattle.shader_analysis_spec.specs.Program.{Expression, Function, IsExpressionAt, expression_operands}
use Rattle.shader_ir.specs.declared.expression.Expression.TheVariants as form
use Rattle.shader_ir.specs.declared.proc.operands.Label.TheVariants.{Read}
use Rattle.shader_resolve.specs.WellFormed.{OperandsBelow}
use Rattle.shader_passes.proofs.FactLemmas.{get_left, get_seam}
use Rattle.shader_passes.specs.InfoOf.{PointsBackwards}

-- the operands of an expression are below its position
pub operands_below : (f : Function) → PointsBackwards f → (e : ℕ) (x : Expression) → IsExpressionAt f e x → OperandsBelow e x
operands_below f below e x is = λ i d lt. below e x (get_or (expression_operands x) i d) is
    (All-contains_itself (expression_operands x) i d lt)

-- the items of a list from a position on, with their positions
pub record IsLeft {X : Type 0} (xs : List X) (n : ℕ) (items : List (ℕ × X)) : Type 0 where
  pub done : List X
  pub left : List X
  pub whole : xs ≡ done ++ left
  pub long : length done ≡ n
  pub are : items ≡ enumerate_from n left

pub all_left : {X : Type 0} (xs : List X) → IsLeft xs 0 (enumerate_from 0 xs)
all_left xs = record { done = []; left = xs; whole = refl; long = refl; are = refl }

pub none_left : {X : Type 0} (xs : List X) (n : ℕ) → IsLeft xs n [] → n ≡ length xs
none_left {X} xs n is = at is.left is.are is.whole where
  at : (left : List X) → [] ≡ enumerate_from n left → xs ≡ is.done ++ left → n ≡ length xs
  at [] are whole = omega (arith, is.long, ap length whole, length-append is.done [])
  at (x ∷ rest) are whole = absurd (cc)

heads : {X : Type 0} (x y : X) (xs ys : List X) → x ∷ xs ≡ y ∷ ys → (x ≡ y) × (xs ≡ ys)
heads x y xs ys is = (cc, cc)

pub next_left : {X : Type 0} (xs : List X) (n : ℕ) (position : ℕ) (x : X) (items : List (ℕ × X)) →
    IsLeft xs n ((position, x) ∷ items) → (position ≡ n) × (slice_get xs n ≡ Some x) × IsLeft xs (n + 1) items
next_left {X} xs n position x items is = at is.left is.are is.whole where
  at : (left : List X) → (position, x) ∷ items ≡ enumerate_from n left → xs ≡ is.done ++ left →
      (position ≡ n) × (slice_get xs n ≡ Some x) × IsLeft xs (n + 1) items
  at [] are whole = absurd (cc)
  at (y ∷ ys) are whole =
      let parts = heads (position, x) (n, y) items (enumerate_from (n + 1) ys) are in
      let same : x ≡ y = ap (λ v. v.1) parts.0 in (
        ap (λ v. v.0) parts.0,
        ap (λ v. slice_get v n) whole ∙ (get_seam is.done y ys n is.long ∙ ap Some (sym same)),
        record {
          done = is.done ++ y ∷ [];
          left = ys;
          whole = whole ∙ sym (append_assoc is.done (y ∷ []) ys);
          long = omega (arith, is.long, length-append is.done (y ∷ []));
          are = parts.1;
        },
      )

-- a property of each item of a list and of one more item holds of each item of both
pub one_more : {X : Type 0} (P : ℕ → X → Type 0) (xs : List X) (x : X) → ((e : ℕ) (y : X) → slice_get xs e ≡ Some y → P e y) →
    P (length xs) x →
    (e : ℕ) (y : X) → slice_get (xs ++ x ∷ []) e ≡ Some y → P e y
one_more P xs x each last e y is = at (cases_lt e (length xs)) where
  at : (e < length xs) ⊎ (length xs ≤ e) → P e y
  at (inl lt) = each e y (sym (get_left xs (x ∷ []) e lt) ∙ is)
  at (inr le) =
      let lt : e < length (xs ++ x ∷ []) = slice_get_within (xs ++ x ∷ []) e y is in
      let here : length xs ≡ e = omega (arith, le, lt, length-append xs (x ∷ [])) in
      let same : x ≡ y = same_Some x y (sym (get_seam xs x [] e here) ∙ is) in
      subst (P e) same (subst (λ v. P v x) here last)

pub at_position : {X : Type 0} (P : X → Type 0) (xs : List X) (e : ℕ) (x : X) → All P xs → slice_get xs e ≡ Some x → P x
at_position P xs e x all is = subst P (get_or_from_slice_get xs e x x is) (all e x (slice_get_within xs e x is))

-- the base of an access is earlier
pub base_earlier : (bound : ℕ) (x : Expression) (base index : ℕ) → x ≡ form.Access base index → OperandsBelow bound x → base < bound
base_earlier bound x base index same below = subst (OperandsBelow bound) same below 0 (0, Read) (omega arith)

-- a property below a bound and at it holds below the next bound
pub up_to_here : (P : ℕ → Type 0) (n : ℕ) → ((e : ℕ) → e < n → P e) → P n → (e : ℕ) → e < n + 1 → P e
up_to_here P n each here e lt = at (cases_lt e n) where
  at : (e < n) ⊎ (n ≤ e) → P e
  at (inl earlier) = each e earlier
  at (inr le) = let same : n ≡ e = omega (arith, le, lt) in subst P same here

pub all_one_more : {X : Type 0} (P : X → Type 0) (xs : List X) (x : X) → All P xs → P x → All P (xs ++ x ∷ [])
all_one_more P xs x all last = λ i d lt.
    one_more (λ e y. P y) xs x (λ e y is. at_position P xs e y all is) last i (get_or (xs ++ x ∷ []) i d)
    (slice_get-get_or (xs ++ x ∷ []) i d lt)
