-- Unions and intersections of sets of scalars and of constructors.
use Rattle.std.proofs.Common.{◌≡◌, ℕ, ◌<◌, Bool, true, false, ◌&&◌, ◌||◌, Option, length, refl, ◌∙◌}
use Rattle.std.proofs.Common.{ap, arith, inl, inr, ◌⊎◌, bit_and, nat_eq, min, max, Some, slice_get}
use Rattle.std.specs.List.{filter}
use Rattle.std.specs.Int.{bit_at}
use Rattle.std.specs.Int.RustNames.{bit_or}
use Rattle.std.proofs.lemmas.Bool.{agree_below, agree_below_at, cases_lt, and_from, eq-eqb}
use Rattle.std.proofs.lemmas.Cmp.{nat_eq_equiv}
use Rattle.std.proofs.lemmas.Nat.Bits.{bit_at_and, bit_at_or, bit_at-lt}
use Rattle.shader_ir.specs.declared.scalar.Scalar.{Scalar}
use Rattle.shader_ir.specs.declared.scalar.ScalarKind.{ScalarKind}
use Rattle.shader_ir.specs.declared.scalar.ScalarKind.TheVariants as kinds
use Rattle.shader_ir.specs.declared.scalar.VectorSize.{VectorSize}
use Rattle.shader_ir.specs.declared.scalar.VectorSize.TheVariants.{Bi, Tri, Quad}
use Rattle.shader_ir.specs.Conversion.{same_size}
use Rattle.shader_ir.specs.Scalars.{named_scalars, same_scalar, same_kind}
use Rattle.shader_overloads.specs.declared.constructor_set.ConstructorSize.{ConstructorSize}
use Rattle.shader_overloads.specs.declared.constructor_set.ConstructorSize.TheVariants as sizes
use Rattle.shader_overloads.specs.declared.constructor_set.ConstructorSet.{ConstructorSet}
use Rattle.shader_overloads.specs.declared.scalar_set.ScalarSet.{ScalarSet}
use Rattle.shader_overloads.specs.Bits.{has_bit}
use Rattle.shader_overloads.specs.ScalarSets.{scalars_in, has_scalar}
use Rattle.shader_overloads.specs.Constructors.{constructors_in, has_constructor, all_constructors, same_constructor}
use Rattle.shader_overloads.proofs.ListLemmas.{Positions, items_where-and, items_where-filtered, positions_from_list}
use Rattle.shader_overloads.proofs.ListLemmas.{positions_of_members, positions_of_either, Positions-at, slice_get-within}

digit_cases : (a : ℕ) → a < 2 → (a ≡ 0) ⊎ (a ≡ 1)
digit_cases a h = elim (cases_lt a 1) [ inl l ↦ inl (omega arith) | inr l ↦ inr (omega arith) ]

digit_both : (a b : ℕ) → a < 2 → b < 2 → nat_eq (min a b) 1 ≡ (nat_eq a 1 && nat_eq b 1)
digit_both a b p q = elim (digit_cases a p) [
  | inl e ↦ elim (digit_cases b q) [ inl f ↦ rw (e, f) refl | inr f ↦ rw (e, f) refl ]
  | inr e ↦ elim (digit_cases b q) [ inl f ↦ rw (e, f) refl | inr f ↦ rw (e, f) refl ]
]

digit_either : (a b : ℕ) → a < 2 → b < 2 → nat_eq (max a b) 1 ≡ (nat_eq a 1 || nat_eq b 1)
digit_either a b p q = elim (digit_cases a p) [
  | inl e ↦ elim (digit_cases b q) [ inl f ↦ rw (e, f) refl | inr f ↦ rw (e, f) refl ]
  | inr e ↦ elim (digit_cases b q) [ inl f ↦ rw (e, f) refl | inr f ↦ rw (e, f) refl ]
]

pub has_bit-and : (n m k : ℕ) → has_bit (bit_and n m) k ≡ (has_bit n k && has_bit m k)
has_bit-and n m k = ap (λ d. nat_eq d 1) (bit_at_and n m k) ∙ digit_both (bit_at n k) (bit_at m k) (bit_at-lt n k) (bit_at-lt m k)

pub has_bit-or : (n m k : ℕ) → has_bit (bit_or n m) k ≡ (has_bit n k || has_bit m k)
has_bit-or n m k = ap (λ d. nat_eq d 1) (bit_at_or n m k) ∙ digit_either (bit_at n k) (bit_at m k) (bit_at-lt n k) (bit_at-lt m k)

-- ---- the tests of equality

same_kind_self : (k : ScalarKind) → same_kind k k ≡ true
same_kind_self kinds.Sint = refl
same_kind_self kinds.Uint = refl
same_kind_self kinds.Float = refl
same_kind_self kinds.Bool = refl
same_kind_self kinds.AbstractInt = refl
same_kind_self kinds.AbstractFloat = refl

same_kind_sym : (j k : ScalarKind) → same_kind j k ≡ same_kind k j
same_kind_sym kinds.Sint k = elim k as (λ v. same_kind kinds.Sint v ≡ same_kind v kinds.Sint) [
  | kinds.Sint ↦ refl
  | kinds.Uint ↦ refl
  | kinds.Float ↦ refl
  | kinds.Bool ↦ refl
  | kinds.AbstractInt ↦ refl
  | kinds.AbstractFloat ↦ refl
]
same_kind_sym kinds.Uint k = elim k as (λ v. same_kind kinds.Uint v ≡ same_kind v kinds.Uint) [
  | kinds.Sint ↦ refl
  | kinds.Uint ↦ refl
  | kinds.Float ↦ refl
  | kinds.Bool ↦ refl
  | kinds.AbstractInt ↦ refl
  | kinds.AbstractFloat ↦ refl
]
same_kind_sym kinds.Float k = elim k as (λ v. same_kind kinds.Float v ≡ same_kind v kinds.Float) [
  | kinds.Sint ↦ refl
  | kinds.Uint ↦ refl
  | kinds.Float ↦ refl
  | kinds.Bool ↦ refl
  | kinds.AbstractInt ↦ refl
  | kinds.AbstractFloat ↦ refl
]
same_kind_sym kinds.Bool k = elim k as (λ v. same_kind kinds.Bool v ≡ same_kind v kinds.Bool) [
  | kinds.Sint ↦ refl
  | kinds.Uint ↦ refl
  | kinds.Float ↦ refl
  | kinds.Bool ↦ refl
  | kinds.AbstractInt ↦ refl
  | kinds.AbstractFloat ↦ refl
]
same_kind_sym kinds.AbstractInt k = elim k as (λ v. same_kind kinds.AbstractInt v ≡ same_kind v kinds.AbstractInt) [
  | kinds.Sint ↦ refl
  | kinds.Uint ↦ refl
  | kinds.Float ↦ refl
  | kinds.Bool ↦ refl
  | kinds.AbstractInt ↦ refl
  | kinds.AbstractFloat ↦ refl
]
same_kind_sym kinds.AbstractFloat k = elim k as (λ v. same_kind kinds.AbstractFloat v ≡ same_kind v kinds.AbstractFloat) [
  | kinds.Sint ↦ refl
  | kinds.Uint ↦ refl
  | kinds.Float ↦ refl
  | kinds.Bool ↦ refl
  | kinds.AbstractInt ↦ refl
  | kinds.AbstractFloat ↦ refl
]

pub same_scalar_self : (s : Scalar) → same_scalar s s ≡ true
same_scalar_self s = and_from _ _ (same_kind_self s.kind) (eq-eqb s.width s.width refl)

same_scalar_sym : (s t : Scalar) → same_scalar s t ≡ same_scalar t s
same_scalar_sym s t = ap (λ b. b && nat_eq s.width t.width) (same_kind_sym s.kind t.kind)
    ∙ ap (λ b. same_kind t.kind s.kind && b) (nat_eq_equiv.symm s.width t.width)

pub same_size_self : (n : VectorSize) → same_size n n ≡ true
same_size_self Bi = refl
same_size_self Tri = refl
same_size_self Quad = refl

same_size_sym : (m n : VectorSize) → same_size m n ≡ same_size n m
same_size_sym Bi n = elim n as (λ v. same_size Bi v ≡ same_size v Bi) [ Bi ↦ refl | Tri ↦ refl | Quad ↦ refl ]
same_size_sym Tri n = elim n as (λ v. same_size Tri v ≡ same_size v Tri) [ Bi ↦ refl | Tri ↦ refl | Quad ↦ refl ]
same_size_sym Quad n = elim n as (λ v. same_size Quad v ≡ same_size v Quad) [ Bi ↦ refl | Tri ↦ refl | Quad ↦ refl ]

same_constructor_self : (size : ConstructorSize) → same_constructor size size ≡ true
same_constructor_self sizes.Scalar = refl
same_constructor_self (sizes.Vector n) = same_size_self n
same_constructor_self (sizes.Matrix c r) = and_from _ _ (same_size_self c) (same_size_self r)

same_constructor_sym : (a b : ConstructorSize) → same_constructor a b ≡ same_constructor b a
same_constructor_sym sizes.Scalar sizes.Scalar = refl
same_constructor_sym sizes.Scalar (sizes.Vector n) = refl
same_constructor_sym sizes.Scalar (sizes.Matrix c r) = refl
same_constructor_sym (sizes.Vector n) sizes.Scalar = refl
same_constructor_sym (sizes.Vector n) (sizes.Vector m) = same_size_sym n m
same_constructor_sym (sizes.Vector n) (sizes.Matrix c r) = refl
same_constructor_sym (sizes.Matrix c r) sizes.Scalar = refl
same_constructor_sym (sizes.Matrix c r) (sizes.Vector m) = refl
same_constructor_sym (sizes.Matrix c r) (sizes.Matrix m n) =
    ap (λ v. v && same_size r n) (same_size_sym c m) ∙ ap (λ v. same_size m c && v) (same_size_sym r n)

-- ---- sets of scalars

scalar_members : (set : ScalarSet) → Positions (has_bit set.0) (has_scalar set) named_scalars
unfolding named_scalars
scalar_members set = positions_of_members same_scalar same_scalar_self same_scalar_sym (has_bit set.0) named_scalars refl

pub scalars_of_both : (a b both : ScalarSet) → both.0 ≡ bit_and a.0 b.0 → scalars_in both ≡ filter (has_scalar b) (scalars_in a)
scalars_of_both a b both e = items_where-and (has_scalar b) (has_bit b.0) (has_bit a.0) (has_bit both.0) named_scalars (scalar_members b)
    (λ k. ap (λ n. has_bit n k) e ∙ has_bit-and a.0 b.0 k)

pub scalars_of_either : (a b either : ScalarSet) → either.0 ≡ bit_or a.0 b.0 →
    scalars_in either ≡ filter (λ scalar. has_scalar a scalar || has_scalar b scalar) named_scalars
scalars_of_either a b either e =
    items_where-filtered _ (has_bit either.0) named_scalars
    (positions_of_either (has_scalar a) (has_scalar b) (has_bit a.0) (has_bit b.0) (has_bit either.0) named_scalars (scalar_members a)
    (scalar_members b) (λ k. ap (λ n. has_bit n k) e ∙ has_bit-or a.0 b.0 k))

-- whether a set of the scalars that pass contains the scalar at a position
pub scalar_position : (q : Scalar → Bool) (set : ScalarSet) (k : ℕ) (s : Scalar) → scalars_in set ≡ filter q named_scalars →
    slice_get named_scalars k ≡ Some s → has_bit set.0 k ≡ q s
unfolding named_scalars
scalar_position q set k s e at = Positions-at (has_bit set.0) q named_scalars k s
    (positions_from_list same_scalar same_scalar_self q (has_bit set.0) named_scalars refl e) at

-- ---- sets of constructors

same_some : Option ConstructorSize → Option ConstructorSize → Bool
same_some (Some a) (Some b) = same_constructor a b
same_some _ _ = false

constructor_members : (set : ConstructorSet) → Positions (has_bit set.0) (has_constructor set) all_constructors
unfolding all_constructors
constructor_members set = positions_of_members same_constructor same_constructor_self same_constructor_sym (has_bit set.0)
    all_constructors refl

pub constructors_of_both : (a b both : ConstructorSet) → both.0 ≡ bit_and a.0 b.0 →
    constructors_in both ≡ filter (has_constructor b) (constructors_in a)
constructors_of_both a b both e = items_where-and (has_constructor b) (has_bit b.0) (has_bit a.0) (has_bit both.0) all_constructors
    (constructor_members b) (λ k. ap (λ n. has_bit n k) e ∙ has_bit-and a.0 b.0 k)

pub constructors_of_either : (a b either : ConstructorSet) → either.0 ≡ bit_or a.0 b.0 →
    constructors_in either ≡ filter (λ size. has_constructor a size || has_constructor b size) all_constructors
constructors_of_either a b either e =
    items_where-filtered _ (has_bit either.0) all_constructors
    (positions_of_either (has_constructor a) (has_constructor b) (has_bit a.0) (has_bit b.0) (has_bit either.0) all_constructors
    (constructor_members a) (constructor_members b) (λ k. ap (λ n. has_bit n k) e ∙ has_bit-or a.0 b.0 k))

-- the test of equality, by positions
same_at : ℕ → ℕ → Bool
same_at j k = same_some (slice_get all_constructors j) (slice_get all_constructors k)

-- the constructors are distinct, so each has only one position
constructors_apart : (j k : ℕ) → j < 13 → k < 13 → nat_eq k j ≡ same_at j k
unfolding all_constructors same_at same_some
constructors_apart j k l m =
    let of_one = λ (i : ℕ). agree_below (λ n. nat_eq n i) (same_at i) 13 in
    agree_below_at (λ n. nat_eq n j) (same_at j) 13 k (agree_below_at of_one (λ _. true) 13 j refl l) m

pub length-constructors : length all_constructors ≡ 13
unfolding all_constructors
length-constructors = refl

pub same_position : (j k : ℕ) (size other : ConstructorSize) → slice_get all_constructors j ≡ Some size →
    slice_get all_constructors k ≡ Some other → nat_eq k j ≡ same_constructor size other
unfolding same_at same_some
same_position j k size other at_j at_k =
    constructors_apart j k (omega (arith, slice_get-within all_constructors j size at_j, length-constructors))
    (omega (arith, slice_get-within all_constructors k other at_k, length-constructors))
    ∙ ap (λ o. same_some o (slice_get all_constructors k)) at_j
    ∙ ap (same_some (Some size)) at_k
