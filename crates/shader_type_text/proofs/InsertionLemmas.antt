-- Insertion of spelled types into an arena.
use Rattle.std.proofs.Common.{rules, ◌≡◌, ℕ, zero, suc, ◌+◌, Bool, true, false, cond, List}
use Rattle.std.proofs.Common.{[], ◌∷◌, ◌++◌, Some, length, refl, ap, subst, arith}
use Rattle.std.specs.Prelude.{All, slice_get}
use Rattle.std.specs.List.{list_any, position_or_len}
use Rattle.std.proofs.lemmas.Bool.{and_parts}
use Rattle.indexmap.specs.IndexSet.{insert_key}
use Rattle.shader_ir.specs.contracts.scalar.ScalarPartialEq.TheImpl as scalar
use Rattle.shader_ir.specs.contracts.scalar.VectorSizePartialEq.TheImpl as size
use Rattle.shader_ir.specs.contracts.types.TypeInnerPartialEq.TheImpl as inner
use Rattle.shader_ir.specs.contracts.types.TypePartialEq.TheImpl as type
use Rattle.shader_ir.specs.declared.scalar.Scalar as s
use Rattle.shader_ir.specs.declared.scalar.VectorSize.{VectorSize}
use Rattle.shader_ir.specs.declared.types.«Type».{«Type»}
use Rattle.shader_ir.specs.declared.types.TypeInner.{TypeInner}
use Rattle.shader_ir.specs.declared.types.TypeInner.TheVariants as inners
use Rattle.shader_ir.specs.TypeTree.{IsBackward, PointsBelow, type_handles}
use Rattle.shader_type_text.specs.declared.types.PlainType.{PlainType}
use Rattle.shader_type_text.specs.declared.types.PlainType.TheVariants.{Scalar, Vector, Matrix}
use Rattle.shader_type_text.specs.declared.types.SpelledType.{SpelledType}
use Rattle.shader_type_text.specs.declared.types.SpelledType.TheVariants.{Plain, Array}
use Rattle.shader_type_text.specs.Insertions.{AreFlat, IsInserted, PreservesTypes, unnamed}
use Rattle.shader_type_text.specs.Types.{plain_inner}

-- ---- an unnamed plain type equals only itself

same_scalar : (x y : s.Scalar) → scalar.ghosts.eq x y ≡ true → x ≡ y
same_scalar x y h = search rules

same_size : (x y : VectorSize) → size.ghosts.eq x y ≡ true → x ≡ y
same_size x y h = search rules

same_plain : (p : PlainType) (y : TypeInner) → inner.ghosts.eq (plain_inner p) y ≡ true → y ≡ plain_inner p
same_plain (Scalar t) y h = search rules
same_plain (Vector n t) y h = search rules
same_plain (Matrix c r t) (inners.Matrix c' r' t') h =
    let p = and_parts (size.ghosts.eq c c') _ h in
    let q = and_parts (size.ghosts.eq r r') _ p.1 in
    let x = same_size c c' p.0 in
    let y = same_size r r' q.0 in
    let z = same_scalar t t' q.1 in cc
same_plain (Matrix c r t) y h = search rules

pub same_type : (p : PlainType) (y : «Type») → type.ghosts.eq (unnamed (plain_inner p)) y ≡ true → y ≡ unnamed (plain_inner p)
same_type p y h =
    let both = and_parts _ (inner.ghosts.eq (plain_inner p) y.inner) h in
    let same = same_plain p y.inner both.1 in
    search rules

-- ---- an inserted type is at its handle

at_false : (b : Bool) (x k : «Type») (ks : List «Type») (n : ℕ)
    → slice_get (cond b ks (ks ++ k ∷ [])) n ≡ Some k → slice_get (cond b (x ∷ ks) ((x ∷ ks) ++ k ∷ [])) (1 + n) ≡ Some k
at_false true x k ks n h = search (rules, h)
at_false false x k ks n h = search (rules, h)

at_first : (E : «Type» → Bool) (k x : «Type») (ks : List «Type») (b : Bool) → E x ≡ b → ((y : «Type») → E y ≡ true → y ≡ k)
    → slice_get (cond (list_any E ks) ks (ks ++ k ∷ [])) (position_or_len E ks) ≡ Some k
    → slice_get (cond (list_any E (x ∷ ks)) (x ∷ ks) ((x ∷ ks) ++ k ∷ [])) (position_or_len E (x ∷ ks)) ≡ Some k
at_first E k x ks true is same later = rw is (ap Some (same x is))
at_first E k x ks false is same later = rw is (at_false (list_any E ks) x k ks (position_or_len E ks) later)

inserted_at : (E : «Type» → Bool) (k : «Type») (ks : List «Type») → ((y : «Type») → E y ≡ true → y ≡ k)
    → slice_get (cond (list_any E ks) ks (ks ++ k ∷ [])) (position_or_len E ks) ≡ Some k
inserted_at E k [] same = refl
inserted_at E k (x ∷ ks) same = at_first E k x ks (E x) refl same (inserted_at E k ks same)

-- the base of an array is at the position where it was inserted
pub base_inserted : (old new : List «Type») (p : PlainType) (i : TypeInner) (handle : ℕ) → i ≡ plain_inner p
    → handle ≡ position_or_len (type.ghosts.eq (unnamed i)) old → new ≡ insert_key type.ghosts.eq old (unnamed i)
    → slice_get new handle ≡ Some (unnamed (plain_inner p))
base_inserted old new p i handle is at inserted =
    rw (inserted, at, is) (inserted_at (type.ghosts.eq (unnamed (plain_inner p))) (unnamed (plain_inner p)) old (same_type p))

-- an inserted type stays inserted
pub stays_inserted : (old new : List «Type») (spelled : SpelledType) (i : TypeInner) → PreservesTypes old new → IsInserted old spelled i →
    IsInserted new spelled i
stays_inserted old new (Plain p) i preserves in_arena = in_arena
stays_inserted old new (Array base count stride) i preserves in_arena =
    (in_arena.0, preserves.retained in_arena.0 (unnamed (plain_inner base)) in_arena.1, in_arena.2)

-- ---- flat types

found_flat : (types : List «Type») → All (λ (t : «Type»). type_handles t.inner ≡ []) types → (position : ℕ) (type : «Type») →
    slice_get types position ≡ Some type → type_handles type.inner ≡ []
found_flat [] flat position type at = absurd (cc)
found_flat (t ∷ types) flat zero type at = let same : t ≡ type = cc in
    subst (λ (u : «Type»). type_handles u.inner ≡ []) same (flat 0 t (omega arith))
found_flat (t ∷ types) flat (suc position) type at = found_flat types (λ k d within. flat (suc k) d (omega arith)) position type at

-- a type without handles names no type beyond a position
flat_below : (bound : ℕ) (i : TypeInner) → type_handles i ≡ [] → PointsBelow bound i
flat_below bound i none = rw none (λ k d within. absurd (omega arith))

pub are_backward : (types : List «Type») → AreFlat types → IsBackward types
are_backward types flat =
    record {
      in_range = λ position type at. flat_below (length types) type.inner (found_flat types flat.flat position type at);
      earlier = λ position type at. flat_below position type.inner (found_flat types flat.flat position type at);
    }
