-- Trees of types that name only earlier types.
use Rattle.std.proofs.Common.{◌≡◌, ◌↔◌, ◌∙◌, ap, sym, refl, subst, ℕ, zero, suc, ◌+◌, ◌<◌, ◌≤◌, List, []}
use Rattle.std.proofs.Common.{◌∷◌, Option, Some, None, All, length, slice_get, zero-add, get_or, arith}
use Rattle.std.proofs.lemmas.List.Elements.{All-map, All-head, All-tail}
use Rattle.std.proofs.lemmas.Option.{slice_get_within}
use Rattle.std.proofs.lemmas.List.{get_or-map, length-map}
use Rattle.std.specs.List.{enumerate_from}
use Rattle.shader_ir.specs.declared.types.«Type».{«Type»}
use Rattle.shader_ir.specs.declared.types.StructMember.{StructMember}
use Rattle.shader_ir.specs.declared.types.TypeInner.{TypeInner}
use Rattle.shader_ir.specs.declared.types.TypeInner.TheVariants.{Struct}
use Rattle.shader_ir.specs.TypeTree.{type_handles, PointsBelow, IsBackward, TypeTree, Node, NoTree}
use Rattle.shader_ir.specs.TypeTree.{OneTree, put_tree, trees_at, tree_within, tree_of}

abbrev pub MembersBelow : ℕ → List StructMember → Type 0
MembersBelow position members = All (λ (member : StructMember). member.ty < position) members

pub struct_below : (position : ℕ) (members : List StructMember) (span : ℕ) → MembersBelow position members →
    PointsBelow position (Struct span members)
struct_below position members span h = All-map (λ handle. handle < position) (λ (member : StructMember). member.ty) members h

pub members_below : (position : ℕ) (members : List StructMember) (span : ℕ) → PointsBelow position (Struct span members) →
    MembersBelow position members
members_below position members span h k d lt =
    subst (λ n. n < position) (get_or-map (λ (member : StructMember). member.ty) members k d d.ty lt)
    (h k d.ty (subst (λ n. k < n) (sym (length-map members (λ (member : StructMember). member.ty))) lt))

-- a larger position serves as well
pub weaker : (position more : ℕ) (inner : TypeInner) → position ≤ more → PointsBelow position inner → PointsBelow more inner
weaker position more inner le h k d lt = let below : get_or (type_handles inner) k d < position = h k d lt in omega arith

-- each entry of a listing names only types before its position
abbrev pub AreBackward : List (ℕ × «Type») → Type 0
AreBackward [] = Unit {0}
AreBackward (entry ∷ rest) = PointsBelow entry.0 entry.1.inner × AreBackward rest

-- the type at a position of a listing names only earlier types
below_from : (first : ℕ) (types : List «Type») (position : ℕ) (type : «Type») → AreBackward (enumerate_from first types) →
    slice_get types position ≡ Some type → PointsBelow (first + position) type.inner
below_from first [] position type backward at = absurd (cc)
below_from first (t ∷ types) zero type backward at =
    let same : t ≡ type = cc in
    let sum : first ≡ first + 0 = omega arith in
    subst (λ n. PointsBelow n type.inner) sum (subst (λ (u : «Type»). PointsBelow first u.inner) same backward.0)
below_from first (t ∷ types) (suc position) type backward at =
    let sum : first + 1 + position ≡ first + suc position = omega arith in
    subst (λ n. PointsBelow n type.inner) sum (below_from (first + 1) types position type backward.1 at)

listed_from : (first : ℕ) (types : List «Type») → ((position : ℕ) (type : «Type») → slice_get types position ≡ Some type →
    PointsBelow (first + position) type.inner) → AreBackward (enumerate_from first types)
listed_from first [] earlier = tt
listed_from first (t ∷ types) earlier =
    let sum : first + 0 ≡ first = omega arith in (
      subst (λ n. PointsBelow n t.inner) sum (earlier 0 t refl),
      listed_from (first + 1) types (λ position type at. let next : first + suc position ≡ first + 1 + position = omega arith in
          subst (λ n. PointsBelow n type.inner) next (earlier (suc position) type at)),
    )

-- the listing of all types says that each names earlier ones
pub listed : (types : List «Type») → AreBackward (enumerate_from 0 types) ↔ IsBackward types
listed types = (
  λ backward. let at_position =
      λ (position : ℕ) (type : «Type») (at : slice_get types position ≡ Some type). subst (λ n. PointsBelow n type.inner)
      (zero-add position) (below_from 0 types position type backward at) in
      record {
        in_range = λ position type at. let lt = slice_get_within types position type at in
            weaker position (length types) type.inner (omega arith) (at_position position type at);
        earlier = at_position;
      },
  λ backward. listed_from 0 types (λ position type at. subst (λ n. PointsBelow n type.inner) (sym (zero-add position))
      (backward.earlier position type at)),
)

-- the types that a type of the list names are in range
pub in_range_at : (types : List «Type») (position : ℕ) (type : «Type») → IsBackward types → slice_get types position ≡ Some type →
    PointsBelow (length types) type.inner
in_range_at types position type backward at = backward.in_range position type at

module _ (types : List «Type») (backward : IsBackward types) where
  pub below : (position : ℕ) (type : «Type») → slice_get types position ≡ Some type → PointsBelow position type.inner
  below = backward.earlier

  -- trees that agree on the types below a position
  same_trees : (f g : TypeInner → TypeTree) (position : ℕ) →
      ((handle : ℕ) (type : «Type») → handle < position → slice_get types handle ≡ Some type → f type.inner ≡ g type.inner)
      → (handles : List ℕ) → All (λ handle. handle < position) handles → trees_at f types handles ≡ trees_at g types handles
  same_trees f g position same [] h = refl
  same_trees f g position same (handle ∷ handles) h =
      by (same_trees f g position same handles (All-tail (λ n. n < position) handle handles h))
      (slice_get types handle) refl
    where
      by : trees_at f types handles ≡ trees_at g types handles → (o : Option «Type») → slice_get types handle ≡ o →
          put_tree f (slice_get types handle) (trees_at f types handles) ≡ put_tree g (slice_get types handle) (trees_at g types handles)
      by tail None e = ap (λ o. put_tree f o (trees_at f types handles)) e ∙ tail
          ∙ sym (ap (λ o. put_tree g o (trees_at g types handles)) e)
      by tail (Some type) e =
          let head = same handle type (All-head (λ n. n < position) handle handles h) e in
          ap (λ o. put_tree f o (trees_at f types handles)) e ∙ (λ i. OneTree (head i) (tail i))
          ∙ sym (ap (λ o. put_tree g o (trees_at g types handles)) e)

  -- any depth from the position on gives the same tree
  enough : (m n position : ℕ) (inner : TypeInner) → position ≤ m → position ≤ n → PointsBelow position inner →
      tree_within (suc m) types inner ≡ tree_within (suc n) types inner
  unfolding tree_within
  enough zero n position inner le le' h =
      ap (Node inner) (same_trees (tree_within zero types) (tree_within n types) position (λ handle type lt at. absurd (omega arith))
      (type_handles inner) h)
  enough (suc m) zero position inner le le' h =
      ap (Node inner) (same_trees (tree_within (suc m) types) (tree_within zero types) position (λ handle type lt at. absurd (omega arith))
      (type_handles inner) h)
  enough (suc m) (suc n) position inner le le' h =
      ap (Node inner) (same_trees (tree_within (suc m) types) (tree_within (suc n) types) position
      (λ handle type lt at. enough m n handle type.inner (omega arith) (omega arith) (below handle type at)) (type_handles inner) h)

  abbrev pub child : TypeInner → TypeTree
  child = tree_within (length types) types

  pub child_is : (position : ℕ) (type : «Type») → slice_get types position ≡ Some type → child type.inner ≡ tree_of types type.inner
  unfolding tree_within
  child_is position type at = by (length types) refl (slice_get_within types position type at)
    where
      by : (n : ℕ) → length types ≡ n → position < n → tree_within (length types) types type.inner
          ≡ tree_within (suc (length types)) types type.inner
      by zero e lt = absurd (omega arith)
      by (suc n) e lt = subst (λ m. tree_within m types type.inner ≡ tree_within (suc m) types type.inner) (sym e)
          (enough n (suc n) position type.inner (omega arith) (omega arith) (below position type at))

  -- the tree of a type that names one type contains the tree of that type
  pub tree_of-base : (inner : TypeInner) (base : ℕ) (type : «Type») → type_handles inner ≡ base ∷ [] → slice_get types base ≡ Some type
      → tree_of types inner ≡ Node inner (OneTree (tree_of types type.inner) NoTree)
  tree_of-base inner base type names at =
      ap (λ handles. Node inner (trees_at child types handles)) names
      ∙ ap (λ o. Node inner (put_tree child o NoTree)) at
      ∙ ap (λ t. Node inner (OneTree t NoTree)) (child_is base type at)
