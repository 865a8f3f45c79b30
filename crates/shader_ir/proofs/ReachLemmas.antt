-- The reach of a type into the arena, which decreases from a type to those that it names.
use Rattle.std.proofs.Common.{◌≡◌, ℕ, ◌+◌, ◌<◌, ◌≤◌, List, [], ◌∷◌, Some, All, max, slice_get, arith, sym, subst, zero, suc}
use Rattle.std.proofs.lemmas.List.Elements.{All-head, All-tail}
use Rattle.std.proofs.lemmas.Option.{slice_get_within, get_or_from_slice_get}
use Rattle.shader_ir.specs.declared.types.«Type».{«Type»}
use Rattle.shader_ir.specs.declared.types.StructMember.{StructMember}
use Rattle.shader_ir.specs.declared.types.TypeInner.{TypeInner}
use Rattle.shader_ir.specs.declared.types.TypeInner.TheVariants.{Struct}
use Rattle.shader_ir.specs.TypeTree.{type_handles, PointsBelow, IsBackward}
use Rattle.shader_ir.proofs.TypeTreeLemmas.{members_below}

-- the least position above all of some handles
abbrev pub above : List ℕ → ℕ
above [] = 0
above (handle ∷ handles) = max (handle + 1) (above handles)

abbrev pub reach : TypeInner → ℕ
reach inner = above (type_handles inner)

above_within : (position : ℕ) (handles : List ℕ) → All (λ handle. handle < position) handles → above handles ≤ position
above_within position [] h = omega arith
above_within position (handle ∷ handles) h =
    let head = All-head (λ n. n < position) handle handles h in
    let tail = above_within position handles (All-tail (λ n. n < position) handle handles h) in
    omega arith

above_all : (position : ℕ) (handles : List ℕ) → above handles ≤ position → All (λ handle. handle < position) handles
above_all position [] le k d lt = absurd (omega arith)
above_all position (handle ∷ handles) le zero d lt = omega arith
above_all position (handle ∷ handles) le (suc k) d lt = above_all position handles (omega arith) k d (omega arith)

-- the member of a struct at an index names a type below where all members do
pub member_below : (position : ℕ) (members : List StructMember) (span index : ℕ) (member : StructMember) →
    PointsBelow position (Struct span members) → slice_get members index ≡ Some member → member.ty < position
member_below position members span index member below at =
    subst (λ (m : StructMember). m.ty < position) (get_or_from_slice_get members index member member at)
    (members_below position members span below index member (slice_get_within members index member at))

module _ (types : List «Type») (backward : IsBackward types) where
  below_reach : (inner : TypeInner) (base : ℕ) (type : «Type») → slice_get types base ≡ Some type → base < reach inner →
      reach type.inner < reach inner
  below_reach inner base type at lt =
      let within = above_within base (type_handles type.inner) (backward.earlier base type at) in
      omega arith

  -- the reach decreases for a type that names one type
  pub falls : (inner : TypeInner) (base : ℕ) (type : «Type») → type_handles inner ≡ base ∷ [] → slice_get types base ≡ Some type →
      reach type.inner < reach inner
  falls inner base type names at = below_reach inner base type at (subst (λ handles. base < above handles) (sym names) (omega arith))

  -- the reach decreases for a struct and its members
  pub member_falls : (members : List StructMember) (span index : ℕ) (member : StructMember) (type : «Type») →
      slice_get members index ≡ Some member → slice_get types member.ty ≡ Some type
      → reach type.inner < reach (Struct span members)
  member_falls members span index member type stored at =
      let inner = Struct span members in
      below_reach inner member.ty type at (member_below (reach inner) members span index member
      (above_all (reach inner) (type_handles inner) (omega arith)) stored)
