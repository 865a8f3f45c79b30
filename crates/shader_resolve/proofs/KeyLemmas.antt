-- Items at a position, and the types of members.
use Rattle.std.proofs.Common.{◌≡◌, sym, subst, ℕ, ◌<◌, List, Some, All, slice_get}
use Rattle.std.proofs.lemmas.List.{get_or-map, length-map}
use Rattle.std.proofs.lemmas.Option.{slice_get_within, get_or_from_slice_get}
use Rattle.shader_ir.specs.declared.types.StructMember.{StructMember}
use Rattle.shader_ir.specs.declared.types.TypeInner.TheVariants.{Struct}
use Rattle.shader_ir.specs.TypeTree.{type_handles}

-- a property of each item holds of the one at a position
pub at_position : {T : Type 0} (P : T → Type 0) (xs : List T) (i : ℕ) (x : T) → All P xs → slice_get xs i ≡ Some x → P x
at_position P xs i x all is = subst P (get_or_from_slice_get xs i x x is) (all i x (slice_get_within xs i x is))

-- what holds of all types that a struct names holds of each member's
pub member_named : (Named : ℕ → Type 0) (members : List StructMember) (span index : ℕ) (member : StructMember)
    → All Named (type_handles (Struct span members)) → slice_get members index ≡ Some member → Named member.ty
member_named Named members span index member h is =
    at_position (λ (member : StructMember). Named member.ty) members index member
    (λ k d lt.
    subst Named (get_or-map (λ (member : StructMember). member.ty) members k d d.ty lt)
    (h k d.ty (subst (λ n. k < n) (sym (length-map members (λ (member : StructMember). member.ty))) lt)))
    is
