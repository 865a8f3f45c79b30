-- An inserted type is at its handle, and the other types are unchanged.
use Rattle.std.proofs.Common.{◌≡◌, refl, sym, ap, subst, ◌∙◌, ℕ, Bool, true, false, cond, ◌++◌, ◌∷◌, [], List, Some, slice_get, length}
use Rattle.std.proofs.Common.{◌<◌, ◌≤◌, arith, length-append, take}
use Rattle.std.specs.Prelude.{Result, Ok, Err, OnErr}
use Rattle.std.proofs.Math.Seq.{take-append_seam, take-length}
use Rattle.std.proofs.lemmas.Option.{get_or_from_slice_get, same_Some, slice_get_within}
use Rattle.shader_arena.specs.Unique.{IsOnlyPositionOf, has_equal, with_item}
use Rattle.shader_ir.proofs.TypeTreeLemmas.{weaker}
use Rattle.shader_ir.specs.Key.{FitsTypes, HoldsNoMembers, IsNoStruct}
use Rattle.shader_ir.specs.SameLaws.{type_decides}
use Rattle.shader_ir.specs.TypeTree.{IsBackward, PointsBelow}
use Rattle.shader_ir.specs.contracts.types.TypePartialEq.TheImpl as type
use Rattle.shader_ir.specs.declared.proc.type_resolution.TypeResolution.{TypeResolution}
use Rattle.shader_ir.specs.declared.proc.type_resolution.TypeResolution.TheVariants.{Handle, Value}
use Rattle.shader_ir.specs.declared.types.«Type».{«Type»}
use Rattle.shader_ir.specs.declared.types.TypeInner.{TypeInner}
use Rattle.shader_typifier.specs.Laws.{RegisteredTypesFit}
use Rattle.shader_typifier.specs.Registered.{IsMissing, IsRegistered, unnamed, with_resolution}
use Rattle.shader_typifier.proofs.GrownLemmas.{one_more, types_fit_larger_arenas}

pub registered : (types : List «Type») (value : «Type») (position : ℕ) → IsOnlyPositionOf type.ghosts.eq types value position →
    slice_get types position ≡ Some value
registered types value position only = only.stored.1 ∙ ap (λ v. Some v) (sym ((type_decides value only.stored.0).0 only.stored.2))

chosen : (b : Bool) (types : List «Type») (value : «Type») → take (length types) (cond b types (types ++ value ∷ [])) ≡ types
chosen true types value = take-length types
chosen false types value = take-append_seam types (value ∷ [])

pub retained : (types new : List «Type») (value : «Type») → new ≡ with_item type.ghosts.eq types value →
    take (length types) new ≡ types
retained types new value inserted = ap (λ v. take (length types) v) inserted ∙ chosen (has_equal type.ghosts.eq types value) types value

-- an unconditional fact holds after an error
on_err : {T E P : Type 0} (r : Result T E) → P → OnErr r P
on_err (Ok value) holds = tt
on_err (Err why) holds = holds

module _ (types : List «Type») (stored : List TypeResolution) (position : ℕ) (reported : TypeResolution)
    (at : slice_get stored position ≡ Some reported) where
  the_same : (resolution : TypeResolution) → slice_get stored position ≡ Some resolution → reported ≡ resolution
  the_same resolution is = same_Some reported resolution (sym at ∙ is)

  pub handle_registered : (ty : ℕ) → reported ≡ Handle ty → (resolution : TypeResolution) → slice_get stored position ≡ Some resolution →
      IsRegistered types resolution ty
  handle_registered ty same resolution is = subst (λ r. IsRegistered types r ty) (sym same ∙ the_same resolution is) refl

  pub handle_added : (ty : ℕ) → reported ≡ Handle ty → (resolution : TypeResolution) → slice_get stored position ≡ Some resolution →
      types ≡ with_resolution types resolution
  handle_added ty same resolution is = subst (λ r. types ≡ with_resolution types r) (sym same ∙ the_same resolution is) refl

  module _ (inner copy : TypeInner) (same : reported ≡ Value inner) (copied : copy ≡ inner) (resolution : TypeResolution)
      (is : slice_get stored position ≡ Some resolution) where
    is_value : Value inner ≡ resolution
    is_value = sym same ∙ the_same resolution is

    pub value_registered : (ty : ℕ) → slice_get types ty ≡ Some (unnamed copy) → IsRegistered types resolution ty
    value_registered ty is_there =
        subst (λ r. IsRegistered types r ty) is_value (subst (λ i. slice_get types ty ≡ Some (unnamed i)) copied is_there)

    pub value_added : (new : List «Type») → new ≡ with_item type.ghosts.eq types (unnamed copy) → new ≡ with_resolution types resolution
    value_added new inserted =
        subst (λ r. new ≡ with_resolution types r) is_value (inserted ∙ ap (λ i. with_item type.ghosts.eq types (unnamed i)) copied)

  -- only a missing type allocates, as no members are copied
  abbrev NeedsMemoryIfAbsent : Type 0
  NeedsMemoryIfAbsent = (resolution : TypeResolution) → slice_get stored position ≡ Some resolution → HoldsNoMembers resolution →
      IsMissing types resolution

  module _ {T E : Type 0} (r : Result T E) (inner : TypeInner) (same : reported ≡ Value inner) where
    is_reported : (resolution : TypeResolution) → slice_get stored position ≡ Some resolution → resolution ≡ Value inner
    is_reported resolution is = sym (the_same resolution is) ∙ same

    pub copy_needs_memory : (IsNoStruct inner → ⊥) → OnErr r NeedsMemoryIfAbsent
    copy_needs_memory members = on_err {P = NeedsMemoryIfAbsent} r
        (λ resolution is none. absurd (members (subst (λ v. HoldsNoMembers v) (is_reported resolution is) none)))

    pub insert_needs_memory : (copy : TypeInner) → copy ≡ inner → has_equal type.ghosts.eq types (unnamed copy) ≡ false →
        OnErr r NeedsMemoryIfAbsent
    insert_needs_memory copy copied absent = on_err {P = NeedsMemoryIfAbsent} r (λ resolution is none.
        subst (λ v. IsMissing types v) (sym (is_reported resolution is))
        (subst (λ i. has_equal type.ghosts.eq types (unnamed i) ≡ false) copied absent))

backward_from : (types : List «Type») →
    ((position : ℕ) (type : «Type») → slice_get types position ≡ Some type → PointsBelow position type.inner) → IsBackward types
backward_from types earlier = record {
  in_range = λ position type at.
      let lt : position < length types = slice_get_within types position type at in
      weaker position (length types) type.inner (omega (arith, lt)) (earlier position type at);
  earlier = earlier;
}

chosen_backward : (b : Bool) (types : List «Type») (value : «Type») → IsBackward types → PointsBelow (length types) value.inner →
    IsBackward (cond b types (types ++ value ∷ [])) × (length types ≤ length (cond b types (types ++ value ∷ [])))
chosen_backward true types value backward below = (backward, omega arith)
chosen_backward false types value backward below = (
  backward_from (types ++ value ∷ []) (one_more (λ position t. PointsBelow position t.inner) types value backward.earlier below),
  omega (arith, length-append types (value ∷ [])),
)

stays_backward : (types : List «Type») (resolution : TypeResolution) → IsBackward types → FitsTypes types resolution →
    IsBackward (with_resolution types resolution) × (length types ≤ length (with_resolution types resolution))
stays_backward types (Handle handle) backward fits = (backward, omega arith)
stays_backward types (Value inner) backward fits =
    chosen_backward (has_equal type.ghosts.eq types (unnamed inner)) types (unnamed inner) backward fits.0

pub registered_types_fit : RegisteredTypesFit
registered_types_fit types stored e resolution backward fit at =
    let lt : e < length stored = slice_get_within stored e resolution at in
    let fits = subst (λ r. FitsTypes types r) (get_or_from_slice_get stored e resolution resolution at) (fit e resolution lt) in
    let more = stays_backward types resolution backward fits in
    (more.0, types_fit_larger_arenas types (with_resolution types resolution) stored more.1 fit)
