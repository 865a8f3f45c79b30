-- Types without a layout error, gone through in order.
use Rattle.std.proofs.Common.{◌≡◌, ◌∙◌, ℕ, zero, suc, ◌+◌, List, [], ◌∷◌, Option, Some, None, ap, arith}
use Rattle.std.specs.Prelude.{slice_get}
use Rattle.std.specs.Option.{option_map, option_or}
use Rattle.shader_ir.specs.Layout.{layout_fault}
use Rattle.shader_ir.specs.declared.«module».GlobalCtx.{GlobalCtx}
use Rattle.shader_ir.specs.declared.proc.layouter.LayoutErrorInner.{LayoutErrorInner}
use Rattle.shader_ir.specs.declared.types.«Type».{«Type»}
use Rattle.shader_typing.specs.LaidOut.{first_fault, FaultlessTypesAreLaidOut}

later_none : (first later : Option LayoutErrorInner) → option_or first later ≡ None → later ≡ None
later_none None later none = none
later_none (Some fault) later none = absurd (cc)

first_none : (first later : Option LayoutErrorInner) (fault : LayoutErrorInner) → option_or first later ≡ None →
    ◌≡◌ {A = Option (Option LayoutErrorInner)} (Some first) (Some (Some fault)) → ⊥
first_none None later fault none at = absurd (cc)
first_none (Some found) later fault none at = absurd (cc)

-- the layout error of the type at a position behind the first one
abbrev fault_behind : GlobalCtx → ℕ → List «Type» → ℕ → Option (Option LayoutErrorInner)
fault_behind ctx first types position = option_map (λ (t : «Type»). layout_fault ctx (first + position) t.inner) (slice_get types position)

none_behind : (ctx : GlobalCtx) (first : ℕ) (types : List «Type») (position : ℕ) (fault : LayoutErrorInner) →
    first_fault ctx first types ≡ None → fault_behind ctx first types position ≡ Some (Some fault) → ⊥
none_behind ctx first [] position fault none at = absurd (cc)
none_behind ctx first (type ∷ types) zero fault none at =
    first_none (layout_fault ctx first type.inner) (first_fault ctx (first + 1) types) fault none
    (ap (λ k. Some (layout_fault ctx k type.inner)) (omega arith) ∙ at)
none_behind ctx first (type ∷ types) (suc position) fault none at =
    none_behind ctx (first + 1) types position fault
    (later_none (layout_fault ctx first type.inner) (first_fault ctx (first + 1) types) none)
    (ap (λ k. option_map (λ (t : «Type»). layout_fault ctx k t.inner) (slice_get types position)) (omega arith) ∙ at)

pub faultless_types_are_laid_out : FaultlessTypesAreLaidOut
faultless_types_are_laid_out ctx position error none refusal =
    none_behind ctx 0 ctx.types.now position error.inner none
    (ap (λ k. option_map (λ (t : «Type»). layout_fault ctx k t.inner) (slice_get ctx.types.now position)) (omega arith) ∙ refusal.1)
