-- Types that are laid out, found by going through them.
use Rattle.std.specs.Prelude.{◌≡◌, ◌+◌, ℕ, List, [], ◌∷◌, Option, None}
use Rattle.std.specs.Option.{option_or}
use Rattle.shader_ir.specs.Layout.{layout_fault, IsRefusalAt}
use Rattle.shader_ir.specs.declared.«module».GlobalCtx.{GlobalCtx}
use Rattle.shader_ir.specs.declared.proc.layouter.LayoutError.{LayoutError}
use Rattle.shader_ir.specs.declared.proc.layouter.LayoutErrorInner.{LayoutErrorInner}
use Rattle.shader_ir.specs.declared.proc.layouter.UpdateError.TheVariants.{Layout}
use Rattle.shader_ir.specs.declared.types.«Type».{«Type»}

-- the first layout error of types, of which the first has the position
abbrev pub first_fault : GlobalCtx → ℕ → List «Type» → Option LayoutErrorInner
first_fault ctx position [] = None
first_fault ctx position (type ∷ types) = option_or (layout_fault ctx position type.inner) (first_fault ctx (position + 1) types)

-- where none of the types has a layout error, no refusal of a `Layouter` names one
abbrev pub FaultlessTypesAreLaidOut : Type 0
FaultlessTypesAreLaidOut = (ctx : GlobalCtx) (position : ℕ) (error : LayoutError) → first_fault ctx 0 ctx.types.now ≡ None →
    IsRefusalAt ctx position (Layout error) → ⊥
