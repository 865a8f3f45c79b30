-- The layouts of the vertex and of its members' types.
use lib.Count.{ones}
use Rattle.std.proofs.Common.{◌≡◌, ◌∙◌, ℕ, Some, None, ap, subst, refl, List, map}
use Rattle.std.specs.Prelude.{slice_get}
use Rattle.shader_typing.proofs.LayingOut.{faultless_types_are_laid_out}
use Rattle.shader_typing.specs.LaidOut.{first_fault}
use Rattle.shader_typing.specs.Layout.{layout_of, layouts_of, IsRefusalAt}
use Rattle.shader_typing.specs.GlobalCtx.{GlobalCtx}
use Rattle.shader_typing.specs.LayoutError.{LayoutError}
use Rattle.shader_typing.specs.TypeLayout.{TypeLayout}
use Rattle.shader_typing.specs.TypeTree.{tree_of, tree_within}
use Rattle.shader_typing.specs.UpdateError.{UpdateError}
use Rattle.shader_typing.specs.UpdateError.TheVariants.{Layout}
use Rattle.shader_typing.specs.«Type».{«Type»}
use Rattle.shader_uses.specs.Vertex.{vertex_types}

no_fault : (ctx : GlobalCtx) → first_fault ctx 0 vertex_types ≡ None
unfolding ones
no_fault ctx = refl

pub is_laid_out : (ctx : GlobalCtx) (position : ℕ) (error : UpdateError) (failure : LayoutError) → ctx.types.now ≡ vertex_types →
    error ≡ Layout failure → IsRefusalAt ctx position error → ⊥
is_laid_out ctx position error failure is which refusal =
    faultless_types_are_laid_out ctx position failure (ap (first_fault ctx 0) is ∙ no_fault ctx)
    (subst (IsRefusalAt ctx position) which refusal)

abbrev layouts_in : GlobalCtx → List «Type» → List TypeLayout
layouts_in ctx types = map (λ (t : «Type»). layout_of ctx (tree_of types t.inner)) types

last_layout : (ctx : GlobalCtx) → slice_get (layouts_in ctx vertex_types) 3 ≡ Some (record { size = 32; alignment = 16 })
unfolding ones tree_within
last_layout ctx = refl

-- the layout of the vertex, among those of all types
pub vertex_layout : (ctx : GlobalCtx) (layouts : List TypeLayout) → ctx.types.now ≡ vertex_types → layouts ≡ layouts_of ctx →
    slice_get layouts 3 ≡ Some (record { size = 32; alignment = 16 })
vertex_layout ctx layouts is all =
    ap (λ ls. slice_get ls 3) all ∙ ap (λ ts. slice_get (layouts_in ctx ts) 3) is ∙ last_layout ctx
