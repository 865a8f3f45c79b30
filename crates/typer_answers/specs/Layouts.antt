-- The layouts of spelled types.
use Rattle.std.specs.Prelude.{ℕ, ◌+◌, List, [], ◌∷◌, ◌++◌, Option, Some, None}
use Rattle.std.specs.Option.{option_or}
use Rattle.shader_ir.specs.Layout.{layout_fault, layout_of}
use Rattle.shader_ir.specs.TypeTree.{tree_of}
use Rattle.shader_ir.specs.declared.expression.Expression.{Expression}
use Rattle.shader_ir.specs.declared.«module».Constant.{Constant}
use Rattle.shader_ir.specs.declared.«module».GlobalCtx.{GlobalCtx}
use Rattle.shader_ir.specs.declared.«module».Override.{Override}
use Rattle.shader_ir.specs.declared.proc.layouter.LayoutErrorInner.{LayoutErrorInner}
use Rattle.shader_ir.specs.declared.proc.layouter.TypeLayout.{TypeLayout}
use Rattle.shader_ir.specs.declared.types.«Type».{«Type»}
use Rattle.shader_type_text.specs.declared.types.SpelledType.{SpelledType}
use Rattle.shader_type_text.specs.Insertions.{own_inner, own_types, unnamed}

-- the types of an arena for this type alone: the base of an array, and then the type
abbrev pub laid_types : SpelledType → List «Type»
laid_types spelled = own_types spelled ++ unnamed (own_inner spelled) ∷ []

-- a context of these lists; the addresses of the arenas don't matter
abbrev pub context : List «Type» → List Constant → List Override → List Expression → GlobalCtx
context types constants overrides expressions =
    record {
      types = record { ref_ptr = (0, 0); now = types };
      constants = record { ref_ptr = (0, 0); now = constants };
      overrides = record { ref_ptr = (0, 0); now = overrides };
      global_expressions = record { ref_ptr = (0, 0); now = expressions };
    }

-- the first layout error of types of which the first has the position
abbrev pub first_fault : GlobalCtx → ℕ → List «Type» → Option LayoutErrorInner
first_fault ctx position [] = None
first_fault ctx position (type ∷ types) = option_or (layout_fault ctx position type.inner) (first_fault ctx (position + 1) types)

abbrev pub layout_unless : Option LayoutErrorInner → TypeLayout → Option TypeLayout
layout_unless None layout = Some layout
layout_unless (Some fault) layout = None

-- the layout of the type in its arena, if no type there has an error
abbrev pub layout_in : GlobalCtx → SpelledType → Option TypeLayout
layout_in ctx spelled = layout_unless (first_fault ctx 0 (laid_types spelled))
    (layout_of ctx (tree_of (laid_types spelled) (own_inner spelled)))

abbrev pub layout_of_spelled : SpelledType → Option TypeLayout
layout_of_spelled spelled = layout_in (context (laid_types spelled) [] [] []) spelled
