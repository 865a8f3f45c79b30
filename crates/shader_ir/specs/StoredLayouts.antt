-- One step of an update: the layout of a type over the stored layouts of earlier types.
use Rattle.std.specs.Prelude.{◌≡◌, ℕ, ◌≤◌, max, List, [], ◌∷◌, slice_get, take, Option, Some, None, Result, Ok, Err}
use Rattle.shader_ir.specs.Layout.{own_alignment, part_fault, size_of_type}
use Rattle.shader_ir.specs.declared.module.GlobalCtx.{GlobalCtx}
use Rattle.shader_ir.specs.declared.proc.layouter.LayoutErrorInner.{LayoutErrorInner}
use Rattle.shader_ir.specs.declared.proc.layouter.LayoutErrorInner.TheVariants.{TooLarge}
use Rattle.shader_ir.specs.declared.proc.layouter.TypeLayout.{TypeLayout}
use Rattle.shader_ir.specs.declared.types.«Type».{«Type»}
use Rattle.shader_ir.specs.declared.types.StructMember.{StructMember}
use Rattle.shader_ir.specs.declared.types.TypeInner.{TypeInner}
use Rattle.shader_ir.specs.declared.types.TypeInner.TheVariants.{Array, Struct}

-- a value, or the error
abbrev pub faulty_or : {T : Type 0} → Option LayoutErrorInner → T → Result T LayoutErrorInner
faulty_or None value = Ok value
faulty_or (Some fault) value = Err fault

-- the alignment of a stored layout
abbrev pub stored_of : Option TypeLayout → ℕ
stored_of (Some layout) = layout.alignment
stored_of None = 1

abbrev pub greatest_stored : List TypeLayout → List StructMember → ℕ
greatest_stored layouts [] = 1
greatest_stored layouts (member ∷ members) = max (stored_of (slice_get layouts member.ty)) (greatest_stored layouts members)

abbrev pub stored_alignment : List TypeLayout → TypeInner → ℕ
stored_alignment layouts (Array base size stride) = stored_of (slice_get layouts base)
stored_alignment layouts (Struct span members) = greatest_stored layouts members
stored_alignment layouts inner = own_alignment inner

-- the size is tested first
abbrev pub sized_layout : Option ℕ → List TypeLayout → ℕ → TypeInner → Result TypeLayout LayoutErrorInner
sized_layout None layouts position inner = Err TooLarge
sized_layout (Some size) layouts position inner = faulty_or (part_fault position inner)
    (record { size = size; alignment = stored_alignment layouts inner })

abbrev pub stored_layout : GlobalCtx → List TypeLayout → ℕ → TypeInner → Result TypeLayout LayoutErrorInner
stored_layout ctx layouts position inner = sized_layout (size_of_type ctx inner) layouts position inner

-- each layout from a first position on is that of the type at its position, over the layouts before
-- it
abbrev pub AreLaidOver : GlobalCtx → ℕ → List TypeLayout → Type 0
AreLaidOver ctx first layouts = (position : ℕ) (layout : TypeLayout) (type : «Type») → first ≤ position →
    slice_get layouts position ≡ Some layout
    → slice_get ctx.types.now position ≡ Some type → stored_layout ctx (take position layouts) position type.inner ≡ Ok layout
