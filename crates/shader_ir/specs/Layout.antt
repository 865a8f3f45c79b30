-- Sizes, alignments and layouts of types, and the errors of types without a layout.
use Rattle.std.specs.Prelude.{◌≡◌, ℕ, ◌+◌, ◌-◌, ◌*◌, ◌^◌, ◌<◌, ◌≤◌, nat_lt, max, min, List, [], ◌∷◌, length}
use Rattle.std.specs.Prelude.{map, slice_get, take, Option, Some, None, unwrap_or, if◌then◌else◌}
use Rattle.std.specs.Int.{is_power_of_two, next_multiple_of}
use Rattle.std.specs.Option.{option_map}
use Rattle.shader_ir.specs.Alignments.{cooperative_count, vector_alignment, vector_count}
use Rattle.shader_ir.specs.Sizes.{array_bytes, array_count, limited}
use Rattle.shader_ir.specs.TypeTree.{TypeTree, Node, TypeTrees, NoTree, OneTree, root_of, tree_of}
use Rattle.shader_ir.specs.declared.proc.layouter.LayoutErrorInner.{LayoutErrorInner}
use Rattle.shader_ir.specs.declared.proc.layouter.LayoutErrorInner.TheVariants.{InvalidArrayElementType, InvalidStructMemberType}
use Rattle.shader_ir.specs.declared.proc.layouter.LayoutErrorInner.TheVariants.{NonPowerOfTwoWidth, TooLarge}
use Rattle.shader_ir.specs.declared.proc.layouter.TypeLayout.{TypeLayout}
use Rattle.shader_ir.specs.declared.proc.layouter.UpdateError.{UpdateError}
use Rattle.shader_ir.specs.declared.proc.layouter.UpdateError.TheVariants.{Layout, OutOfMemory}
use Rattle.shader_ir.specs.declared.module.GlobalCtx.{GlobalCtx}
use Rattle.shader_ir.specs.declared.scalar.Scalar as s
use Rattle.shader_ir.specs.declared.types.«Type».{«Type»}
use Rattle.shader_ir.specs.declared.types.StructMember.{StructMember}
use Rattle.shader_ir.specs.declared.types.TypeInner.{TypeInner}
use Rattle.shader_ir.specs.declared.types.TypeInner.TheVariants.{Scalar, Vector, Matrix, CooperativeMatrix, Atomic}
use Rattle.shader_ir.specs.declared.types.TypeInner.TheVariants.{Pointer, ValuePointer, Array, Struct, Image, Sampler}
use Rattle.shader_ir.specs.declared.types.TypeInner.TheVariants.{AccelerationStructure, RayQuery, BindingArray}

-- the alignment of a type that is built from no other type
abbrev pub own_alignment : TypeInner → ℕ
own_alignment (Scalar scalar) = scalar.width
own_alignment (Atomic scalar) = scalar.width
own_alignment (Vector size scalar) = vector_alignment size * scalar.width
own_alignment (Matrix columns rows scalar) = vector_alignment rows * scalar.width
own_alignment (CooperativeMatrix columns rows scalar role) = cooperative_count rows * scalar.width
own_alignment _ = 1

abbrev mutual
  -- the alignment of a type: that of an array is its base's, that of a struct the greatest of its members', at least 1
  pub alignment_of : TypeTree → ℕ
  alignment_of (Node (Array base size stride) (OneTree tree trees)) = alignment_of tree
  alignment_of (Node (Struct span members) trees) = greatest_of trees
  alignment_of (Node inner trees) = own_alignment inner

  pub greatest_of : TypeTrees → ℕ
  greatest_of NoTree = 1
  greatest_of (OneTree tree trees) = max (alignment_of tree) (greatest_of trees)

-- the error for a width that isn't a power of two
abbrev pub width_fault : s.Scalar → Option LayoutErrorInner
width_fault scalar = if is_power_of_two scalar.width then None else Some NonPowerOfTwoWidth

-- the error for the first member, counted from a first one on, whose type isn't earlier than the position
abbrev pub member_fault : ℕ → ℕ → List StructMember → Option LayoutErrorInner
member_fault position index [] = None
member_fault position index (member ∷ members) =
    if nat_lt member.ty position then member_fault position (index + 1) members else Some
    (InvalidStructMemberType (min index (2 ^ 32 - 1)) member.ty)

-- the error for a width that the alignment reads and that isn't a power of two, or for a component whose type isn't earlier
abbrev pub part_fault : ℕ → TypeInner → Option LayoutErrorInner
part_fault position (Scalar scalar) = width_fault scalar
part_fault position (Atomic scalar) = width_fault scalar
part_fault position (Vector size scalar) = width_fault scalar
part_fault position (Matrix columns rows scalar) = width_fault scalar
part_fault position (CooperativeMatrix columns rows scalar role) = width_fault scalar
part_fault position (Array base size stride) = if nat_lt base position then None else Some (InvalidArrayElementType base)
part_fault position (Struct span members) = member_fault position 0 members
part_fault position _ = None

abbrev pub sized_fault : Option ℕ → ℕ → TypeInner → Option LayoutErrorInner
sized_fault None position inner = Some TooLarge
sized_fault (Some size) position inner = part_fault position inner

-- the stride of an array of types of this layout is below 2 ^ 32
abbrev pub HasStride : TypeLayout → Type 0
HasStride layout = next_multiple_of layout.size layout.alignment < 2 ^ 32

module _ (ctx : GlobalCtx) where
  -- the size of a type in bytes, unless a count, a product or a span is above the limit
  abbrev pub size_of_type : TypeInner → Option ℕ
  size_of_type (Scalar scalar) = Some scalar.width
  size_of_type (Atomic scalar) = Some scalar.width
  size_of_type (Vector size scalar) = Some (vector_count size * scalar.width)
  size_of_type (Matrix columns rows scalar) = Some (vector_alignment rows * scalar.width * vector_count columns)
  size_of_type (CooperativeMatrix columns rows scalar role) = Some (cooperative_count columns * cooperative_count rows * scalar.width)
  size_of_type (Pointer base space) = Some 4
  size_of_type (ValuePointer size scalar space) = Some 4
  size_of_type (Array base size stride) = array_bytes (array_count ctx size) stride
  size_of_type (Struct span members) = limited span
  size_of_type (Image dim arrayed class) = Some 0
  size_of_type (Sampler comparison) = Some 0
  size_of_type (AccelerationStructure vertex_return) = Some 0
  size_of_type (RayQuery vertex_return) = Some 0
  size_of_type (BindingArray base size) = Some 0

  -- the layout of a type, by its tree
  abbrev pub layout_of : TypeTree → TypeLayout
  layout_of tree = record { size = unwrap_or (size_of_type (root_of tree)) 0; alignment = alignment_of tree }

  -- the layout error of a type at a position; the lack of a size is checked first
  abbrev pub layout_fault : ℕ → TypeInner → Option LayoutErrorInner
  layout_fault position inner = sized_fault (size_of_type inner) position inner

  -- the layout error of the type at a position, if there is such a type and it has one
  abbrev pub fault_at : ℕ → Option (Option LayoutErrorInner)
  fault_at position = option_map (λ (type : «Type»). layout_fault position type.inner) (slice_get ctx.types.now position)

  -- the types at the positions from a first one up to an end exist and have no error
  abbrev pub AreFaultless : ℕ → ℕ → Type 0
  AreFaultless first end = (position : ℕ) → first ≤ position → position < end → fault_at position ≡ Some None

  -- the layouts of all types
  abbrev pub layouts_of : List TypeLayout
  layouts_of = map (λ (type : «Type»). layout_of (tree_of ctx.types.now type.inner)) ctx.types.now

  -- the layouts are those of the first types, which have no error
  pub record AreFirstLayouts (layouts : List TypeLayout) : Type 0 where
    pub first : layouts ≡ take (length layouts) layouts_of
    pub faultless : AreFaultless 0 (length layouts)

  -- an error names the type at the position and its layout error; when out of memory, that type has none
  abbrev pub IsRefusalAt : ℕ → UpdateError → Type 0
  IsRefusalAt position (Layout error) = (error.ty ≡ position) × (fault_at position ≡ Some (Some error.inner))
  IsRefusalAt position OutOfMemory = fault_at position ≡ Some None
