-- Conversion between arrays, and between types that aren't arrays.
use Rattle.std.proofs.Common.{◌≡◌, ◌∙◌, ap, refl, ℕ, List, Some, None, slice_get, if◌then◌else◌, true, false, ◌&&◌}
use Rattle.shader_ir.specs.declared.types.«Type».{«Type»}
use Rattle.shader_ir.specs.declared.types.TypeInner.{TypeInner}
use Rattle.shader_ir.specs.declared.types.TypeInner.TheVariants.{Array}
use Rattle.shader_ir.specs.declared.types.ArraySize.{ArraySize}
use Rattle.shader_ir.specs.Conversion.{Shape, shape_of, shape_of_base, leaf_of, same_array_size, same_shape, scalar_conversion, conversion}
use Rattle.shader_ir.specs.TypeTree.{IsBackward, TypeTree, Node, NoTree, tree_of}
use Rattle.shader_ir.proofs.TypeTreeLemmas.{tree_of-base}

module _ (types : List «Type») (backward : IsBackward types) where
  -- arrays of equal size convert as their bases do
  pub conversion-Array : (base : ℕ) (size : ArraySize) (stride : ℕ) (type : «Type») (goal_base : ℕ) (goal_size : ArraySize)
      (goal_stride : ℕ) (goal_type : «Type»)
      → slice_get types base ≡ Some type → slice_get types goal_base ≡ Some goal_type → same_array_size size goal_size ≡ true
      → conversion (tree_of types (Array base size stride)) (tree_of types (Array goal_base goal_size goal_stride))
      ≡ conversion (tree_of types type.inner) (tree_of types goal_type.inner)
  conversion-Array base size stride type goal_base goal_size goal_stride goal_type at goal_at same =
      (λ i. conversion (tree_of-base types backward (Array base size stride) base type refl at i)
      (tree_of-base types backward (Array goal_base goal_size goal_stride) goal_base goal_type refl goal_at i))
      ∙ ap (λ b. if b && same_shape (shape_of (tree_of types type.inner)) (shape_of (tree_of types goal_type.inner)) then scalar_conversion
      (leaf_of (tree_of types type.inner)) (leaf_of (tree_of types goal_type.inner)) else None) same

-- a type that isn't an array converts by its own scalars
pub conversion-leaf : (types : List «Type») (inner goal : TypeInner) →
    ((base : ℕ) (size : ArraySize) (stride : ℕ) → inner ≡ Array base size stride → ⊥)
    → conversion (tree_of types inner) (tree_of types goal) ≡ conversion (Node inner NoTree) (Node goal NoTree)
conversion-leaf types (Array base size stride) goal h = absurd (h base size stride refl)
conversion-leaf types inner (Array base size stride) h = refl
conversion-leaf types inner goal h = refl

-- an array converts to no other type
pub conversion-other : (types : List «Type») (base : ℕ) (size : ArraySize) (stride : ℕ) (goal : TypeInner) →
    ((base : ℕ) (size : ArraySize) (stride : ℕ) → goal ≡ Array base size stride → ⊥)
    → conversion (tree_of types (Array base size stride)) (tree_of types goal) ≡ None
conversion-other types base size stride (Array goal_base goal_size goal_stride) h = absurd (h goal_base goal_size goal_stride refl)
conversion-other types base size stride goal h = refl

-- arrays of unequal size do not convert
pub conversion-unequal : (types : List «Type») (base : ℕ) (size : ArraySize) (stride goal_base : ℕ) (goal_size : ArraySize)
    (goal_stride : ℕ) → same_array_size size goal_size ≡ false
    → conversion (tree_of types (Array base size stride)) (tree_of types (Array goal_base goal_size goal_stride)) ≡ None
conversion-unequal types base size stride goal_base goal_size goal_stride h =
    let from = tree_of types (Array base size stride) in
    let to = tree_of types (Array goal_base goal_size goal_stride) in
    ap (λ b. if b && same_shape (base_shape from) (base_shape to) then scalar_conversion (leaf_of from) (leaf_of to) else None) h
  where
    base_shape : TypeTree → Shape
    base_shape (Node inner bases) = shape_of_base bases
