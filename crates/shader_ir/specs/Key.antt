-- Keys, which define equality of types.
use Rattle.std.specs.Prelude.{◌≡◌, ℕ, ◌<◌, List, length, Option, Some, None, slice_get, IsSomeAnd}
use Rattle.shader_ir.specs.declared.types.«Type».{«Type»}
use Rattle.shader_ir.specs.declared.types.AddressSpace.{AddressSpace}
use Rattle.shader_ir.specs.declared.types.TypeInner.{TypeInner}
use Rattle.shader_ir.specs.declared.types.TypeInner.TheVariants.{Scalar, Vector, Pointer, ValuePointer, Struct}
use Rattle.shader_ir.specs.declared.proc.type_resolution.TypeResolution.{TypeResolution}
use Rattle.shader_ir.specs.declared.proc.type_resolution.TypeResolution.TheVariants.{Handle, Value}
use Rattle.shader_ir.specs.TypeTree.{PointsBelow}

-- a struct is identified by its handle, any other type by its canonical form
pub data Key : Type 0 where
  StructKey : ℕ → Key
  InnerKey : TypeInner → Key

-- a pointer to a base of the given shape
abbrev pub pointer_to : ℕ → AddressSpace → TypeInner → TypeInner
pointer_to base space (Scalar scalar) = ValuePointer None scalar space
pointer_to base space (Vector size scalar) = ValuePointer (Some size) scalar space
pointer_to base space _ = Pointer base space

-- a pointer to the type at a handle
abbrev pub pointer_at : ℕ → AddressSpace → Option «Type» → TypeInner
pointer_at base space (Some type) = pointer_to base space type.inner
pointer_at base space None = Pointer base space

-- the type in canonical form: a pointer to a scalar or a vector becomes a value pointer
abbrev pub canonical : List «Type» → TypeInner → TypeInner
canonical types (Pointer base space) = pointer_at base space (slice_get types base)
canonical types inner = inner

abbrev pub IsScalarOrVector : TypeInner → Type 0
IsScalarOrVector (Scalar scalar) = Unit {0}
IsScalarOrVector (Vector size scalar) = Unit {0}
IsScalarOrVector _ = ⊥

-- the type is a pointer to a scalar or a vector
abbrev pub PointsToScalarOrVector : List «Type» → TypeInner → Type 0
PointsToScalarOrVector types (Pointer base space) = IsSomeAnd (slice_get types base) (λ (type : «Type»). IsScalarOrVector type.inner)
PointsToScalarOrVector types _ = ⊥

-- the key of the type at a handle, which has the given shape
abbrev pub shape_key : List «Type» → ℕ → TypeInner → Key
shape_key types handle (Struct span members) = StructKey handle
shape_key types handle inner = InnerKey (canonical types inner)

abbrev pub found_key : List «Type» → ℕ → Option «Type» → Key
found_key types handle (Some type) = shape_key types handle type.inner
found_key types handle None = StructKey handle

-- the key of the type at a handle
abbrev pub handle_key : List «Type» → ℕ → Key
handle_key types handle = found_key types handle (slice_get types handle)

abbrev pub key_of : List «Type» → TypeResolution → Key
key_of types (Handle handle) = handle_key types handle
key_of types (Value inner) = InnerKey (canonical types inner)

-- the type isn't a struct
abbrev pub IsNoStruct : TypeInner → Type 0
IsNoStruct (Struct span members) = ⊥
IsNoStruct _ = Unit {0}

-- the type handles of the resolution are in range
abbrev pub PointsInRange : List «Type» → TypeResolution → Type 0
PointsInRange types (Handle handle) = handle < length types
PointsInRange types (Value inner) = PointsBelow (length types) inner

-- the handles of the resolution are in range, and no type outside the arena is a struct
abbrev pub FitsTypes : List «Type» → TypeResolution → Type 0
FitsTypes types (Handle handle) = handle < length types
FitsTypes types (Value inner) = PointsBelow (length types) inner × IsNoStruct inner

-- the handle is in range, if the resolution is one
abbrev pub IsLendable : List «Type» → TypeResolution → Type 0
IsLendable types (Handle handle) = handle < length types
IsLendable types (Value inner) = Unit {0}

-- the resolution contains no list of members
abbrev pub HoldsNoMembers : TypeResolution → Type 0
HoldsNoMembers (Handle handle) = Unit {0}
HoldsNoMembers (Value inner) = IsNoStruct inner

-- the handle of a resolution, if it is one
abbrev pub handle_of : TypeResolution → Option ℕ
handle_of (Handle handle) = Some handle
handle_of (Value inner) = None

-- the shape of the type at a handle, if any
abbrev pub found_inner : Option «Type» → Option TypeInner
found_inner (Some type) = Some type.inner
found_inner None = None

-- the shape of a resolution's type
abbrev pub inner_of : List «Type» → TypeResolution → Option TypeInner
inner_of types (Handle handle) = found_inner (slice_get types handle)
inner_of types (Value inner) = Some inner

-- both are the same handle
abbrev pub IsSameHandle : TypeResolution → TypeResolution → Type 0
IsSameHandle (Handle handle) (Handle given) = handle ≡ given
IsSameHandle _ _ = ⊥
