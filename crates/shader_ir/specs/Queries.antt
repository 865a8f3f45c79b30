-- Queries that read a type itself, or the type that it names.
use Rattle.std.specs.Prelude.{ℕ, ◌^◌, ◌-◌, ◌<◌, Bool, true, false, List, Option, Some, None, length, min, slice_get, option_map}
use Rattle.shader_ir.specs.declared.scalar.ScalarKind.{ScalarKind}
use Rattle.shader_ir.specs.declared.scalar.Scalar as scalars
use Rattle.shader_ir.specs.declared.scalar.VectorSize.{VectorSize}
use Rattle.shader_ir.specs.declared.types.«Type».{«Type»}
use Rattle.shader_ir.specs.declared.types.AddressSpace.{AddressSpace}
use Rattle.shader_ir.specs.declared.types.ArraySize.TheVariants.{Constant}
use Rattle.shader_ir.specs.declared.types.StructMember.{StructMember}
use Rattle.shader_ir.specs.declared.types.TypeInner.{TypeInner}
use Rattle.shader_ir.specs.declared.types.TypeInner.TheVariants.{Scalar, Vector, Matrix, CooperativeMatrix, Atomic}
use Rattle.shader_ir.specs.declared.types.TypeInner.TheVariants.{Pointer, ValuePointer, Array, Struct}
use Rattle.shader_ir.specs.declared.proc.type_resolution.TypeResolution.{TypeResolution}
use Rattle.shader_ir.specs.declared.proc.type_resolution.TypeResolution.TheVariants.{Handle, Value}
use Rattle.shader_ir.specs.Alignments.{vector_count}

-- the scalar of a scalar, a vector or a matrix
abbrev pub scalar_of : TypeInner → Option scalars.Scalar
scalar_of (Scalar scalar) = Some scalar
scalar_of (Vector size scalar) = Some scalar
scalar_of (Matrix columns rows scalar) = Some scalar
scalar_of (CooperativeMatrix columns rows scalar role) = Some scalar
scalar_of _ = None

abbrev pub kind_of : TypeInner → Option ScalarKind
kind_of inner = option_map (λ (scalar : scalars.Scalar). scalar.kind) (scalar_of inner)

-- the width of the scalar in bytes
abbrev pub width_of : TypeInner → Option ℕ
width_of inner = option_map (λ (scalar : scalars.Scalar). scalar.width) (scalar_of inner)

-- the scalar of a scalar or a vector, and the size of a vector
abbrev pub vector_size_and_scalar : TypeInner → Option (Option VectorSize × scalars.Scalar)
vector_size_and_scalar (Scalar scalar) = Some (None, scalar)
vector_size_and_scalar (Vector size scalar) = Some (Some size, scalar)
vector_size_and_scalar _ = None

abbrev pub pointer_space : TypeInner → Option AddressSpace
pointer_space (Pointer base space) = Some space
pointer_space (ValuePointer size scalar space) = Some space
pointer_space _ = None

-- the pointee of a value pointer
abbrev pub pointed_value : Option VectorSize → scalars.Scalar → TypeInner
pointed_value None scalar = Scalar scalar
pointed_value (Some size) scalar = Vector size scalar

-- the pointee of a pointer: a type of the arena by its handle, a scalar or a vector by value
abbrev pub pointer_base : TypeInner → Option TypeResolution
pointer_base (Pointer base space) = Some (Handle base)
pointer_base (ValuePointer size scalar space) = Some (Value (pointed_value size scalar))
pointer_base _ = None

abbrev pub is_atomic : TypeInner → Bool
is_atomic (Atomic scalar) = true
is_atomic _ = false

abbrev pub is_found_atomic : Option «Type» → Bool
is_found_atomic (Some type) = is_atomic type.inner
is_found_atomic None = false

-- whether the type is a pointer to an atomic of the arena
abbrev pub is_atomic_pointer : List «Type» → TypeInner → Bool
is_atomic_pointer types (Pointer base space) = is_found_atomic (slice_get types base)
is_atomic_pointer types _ = false

-- the number of components of a type that an index may select, if it is known; at most 2 ^ 32 - 1
abbrev pub component_count : TypeInner → Option ℕ
component_count (Vector size scalar) = Some (vector_count size)
component_count (Matrix columns rows scalar) = Some (vector_count columns)
component_count (Array base (Constant count) stride) = Some count
component_count (Struct span members) = Some (min (length members) (2 ^ 32 - 1))
component_count _ = None

-- the struct has a member at the index
abbrev pub HasMember : TypeInner → ℕ → Type 0
HasMember (Struct span members) index = index < length members
HasMember _ index = Unit {0}

abbrev pub member_type : Option StructMember → Option TypeResolution
member_type (Some member) = Some (Handle member.ty)
member_type None = None

-- the type of the component at an index; only for a struct does it depend on the index
abbrev pub component_type : TypeInner → ℕ → Option TypeResolution
component_type (Vector size scalar) index = Some (Value (Scalar scalar))
component_type (Matrix columns rows scalar) index = Some (Value (Vector rows scalar))
component_type (Array base (Constant count) stride) index = Some (Handle base)
component_type (Struct span members) index = member_type (slice_get members index)
component_type _ index = None
