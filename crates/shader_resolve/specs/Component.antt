-- Components of types.
use Rattle.std.specs.Prelude.{ℕ, Bool, is_some, List, Option, Some, None, Result, Ok, Err, slice_get, nat_lt, if◌then◌else◌}
use Rattle.shader_ir.specs.declared.types.«Type».{«Type»}
use Rattle.shader_ir.specs.declared.types.StructMember.{StructMember}
use Rattle.shader_ir.specs.declared.types.AddressSpace.{AddressSpace}
use Rattle.shader_ir.specs.declared.types.TypeInner.{TypeInner}
use Rattle.shader_ir.specs.declared.types.TypeInner.TheVariants as type
use Rattle.shader_ir.specs.declared.proc.type_resolution.TypeResolution.{TypeResolution}
use Rattle.shader_ir.specs.declared.proc.type_resolution.TypeResolution.TheVariants.{Handle, Value}
use Rattle.shader_ir.specs.Alignments.{vector_count}
use Rattle.shader_ir.specs.Key.{found_inner}
use Rattle.shader_resolve.specs.declared.resolve.access.Component.{Component}
use Rattle.shader_resolve.specs.declared.resolve.access.Component.TheVariants as component_kind
use Rattle.shader_resolve.specs.declared.resolve.access.BadIndex.{BadIndex}
use Rattle.shader_resolve.specs.declared.resolve.access.BadIndex.TheVariants.{PastEnd, NotIndexable}
use Rattle.shader_resolve.specs.Outcome.{Refusal, NoSuchHandle, OutOfBoundsIndex, InvalidAccess, InvalidSubAccess, Outcome, Given, Refused}

-- the component, if the index is below the count; a computed index isn't tested
abbrev pub checked : Option ℕ → ℕ → Component → Result Component BadIndex
checked None count component = Ok component
checked (Some index) count component = if nat_lt index count then Ok component else Err (PastEnd index)

abbrev pub member_component : ℕ → Option StructMember → Result Component BadIndex
member_component index (Some member) = Ok (component_kind.Type member.ty)
member_component index None = Err (PastEnd index)

-- the component that an index selects in a struct
abbrev pub indexed_member : Option ℕ → List StructMember → Result Component BadIndex
indexed_member (Some index) members = member_component index (slice_get members index)
indexed_member None members = Err NotIndexable

-- the component that an index selects; a computed index, None here, selects no member
abbrev pub component : Option ℕ → TypeInner → Result Component BadIndex
component index (type.Vector size scalar) = checked index (vector_count size) (component_kind.Scalar scalar)
component index (type.Matrix columns rows scalar) = checked index (vector_count columns) (component_kind.Vector rows scalar)
component index (type.Array base size stride) = Ok (component_kind.Type base)
component index (type.BindingArray base size) = Ok (component_kind.Type base)
component index (type.Struct span members) = indexed_member index members
component index _ = Err NotIndexable

-- a component by value
abbrev pub component_value : Component → TypeResolution
component_value (component_kind.Scalar scalar) = Value (type.Scalar scalar)
component_value (component_kind.Vector size scalar) = Value (type.Vector size scalar)
component_value (component_kind.Type handle) = Handle handle

-- a pointer to a component
abbrev pub component_pointer : AddressSpace → Component → TypeInner
component_pointer space (component_kind.Scalar scalar) = type.ValuePointer None scalar space
component_pointer space (component_kind.Vector size scalar) = type.ValuePointer (Some size) scalar space
component_pointer space (component_kind.Type handle) = type.Pointer handle space

abbrev pub bad_index_refusal : ℕ → Bool → BadIndex → Refusal
bad_index_refusal base indexed (PastEnd index) = OutOfBoundsIndex base index
bad_index_refusal base indexed NotIndexable = InvalidAccess base indexed

-- the outcome of an access that selected a component or none
abbrev pub component_outcome : ℕ → Refusal → (Component → TypeResolution) → Result Component BadIndex → Outcome
component_outcome base refusal answer (Ok component) = Given (answer component)
component_outcome base refusal answer (Err (PastEnd index)) = Refused (OutOfBoundsIndex base index)
component_outcome base refusal answer (Err NotIndexable) = Refused refusal

-- the outcome of an access into a pointer's type
abbrev pub pointed_outcome : ℕ → Option ℕ → ℕ → AddressSpace → Option TypeInner → Outcome
pointed_outcome base index pointed space (Some inner) =
    component_outcome base (InvalidSubAccess pointed (is_some index)) (λ reached. Value (component_pointer space reached))
    (component index inner)
pointed_outcome base index pointed space None = Refused NoSuchHandle

-- the outcome of an access: components of values, and pointers to components of pointees
abbrev pub lifted : List «Type» → ℕ → Option ℕ → TypeInner → Outcome
lifted types base index (type.Pointer pointed space) = pointed_outcome base index pointed space (found_inner (slice_get types pointed))
lifted types base index (type.ValuePointer (Some size) scalar space) =
    component_outcome base (InvalidAccess base (is_some index)) (λ reached. Value (component_pointer space reached))
    (component index (type.Vector size scalar))
lifted types base index inner = component_outcome base (InvalidAccess base (is_some index)) component_value (component index inner)
