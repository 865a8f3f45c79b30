-- Types as WGSL spells them.
use Rattle.std.specs.Prelude.{◌++◌, ℕ, zero, suc, List, [], Option, Some, None, true, false, codes, slice_get}
use Rattle.std.specs.Fmt.{decimal}
use Rattle.shader_ir.specs.declared.«module».Module.{Module}
use Rattle.shader_ir.specs.declared.types.AddressSpace.{AddressSpace}
use Rattle.shader_ir.specs.declared.types.AddressSpace.TheVariants as spaces
use Rattle.shader_ir.specs.declared.types.ArraySize.{ArraySize}
use Rattle.shader_ir.specs.declared.types.ArraySize.TheVariants as sizes
use Rattle.shader_ir.specs.declared.types.«Type».{«Type»}
use Rattle.shader_ir.specs.declared.types.TypeInner.{TypeInner}
use Rattle.shader_ir.specs.declared.types.TypeInner.TheVariants as inner
use Rattle.report_names.specs.Images.{access_word, image_text}
use Rattle.report_names.specs.Items.{item_text, number_text, override_text}
use Rattle.report_names.specs.Scalars.{cooperative_text, matrix_text, scalar_text, vector_text}
use Rattle.report_names.specs.declared.items.ItemKind.TheVariants as kinds

abbrev pub space_word : AddressSpace → List ℕ
space_word spaces.IncomingRayPayload = codes "incoming_ray_payload"
space_word spaces.RayPayload = codes "ray_payload"
space_word spaces.TaskPayload = codes "task_payload"
space_word spaces.Immediate = codes "immediate"
space_word spaces.Handle = codes "handle"
space_word (spaces.Storage access) = codes "storage"
space_word spaces.Uniform = codes "uniform"
space_word spaces.WorkGroup = codes "workgroup"
space_word spaces.Private = codes "private"
space_word spaces.Function = codes "function"

-- the access mode of the storage address space, after a comma
abbrev pub access_part : AddressSpace → List ℕ
access_part (spaces.Storage access) = codes ", " ++ access_word access
access_part _ = []

abbrev pub pointer_text : List ℕ → AddressSpace → List ℕ
pointer_text base space = codes "ptr<" ++ (space_word space ++ (codes ", " ++ (base ++ (access_part space ++ codes ">"))))

-- the number of elements after a comma, if it is known before the shader runs
abbrev pub size_text : Module → ArraySize → List ℕ
size_text m (sizes.Constant count) = codes ", " ++ decimal count
size_text m (sizes.Pending i) = codes ", " ++ override_text m i
size_text m sizes.Dynamic = []

-- a type of scalars, or of a pointer to them; another type by its number
abbrev pub plain_text : TypeInner → ℕ → List ℕ
plain_text (inner.Scalar scalar) i = scalar_text scalar
plain_text (inner.Vector size scalar) i = vector_text size scalar
plain_text (inner.Matrix columns rows scalar) i = matrix_text columns rows scalar
plain_text (inner.CooperativeMatrix columns rows scalar role) i = cooperative_text columns rows scalar role
plain_text (inner.Atomic scalar) i = codes "atomic<" ++ scalar_text scalar ++ codes ">"
plain_text (inner.ValuePointer None scalar space) i = pointer_text (scalar_text scalar) space
plain_text (inner.ValuePointer (Some size) scalar space) i = pointer_text (vector_text size scalar) space
plain_text _ i = number_text kinds.«Type» i

-- a type that contains no other type of the module
abbrev pub resource_text : TypeInner → ℕ → List ℕ
resource_text (inner.Image dim arrayed class) i = image_text dim arrayed class
resource_text (inner.Sampler false) i = codes "sampler"
resource_text (inner.Sampler true) i = codes "sampler_comparison"
resource_text (inner.AccelerationStructure false) i = codes "acceleration_structure"
resource_text (inner.AccelerationStructure true) i = codes "acceleration_structure<vertex_return>"
resource_text (inner.RayQuery false) i = codes "ray_query"
resource_text (inner.RayQuery true) i = codes "ray_query<vertex_return>"
resource_text ty i = plain_text ty i

-- a type, with the texts of the types inside
abbrev pub inner_text : (ℕ → List ℕ) → Module → ℕ → Option (List ℕ) → TypeInner → List ℕ
inner_text base_text m i name (inner.Struct span members) = item_text kinds.Struct name i
inner_text base_text m i name (inner.Array base size stride) = codes "array<" ++ (base_text base ++ (size_text m size ++ codes ">"))
inner_text base_text m i name (inner.BindingArray base size) =
    codes "binding_array<" ++ (base_text base ++ (size_text m size ++ codes ">"))
inner_text base_text m i name (inner.Pointer base space) = pointer_text (base_text base) space
inner_text base_text m i name ty = resource_text ty i

abbrev pub found_text : (ℕ → List ℕ) → Module → ℕ → Option «Type» → List ℕ
found_text base_text m i None = number_text kinds.«Type» i
found_text base_text m i (Some ty) = inner_text base_text m i ty.name ty.inner

-- so many types within one another are shown, and then three dots
abbrev pub type_text : Module → ℕ → ℕ → List ℕ
type_text m zero i = codes "..."
type_text m (suc nested) i = found_text (λ base. type_text m nested base) m i (slice_get m.types i)

-- a type outside of the module has neither a name nor a number
abbrev pub unlisted_text : Module → ℕ → TypeInner → List ℕ
unlisted_text m nested ty = inner_text (λ base. type_text m nested base) m 0 None ty
