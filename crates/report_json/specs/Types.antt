-- Types as JSON, as serde's derives print them.
use Rattle.std.specs.Prelude.{List, [], ◌∷◌, ◌++◌, codes}
use Rattle.json.specs.Token.{Token, boolean, key, null}
use Rattle.shader_ir.specs.declared.image.ImageClass.{ImageClass}
use Rattle.shader_ir.specs.declared.image.ImageClass.TheVariants as classes
use Rattle.shader_ir.specs.declared.proc.type_resolution.TypeResolution.{TypeResolution}
use Rattle.shader_ir.specs.declared.proc.type_resolution.TypeResolution.TheVariants as resolutions
use Rattle.shader_ir.specs.declared.scalar.Scalar.{Scalar}
use Rattle.shader_ir.specs.declared.types.AddressSpace.{AddressSpace}
use Rattle.shader_ir.specs.declared.types.AddressSpace.TheVariants as spaces
use Rattle.shader_ir.specs.declared.types.ArraySize.{ArraySize}
use Rattle.shader_ir.specs.declared.types.ArraySize.TheVariants as counts
use Rattle.shader_ir.specs.declared.types.TypeInner.{TypeInner}
use Rattle.shader_ir.specs.declared.types.TypeInner.TheVariants as types
use Rattle.report_json.specs.Flags.{access_text}
use Rattle.report_json.specs.Names.{cooperative_name, dimension_name, format_name, kind_name, role_name, size_name}
use Rattle.report_json.specs.Tokens.{fields, number_tokens, object, optional_tokens, text_tokens, variant}

unfoldable pub scalar_tokens : Scalar → List Token
scalar_tokens scalar =
    object (key (codes "kind") ∷ (text_tokens (kind_name scalar.kind)
    ++ key (codes "width") ∷ number_tokens scalar.width))

unfoldable pub space_tokens : AddressSpace → List Token
space_tokens spaces.Function = text_tokens (codes "Function")
space_tokens spaces.Private = text_tokens (codes "Private")
space_tokens spaces.WorkGroup = text_tokens (codes "WorkGroup")
space_tokens spaces.Uniform = text_tokens (codes "Uniform")
space_tokens (spaces.Storage access) = fields (codes "Storage") (key (codes "access") ∷ text_tokens (access_text access))
space_tokens spaces.Handle = text_tokens (codes "Handle")
space_tokens spaces.Immediate = text_tokens (codes "Immediate")
space_tokens spaces.TaskPayload = text_tokens (codes "TaskPayload")
space_tokens spaces.RayPayload = text_tokens (codes "RayPayload")
space_tokens spaces.IncomingRayPayload = text_tokens (codes "IncomingRayPayload")

unfoldable pub count_tokens : ArraySize → List Token
count_tokens (counts.Constant count) = variant (codes "Constant") (number_tokens count)
count_tokens (counts.Pending handle) = variant (codes "Pending") (number_tokens handle)
count_tokens counts.Dynamic = text_tokens (codes "Dynamic")

unfoldable pub class_tokens : ImageClass → List Token
class_tokens (classes.Sampled kind multi) =
    fields (codes "Sampled") (key (codes "kind") ∷ (text_tokens (kind_name kind)
    ++ key (codes "multi") ∷ boolean multi ∷ []))
class_tokens (classes.Depth multi) = fields (codes "Depth") (key (codes "multi") ∷ boolean multi ∷ [])
class_tokens (classes.Storage format access) =
    fields (codes "Storage") (key (codes "format") ∷ (text_tokens (format_name format)
    ++ key (codes "access") ∷ text_tokens (access_text access)))
class_tokens classes.External = text_tokens (codes "External")

-- a resource type; a struct is null, because only a type given by a handle is a struct
unfoldable pub resource_tokens : TypeInner → List Token
resource_tokens (types.Image dim arrayed class) =
    fields (codes "Image") (key (codes "dim") ∷ (text_tokens (dimension_name dim)
    ++ key (codes "arrayed") ∷ boolean arrayed ∷ key (codes "class") ∷ class_tokens class))
resource_tokens (types.Sampler comparison) = fields (codes "Sampler") (key (codes "comparison") ∷ boolean comparison ∷ [])
resource_tokens (types.AccelerationStructure vertex_return) =
    fields (codes "AccelerationStructure") (key (codes "vertex_return") ∷ boolean vertex_return ∷ [])
resource_tokens (types.RayQuery vertex_return) = fields (codes "RayQuery") (key (codes "vertex_return") ∷ boolean vertex_return ∷ [])
resource_tokens _ = null ∷ []

-- a pointer, an array, or a resource type
unfoldable pub pointer_tokens : TypeInner → List Token
pointer_tokens (types.Pointer base space) =
    fields (codes "Pointer") (key (codes "base") ∷ (number_tokens base
    ++ key (codes "space") ∷ space_tokens space))
pointer_tokens (types.ValuePointer size scalar space) =
    fields (codes "ValuePointer") (key (codes "size") ∷ (optional_tokens (λ size. text_tokens (size_name size)) size
    ++ key (codes "scalar") ∷ (scalar_tokens scalar
    ++ key (codes "space") ∷ space_tokens space)))
pointer_tokens (types.Array base size stride) =
    fields (codes "Array") (key (codes "base") ∷ (number_tokens base
    ++ key (codes "size") ∷ (count_tokens size
    ++ key (codes "stride") ∷ number_tokens stride)))
pointer_tokens (types.BindingArray base size) =
    fields (codes "BindingArray") (key (codes "base") ∷ (number_tokens base
    ++ key (codes "size") ∷ count_tokens size))
pointer_tokens inner = resource_tokens inner

-- a matrix, or one of the types above
unfoldable pub matrix_tokens : TypeInner → List Token
matrix_tokens (types.Matrix columns rows scalar) =
    fields (codes "Matrix") (key (codes "columns") ∷ (text_tokens (size_name columns)
    ++ key (codes "rows") ∷ (text_tokens (size_name rows)
    ++ key (codes "scalar") ∷ scalar_tokens scalar)))
matrix_tokens (types.CooperativeMatrix columns rows scalar role) =
    fields (codes "CooperativeMatrix") (key (codes "columns") ∷ (text_tokens (cooperative_name columns)
    ++ key (codes "rows") ∷ (text_tokens (cooperative_name rows)
    ++ key (codes "scalar") ∷ (scalar_tokens scalar
    ++ key (codes "role") ∷ text_tokens (role_name role)))))
matrix_tokens inner = pointer_tokens inner

-- a type without its name
unfoldable pub inner_tokens : TypeInner → List Token
inner_tokens (types.Scalar scalar) = variant (codes "Scalar") (scalar_tokens scalar)
inner_tokens (types.Vector size scalar) =
    fields (codes "Vector") (key (codes "size") ∷ (text_tokens (size_name size)
    ++ key (codes "scalar") ∷ scalar_tokens scalar))
inner_tokens (types.Atomic scalar) = variant (codes "Atomic") (scalar_tokens scalar)
inner_tokens inner = matrix_tokens inner

unfoldable pub resolution_tokens : TypeResolution → List Token
resolution_tokens (resolutions.Handle handle) = variant (codes "Handle") (number_tokens handle)
resolution_tokens (resolutions.Value inner) = variant (codes "Value") (inner_tokens inner)
