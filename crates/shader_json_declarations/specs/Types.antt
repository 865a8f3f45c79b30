-- Types, and the bindings of arguments, results and members, in the JSON of modules.
use Rattle.std.specs.Prelude.{ℕ, List, Option, codes}
use Rattle.json.specs.Json.{Json, Members}
use Rattle.shader_ir.specs.declared.binding.Binding.{Binding}
use Rattle.shader_ir.specs.declared.binding.Binding.TheVariants as bindings
use Rattle.shader_ir.specs.declared.types.AddressSpace.{AddressSpace}
use Rattle.shader_ir.specs.declared.types.AddressSpace.TheVariants as spaces
use Rattle.shader_ir.specs.declared.types.ArraySize.{ArraySize}
use Rattle.shader_ir.specs.declared.types.ArraySize.TheVariants as lengths
use Rattle.shader_ir.specs.declared.types.StructMember.{StructMember}
use Rattle.shader_ir.specs.declared.types.Type.{«Type»}
use Rattle.shader_ir.specs.declared.types.TypeInner.{TypeInner}
use Rattle.shader_ir.specs.declared.types.TypeInner.TheVariants as t
use Rattle.shader_json_reader.specs.Numbers.{IsCount, IsHandle, IsText, IsTruth, IsU32}
use Rattle.shader_json_reader.specs.Shapes.{AreDistinct, IsObject, IsVariant, IsUnit, IsNewtype, IsStruct, IsList, HasField, MayHave}
use Rattle.shader_json_reader.specs.Shapes.{MayHaveField}
use Rattle.shader_json_declarations.specs.Arenas.{IsArena}
use Rattle.shader_json_declarations.specs.BuiltIns.{IsBuiltIn}
use Rattle.shader_json_declarations.specs.Interface.{IsInterpolation, IsSampling}
use Rattle.shader_json_declarations.specs.Scalars.{IsScalar, IsSize, IsCooperativeSize, IsRole, IsDimension, IsClass, IsAccess}

abbrev pub IsSpaceOf : List ℕ → Option Json → AddressSpace → Type 0
IsSpaceOf name payload spaces.Function = IsUnit (codes "Function") name payload
IsSpaceOf name payload spaces.Private = IsUnit (codes "Private") name payload
IsSpaceOf name payload spaces.WorkGroup = IsUnit (codes "WorkGroup") name payload
IsSpaceOf name payload spaces.Uniform = IsUnit (codes "Uniform") name payload
IsSpaceOf name payload (spaces.Storage access) =
    IsStruct (codes "Storage") name payload (λ ms. HasField IsAccess (codes "access") ms access)
IsSpaceOf name payload spaces.Handle = IsUnit (codes "Handle") name payload
IsSpaceOf name payload spaces.Immediate = IsUnit (codes "Immediate") name payload
IsSpaceOf name payload spaces.TaskPayload = IsUnit (codes "TaskPayload") name payload
IsSpaceOf name payload spaces.RayPayload = IsUnit (codes "RayPayload") name payload
IsSpaceOf name payload spaces.IncomingRayPayload = IsUnit (codes "IncomingRayPayload") name payload

abbrev pub IsSpace : Json → AddressSpace → Type 0
IsSpace j space = IsVariant j (λ name payload. IsSpaceOf name payload space)

abbrev pub IsLengthOf : List ℕ → Option Json → ArraySize → Type 0
IsLengthOf name payload (lengths.Constant count) = IsNewtype (codes "Constant") name payload (λ j. IsCount j count)
IsLengthOf name payload (lengths.Pending handle) = IsNewtype (codes "Pending") name payload (λ j. IsHandle j handle)
IsLengthOf name payload lengths.Dynamic = IsUnit (codes "Dynamic") name payload

-- the size of an array
abbrev pub IsLength : Json → ArraySize → Type 0
IsLength j size = IsVariant j (λ name payload. IsLengthOf name payload size)

-- a location that stages share, with what the IR lacks of it
abbrev pub IsLocation : Members → ℕ → Type 0
IsLocation ms location =
    HasField IsU32 (codes "location") ms location × MayHave IsInterpolation (codes "interpolation") ms
    × MayHave IsSampling (codes "sampling") ms × MayHave IsU32 (codes "blend_src") ms

abbrev pub IsBindingOf : List ℕ → Option Json → Binding → Type 0
IsBindingOf name payload (bindings.BuiltIn builtin) = IsNewtype (codes "BuiltIn") name payload (λ j. IsBuiltIn j builtin)
IsBindingOf name payload (bindings.Location location) = IsStruct (codes "Location") name payload (λ ms. IsLocation ms location)

abbrev pub IsBinding : Json → Binding → Type 0
IsBinding j binding = IsVariant j (λ name payload. IsBindingOf name payload binding)

abbrev pub IsMember : Json → StructMember → Type 0
IsMember j m =
    IsObject j (λ ms. MayHaveField IsText (codes "name") ms m.name × HasField IsHandle (codes "ty") ms m.ty
    × MayHaveField IsBinding (codes "binding") ms m.binding × HasField IsU32 (codes "offset") ms m.offset)

abbrev pub IsInnerOf : List ℕ → Option Json → TypeInner → Type 0
IsInnerOf name payload (t.Scalar scalar) = IsNewtype (codes "Scalar") name payload (λ j. IsScalar j scalar)
IsInnerOf name payload (t.Vector size scalar) = IsStruct (codes "Vector") name payload
    (λ ms. HasField IsSize (codes "size") ms size × HasField IsScalar (codes "scalar") ms scalar)
IsInnerOf name payload (t.Matrix columns rows scalar) = IsStruct (codes "Matrix") name payload
    (λ ms. HasField IsSize (codes "columns") ms columns × HasField IsSize (codes "rows") ms rows
    × HasField IsScalar (codes "scalar") ms scalar)
IsInnerOf name payload (t.CooperativeMatrix columns rows scalar role) = IsStruct (codes "CooperativeMatrix") name payload
    (λ ms. HasField IsCooperativeSize (codes "columns") ms columns × HasField IsCooperativeSize (codes "rows") ms rows
    × HasField IsScalar (codes "scalar") ms scalar × HasField IsRole (codes "role") ms role)
IsInnerOf name payload (t.Atomic scalar) = IsNewtype (codes "Atomic") name payload (λ j. IsScalar j scalar)
IsInnerOf name payload (t.Pointer base space) = IsStruct (codes "Pointer") name payload
    (λ ms. HasField IsHandle (codes "base") ms base × HasField IsSpace (codes "space") ms space)
IsInnerOf name payload (t.ValuePointer size scalar space) = IsStruct (codes "ValuePointer") name payload
    (λ ms. MayHaveField IsSize (codes "size") ms size × HasField IsScalar (codes "scalar") ms scalar
    × HasField IsSpace (codes "space") ms space)
IsInnerOf name payload (t.Array base size stride) = IsStruct (codes "Array") name payload
    (λ ms. HasField IsHandle (codes "base") ms base × HasField IsLength (codes "size") ms size
    × HasField IsU32 (codes "stride") ms stride)
IsInnerOf name payload (t.Struct span members) = IsStruct (codes "Struct") name payload
    (λ ms. HasField (IsList IsMember) (codes "members") ms members × HasField IsU32 (codes "span") ms span)
IsInnerOf name payload (t.Image dim arrayed class) = IsStruct (codes "Image") name payload
    (λ ms. HasField IsDimension (codes "dim") ms dim × HasField IsTruth (codes "arrayed") ms arrayed
    × HasField IsClass (codes "class") ms class)
IsInnerOf name payload (t.Sampler comparison) =
    IsStruct (codes "Sampler") name payload (λ ms. HasField IsTruth (codes "comparison") ms comparison)
IsInnerOf name payload (t.AccelerationStructure vertex_return) = IsStruct (codes "AccelerationStructure") name payload
    (λ ms. HasField IsTruth (codes "vertex_return") ms vertex_return)
IsInnerOf name payload (t.RayQuery vertex_return) = IsStruct (codes "RayQuery") name payload
    (λ ms. HasField IsTruth (codes "vertex_return") ms vertex_return)
IsInnerOf name payload (t.BindingArray base size) = IsStruct (codes "BindingArray") name payload
    (λ ms. HasField IsHandle (codes "base") ms base × HasField IsLength (codes "size") ms size)

abbrev pub IsInner : Json → TypeInner → Type 0
IsInner j inner = IsVariant j (λ name payload. IsInnerOf name payload inner)

abbrev pub IsType : Json → «Type» → Type 0
IsType j ty = IsObject j (λ ms. MayHaveField IsText (codes "name") ms ty.name × HasField IsInner (codes "inner") ms ty.inner)

-- the types of a module, which differ
abbrev pub AreTypes : Json → List «Type» → Type 0
AreTypes j types = IsArena IsType j types × AreDistinct types
