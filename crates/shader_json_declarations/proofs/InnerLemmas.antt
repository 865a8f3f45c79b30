-- What the payload of a type stands for, by the name of its variant.
use Rattle.std.proofs.Common.{◌≡◌, refl, subst, ℕ, Bool, List, Option, Some, codes}
use Rattle.json.specs.Json.{Json}
use Rattle.shader_ir.specs.declared.image.ImageClass.{ImageClass}
use Rattle.shader_ir.specs.declared.image.ImageDimension.{ImageDimension}
use Rattle.shader_ir.specs.declared.scalar.CooperativeRole.{CooperativeRole}
use Rattle.shader_ir.specs.declared.scalar.CooperativeSize.{CooperativeSize}
use Rattle.shader_ir.specs.declared.scalar.Scalar.{Scalar}
use Rattle.shader_ir.specs.declared.scalar.VectorSize.{VectorSize}
use Rattle.shader_ir.specs.declared.types.AddressSpace.{AddressSpace}
use Rattle.shader_ir.specs.declared.types.ArraySize.{ArraySize}
use Rattle.shader_ir.specs.declared.types.StructMember.{StructMember}
use Rattle.shader_ir.specs.declared.types.TypeInner.{TypeInner}
use Rattle.shader_ir.specs.declared.types.TypeInner.TheVariants as t
use Rattle.shader_json_reader.proofs.ShapeLemmas.{apart}
use Rattle.shader_json_reader.specs.Numbers.{IsHandle, IsTruth, IsU32}
use Rattle.shader_json_reader.specs.Shapes.{HasField, IsList, IsObject, MayHaveField}
use Rattle.shader_json_declarations.proofs.DeterminedTypes.{label_inner, labelled_inner}
use Rattle.shader_json_declarations.specs.Scalars.{IsClass, IsCooperativeSize, IsDimension, IsRole, IsScalar, IsSize}
use Rattle.shader_json_declarations.specs.Types.{IsInnerOf, IsLength, IsMember, IsSpace}

-- the same name
pub renamed : (name wanted : List ℕ) (k : Json) (x : TypeInner) → name ≡ wanted → IsInnerOf name (Some k) x → IsInnerOf wanted (Some k) x
renamed name wanted k x same u = subst (λ n. IsInnerOf n (Some k) x) same u

module _ {X : Type 0} (k : Json) where
  pub of_scalar : (x : TypeInner) → ((scalar : Scalar) → IsScalar k scalar → X) → IsInnerOf (codes "Scalar") (Some k) x → X
  of_scalar (t.Scalar scalar) f u = f scalar u.1
  of_scalar x f u = apart (codes "Scalar") (label_inner x) refl (labelled_inner (codes "Scalar") (Some k) x u)

  pub of_atomic : (x : TypeInner) → ((scalar : Scalar) → IsScalar k scalar → X) → IsInnerOf (codes "Atomic") (Some k) x → X
  of_atomic (t.Atomic scalar) f u = f scalar u.1
  of_atomic x f u = apart (codes "Atomic") (label_inner x) refl (labelled_inner (codes "Atomic") (Some k) x u)

  pub of_vector : (x : TypeInner) → ((p : VectorSize × Scalar) → IsObject k (λ ms. HasField IsSize (codes "size") ms p.0
      × HasField IsScalar (codes "scalar") ms p.1) → X) → IsInnerOf (codes "Vector") (Some k) x → X
  of_vector (t.Vector size scalar) f u = f (size, scalar) u.1
  of_vector x f u = apart (codes "Vector") (label_inner x) refl (labelled_inner (codes "Vector") (Some k) x u)

  pub of_matrix : (x : TypeInner) → ((p : VectorSize × VectorSize × Scalar) → IsObject k (λ ms. HasField IsSize (codes "columns") ms p.0
      × HasField IsSize (codes "rows") ms p.1 × HasField IsScalar (codes "scalar") ms p.2) → X) → IsInnerOf (codes "Matrix") (Some k) x → X
  of_matrix (t.Matrix columns rows scalar) f u = f (columns, rows, scalar) u.1
  of_matrix x f u = apart (codes "Matrix") (label_inner x) refl (labelled_inner (codes "Matrix") (Some k) x u)

  pub of_pointer : (x : TypeInner) → ((p : ℕ × AddressSpace) → IsObject k (λ ms. HasField IsHandle (codes "base") ms p.0
      × HasField IsSpace (codes "space") ms p.1) → X) → IsInnerOf (codes "Pointer") (Some k) x → X
  of_pointer (t.Pointer base space) f u = f (base, space) u.1
  of_pointer x f u = apart (codes "Pointer") (label_inner x) refl (labelled_inner (codes "Pointer") (Some k) x u)

  pub of_array : (x : TypeInner) → ((p : ℕ × ArraySize × ℕ) → IsObject k (λ ms. HasField IsHandle (codes "base") ms p.0
      × HasField IsLength (codes "size") ms p.1 × HasField IsU32 (codes "stride") ms p.2) → X) → IsInnerOf (codes "Array") (Some k) x → X
  of_array (t.Array base size stride) f u = f (base, size, stride) u.1
  of_array x f u = apart (codes "Array") (label_inner x) refl (labelled_inner (codes "Array") (Some k) x u)

  pub of_struct : (x : TypeInner) → ((p : List StructMember × ℕ) → IsObject k (λ ms. HasField (IsList IsMember) (codes "members") ms p.0
      × HasField IsU32 (codes "span") ms p.1) → X) → IsInnerOf (codes "Struct") (Some k) x → X
  of_struct (t.Struct span members) f u = f (members, span) u.1
  of_struct x f u = apart (codes "Struct") (label_inner x) refl (labelled_inner (codes "Struct") (Some k) x u)

  pub of_image : (x : TypeInner) → ((p : ImageDimension × Bool × ImageClass) → IsObject k (λ ms. HasField IsDimension (codes "dim") ms p.0
      × HasField IsTruth (codes "arrayed") ms p.1 × HasField IsClass (codes "class") ms p.2) → X) → IsInnerOf (codes "Image") (Some k) x → X
  of_image (t.Image dim arrayed class) f u = f (dim, arrayed, class) u.1
  of_image x f u = apart (codes "Image") (label_inner x) refl (labelled_inner (codes "Image") (Some k) x u)

  pub of_binding_array : (x : TypeInner) → ((p : ℕ × ArraySize) → IsObject k (λ ms. HasField IsHandle (codes "base") ms p.0
      × HasField IsLength (codes "size") ms p.1) → X) → IsInnerOf (codes "BindingArray") (Some k) x → X
  of_binding_array (t.BindingArray base size) f u = f (base, size) u.1
  of_binding_array x f u = apart (codes "BindingArray") (label_inner x) refl (labelled_inner (codes "BindingArray") (Some k) x u)

  pub of_sampler : (x : TypeInner) → ((truth : Bool) → IsObject k (λ ms. HasField IsTruth (codes "comparison") ms truth) → X)
      → IsInnerOf (codes "Sampler") (Some k) x → X
  of_sampler (t.Sampler comparison) f u = f comparison u.1
  of_sampler x f u = apart (codes "Sampler") (label_inner x) refl (labelled_inner (codes "Sampler") (Some k) x u)

  pub of_acceleration_structure : (x : TypeInner)
      → ((truth : Bool) → IsObject k (λ ms. HasField IsTruth (codes "vertex_return") ms truth) → X)
      → IsInnerOf (codes "AccelerationStructure") (Some k) x → X
  of_acceleration_structure (t.AccelerationStructure vertex_return) f u = f vertex_return u.1
  of_acceleration_structure x f u =
      apart (codes "AccelerationStructure") (label_inner x) refl (labelled_inner (codes "AccelerationStructure") (Some k) x u)

  pub of_ray_query : (x : TypeInner) → ((truth : Bool) → IsObject k (λ ms. HasField IsTruth (codes "vertex_return") ms truth) → X)
      → IsInnerOf (codes "RayQuery") (Some k) x → X
  of_ray_query (t.RayQuery vertex_return) f u = f vertex_return u.1
  of_ray_query x f u = apart (codes "RayQuery") (label_inner x) refl (labelled_inner (codes "RayQuery") (Some k) x u)

  pub of_cooperative_matrix : (x : TypeInner) → ((p : CooperativeSize × CooperativeSize × Scalar × CooperativeRole)
      → IsObject k (λ ms. HasField IsCooperativeSize (codes "columns") ms p.0 × HasField IsCooperativeSize (codes "rows") ms p.1
      × HasField IsScalar (codes "scalar") ms p.2 × HasField IsRole (codes "role") ms p.3) → X)
      → IsInnerOf (codes "CooperativeMatrix") (Some k) x → X
  of_cooperative_matrix (t.CooperativeMatrix columns rows scalar role) f u = f (columns, rows, scalar, role) u.1
  of_cooperative_matrix x f u =
      apart (codes "CooperativeMatrix") (label_inner x) refl (labelled_inner (codes "CooperativeMatrix") (Some k) x u)

  pub of_value_pointer : (x : TypeInner) → ((p : Option VectorSize × Scalar × AddressSpace)
      → IsObject k (λ ms. MayHaveField IsSize (codes "size") ms p.0 × HasField IsScalar (codes "scalar") ms p.1
      × HasField IsSpace (codes "space") ms p.2) → X) → IsInnerOf (codes "ValuePointer") (Some k) x → X
  of_value_pointer (t.ValuePointer size scalar space) f u = f (size, scalar, space) u.1
  of_value_pointer x f u = apart (codes "ValuePointer") (label_inner x) refl (labelled_inner (codes "ValuePointer") (Some k) x u)
