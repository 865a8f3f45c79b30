-- Types and bindings are determined by their JSON.
use Rattle.std.proofs.Common.{◌≡◌, ◌∙◌, ap, sym, refl, ℕ, Bool, List, Option, Some, None, MatchOption}
use Rattle.std.proofs.Common.{codes}
use Rattle.json.specs.Json.{Json}
use Rattle.shader_json_reader.specs.Numbers.{IsCount, IsHandle, IsText, IsTruth, IsU32}
use Rattle.shader_json_reader.specs.Shapes.{Determines, HasField, IsList, IsObject}
use Rattle.shader_json_reader.proofs.NumberLemmas.{count_same, handle_same, text_same, truth_same, u32_same}
use Rattle.shader_json_reader.proofs.ShapeLemmas.{apart, field, list, newtype, optional, some_inverse}
use Rattle.shader_json_reader.proofs.ShapeLemmas.{same_object, same_struct, same_variant}
use Rattle.shader_ir.specs.declared.binding.Binding.{Binding}
use Rattle.shader_ir.specs.declared.binding.Binding.TheVariants as bindings
use Rattle.shader_ir.specs.declared.binding.BuiltIn.{BuiltIn}
use Rattle.shader_ir.specs.declared.types.AddressSpace.{AddressSpace}
use Rattle.shader_ir.specs.declared.types.AddressSpace.TheVariants as spaces
use Rattle.shader_ir.specs.declared.types.ArraySize.{ArraySize}
use Rattle.shader_ir.specs.declared.types.ArraySize.TheVariants as lengths
use Rattle.shader_ir.specs.declared.types.TypeInner.{TypeInner}
use Rattle.shader_ir.specs.declared.types.TypeInner.TheVariants as t
use Rattle.shader_builtins.specs.BuiltIns.{built_in_named, flag_named}
use Rattle.shader_json_declarations.specs.BuiltIns.{IsBuiltIn, IsBuiltInOf}
use Rattle.shader_json_declarations.specs.Scalars.{IsAccess, IsClass, IsCooperativeSize, IsDimension, IsRole, IsScalar, IsSize}
use Rattle.shader_json_declarations.specs.Types.{IsSpaceOf, IsSpace, IsLengthOf, IsLength, IsBindingOf}
use Rattle.shader_json_declarations.specs.Types.{IsBinding, IsMember, IsInnerOf, IsInner, IsType, AreTypes}
use Rattle.shader_json_declarations.proofs.DeterminedScalars.{access_same, class_same, cooperative_size_same, dimension_same, role_same}
use Rattle.shader_json_declarations.proofs.DeterminedScalars.{scalar_same}
use Rattle.shader_json_declarations.proofs.DeterminedScalars.{size_same}

abbrev pub label_space : AddressSpace → List ℕ
label_space spaces.Function = codes "Function"
label_space spaces.Private = codes "Private"
label_space spaces.WorkGroup = codes "WorkGroup"
label_space spaces.Uniform = codes "Uniform"
label_space (spaces.Storage access) = codes "Storage"
label_space spaces.Handle = codes "Handle"
label_space spaces.Immediate = codes "Immediate"
label_space spaces.TaskPayload = codes "TaskPayload"
label_space spaces.RayPayload = codes "RayPayload"
label_space spaces.IncomingRayPayload = codes "IncomingRayPayload"

pub labelled_space : (name : List ℕ) (payload : Option Json) (x : AddressSpace) → IsSpaceOf name payload x → name ≡ label_space x
labelled_space name payload spaces.Function u = u.0
labelled_space name payload x u = u.0

space_of : (name : List ℕ) (payload : Option Json) (x y : AddressSpace) → IsSpaceOf name payload x → IsSpaceOf name payload y → x ≡ y
space_of name payload spaces.Function spaces.Function u v = refl
space_of name payload spaces.Private spaces.Private u v = refl
space_of name payload spaces.WorkGroup spaces.WorkGroup u v = refl
space_of name payload spaces.Uniform spaces.Uniform u v = refl
space_of name payload (spaces.Storage access) (spaces.Storage access′) u v = same_struct _ _ _ _
    (λ ms p q i. spaces.Storage (field IsAccess access_same (codes "access") ms access access′ p q i)) payload u.1 v.1
space_of name payload spaces.Handle spaces.Handle u v = refl
space_of name payload spaces.Immediate spaces.Immediate u v = refl
space_of name payload spaces.TaskPayload spaces.TaskPayload u v = refl
space_of name payload spaces.RayPayload spaces.RayPayload u v = refl
space_of name payload spaces.IncomingRayPayload spaces.IncomingRayPayload u v = refl
space_of name payload x y u v = apart (label_space x) (label_space y) refl
    (sym (labelled_space name payload x u) ∙ labelled_space name payload y v)

pub space_same : Determines IsSpace
space_same j x y u v = same_variant _ _ _ _ (λ name payload p q. space_of name payload x y p q) j u v

abbrev pub label_length : ArraySize → List ℕ
label_length (lengths.Constant count) = codes "Constant"
label_length (lengths.Pending handle) = codes "Pending"
label_length lengths.Dynamic = codes "Dynamic"

pub labelled_length : (name : List ℕ) (payload : Option Json) (x : ArraySize) → IsLengthOf name payload x → name ≡ label_length x
labelled_length name payload (lengths.Constant count) u = u.0
labelled_length name payload x u = u.0

length_of : (name : List ℕ) (payload : Option Json) (x y : ArraySize) → IsLengthOf name payload x → IsLengthOf name payload y → x ≡ y
length_of name payload (lengths.Constant count) (lengths.Constant count′) u v = ap lengths.Constant
    (newtype IsCount count_same payload count count′ u.1 v.1)
length_of name payload (lengths.Pending handle) (lengths.Pending handle′) u v = ap lengths.Pending
    (newtype IsHandle handle_same payload handle handle′ u.1 v.1)
length_of name payload lengths.Dynamic lengths.Dynamic u v = refl
length_of name payload x y u v = apart (label_length x) (label_length y) refl
    (sym (labelled_length name payload x u) ∙ labelled_length name payload y v)

pub length_same : Determines IsLength
length_same j x y u v = same_variant _ _ _ _ (λ name payload p q. length_of name payload x y p q) j u v

flag_same : (found : Option (List ℕ)) (j : Json) (x y : Bool)
    → MatchOption found ⊥ (λ field. IsObject j (λ ms. HasField IsTruth field ms x))
    → MatchOption found ⊥ (λ field. IsObject j (λ ms. HasField IsTruth field ms y)) → x ≡ y
flag_same None j x y u v = absurd u
flag_same (Some name) j x y u v = same_object _ _ _ _ (λ ms p q. field IsTruth truth_same name ms x y p q) j u v

builtin_of : (name : List ℕ) (payload : Option Json) (x y : BuiltIn) → IsBuiltInOf name payload x → IsBuiltInOf name payload y → x ≡ y
builtin_of name None x y u v = some_inverse x y (sym u ∙ v)
builtin_of name (Some j) x y (flag, u, p) (flag′, v, q) =
    let same : flag ≡ flag′ = flag_same (flag_named name) j flag flag′ u v in
    some_inverse x y (sym p ∙ (ap (λ b. built_in_named name (Some b)) same ∙ q))

pub builtin_same : Determines IsBuiltIn
builtin_same j x y u v = same_variant _ _ _ _ (λ name payload p q. builtin_of name payload x y p q) j u v

abbrev pub label_binding : Binding → List ℕ
label_binding (bindings.BuiltIn builtin) = codes "BuiltIn"
label_binding (bindings.Location location) = codes "Location"

pub labelled_binding : (name : List ℕ) (payload : Option Json) (x : Binding) → IsBindingOf name payload x → name ≡ label_binding x
labelled_binding name payload (bindings.BuiltIn builtin) u = u.0
labelled_binding name payload x u = u.0

binding_of : (name : List ℕ) (payload : Option Json) (x y : Binding) → IsBindingOf name payload x → IsBindingOf name payload y
    → x ≡ y
binding_of name payload (bindings.BuiltIn builtin) (bindings.BuiltIn builtin′) u v = ap bindings.BuiltIn
    (newtype IsBuiltIn builtin_same payload builtin builtin′ u.1 v.1)
binding_of name payload (bindings.Location location) (bindings.Location location′) u v = same_struct _ _ _ _
    (λ ms p q i. bindings.Location (field IsU32 u32_same (codes "location") ms location location′ p.0 q.0 i)) payload u.1 v.1
binding_of name payload x y u v = apart (label_binding x) (label_binding y) refl
    (sym (labelled_binding name payload x u) ∙ labelled_binding name payload y v)

pub binding_same : Determines IsBinding
binding_same j x y u v = same_variant _ _ _ _ (λ name payload p q. binding_of name payload x y p q) j u v

pub member_same : Determines IsMember
member_same j x y u v = same_object _ _ _ _ (λ ms p q i. record {
  name = optional IsText text_same
      (codes "name") ms x.name y.name p.0 q.0 i;
  ty = field IsHandle handle_same (codes "ty") ms x.ty y.ty p.1 q.1 i;
  binding =
      optional IsBinding binding_same (codes "binding") ms x.binding y.binding p.2 q.2 i;
  offset =
      field IsU32 u32_same (codes "offset") ms x.offset y.offset p.3 q.3 i;
}) j u v

abbrev pub label_inner : TypeInner → List ℕ
label_inner (t.Scalar scalar) = codes "Scalar"
label_inner (t.Vector size scalar) = codes "Vector"
label_inner (t.Matrix columns rows scalar) = codes "Matrix"
label_inner (t.CooperativeMatrix columns rows scalar role) = codes "CooperativeMatrix"
label_inner (t.Atomic scalar) = codes "Atomic"
label_inner (t.Pointer base space) = codes "Pointer"
label_inner (t.ValuePointer size scalar space) = codes "ValuePointer"
label_inner (t.Array base size stride) = codes "Array"
label_inner (t.Struct span members) = codes "Struct"
label_inner (t.Image dim arrayed class) = codes "Image"
label_inner (t.Sampler comparison) = codes "Sampler"
label_inner (t.AccelerationStructure vertex_return) = codes "AccelerationStructure"
label_inner (t.RayQuery vertex_return) = codes "RayQuery"
label_inner (t.BindingArray base size) = codes "BindingArray"

pub labelled_inner : (name : List ℕ) (payload : Option Json) (x : TypeInner) → IsInnerOf name payload x → name ≡ label_inner x
labelled_inner name payload (t.Scalar scalar) u = u.0
labelled_inner name payload x u = u.0

inner_of : (name : List ℕ) (payload : Option Json) (x y : TypeInner) → IsInnerOf name payload x → IsInnerOf name payload y → x
    ≡ y
inner_of name payload (t.Scalar scalar) (t.Scalar scalar′) u v = ap t.Scalar (newtype IsScalar scalar_same payload scalar scalar′ u.1 v.1)
inner_of name payload (t.Vector size scalar) (t.Vector size′ scalar′) u v = same_struct _ _ _ _
    (λ ms p q i. t.Vector (field IsSize size_same (codes "size") ms size size′ p.0 q.0 i)
    (field IsScalar scalar_same (codes "scalar") ms scalar scalar′ p.1 q.1 i)) payload u.1 v.1
inner_of name payload (t.Matrix columns rows scalar) (t.Matrix columns′ rows′ scalar′) u v = same_struct _ _ _ _
    (λ ms p q i. t.Matrix (field IsSize size_same (codes "columns") ms columns columns′ p.0 q.0 i)
    (field IsSize size_same (codes "rows") ms rows rows′ p.1 q.1 i)
    (field IsScalar scalar_same (codes "scalar") ms scalar scalar′ p.2 q.2 i)) payload u.1 v.1
inner_of name payload (t.CooperativeMatrix columns rows scalar role) (t.CooperativeMatrix columns′ rows′ scalar′ role′) u v =
    same_struct _ _ _ _
    (λ ms p q i. t.CooperativeMatrix (field IsCooperativeSize cooperative_size_same (codes "columns") ms columns columns′ p.0 q.0 i)
    (field IsCooperativeSize cooperative_size_same (codes "rows") ms rows rows′ p.1 q.1 i)
    (field IsScalar scalar_same (codes "scalar") ms scalar scalar′ p.2 q.2 i)
    (field IsRole role_same (codes "role") ms role role′ p.3 q.3 i)) payload u.1 v.1
inner_of name payload (t.Atomic scalar) (t.Atomic scalar′) u v = ap t.Atomic (newtype IsScalar scalar_same payload scalar scalar′ u.1 v.1)
inner_of name payload (t.Pointer base space) (t.Pointer base′ space′) u v = same_struct _ _ _ _
    (λ ms p q i. t.Pointer (field IsHandle handle_same (codes "base") ms base base′ p.0 q.0 i)
    (field IsSpace space_same (codes "space") ms space space′ p.1 q.1 i)) payload u.1 v.1
inner_of name payload (t.ValuePointer size scalar space) (t.ValuePointer size′ scalar′ space′) u v = same_struct _ _ _ _
    (λ ms p q i. t.ValuePointer (optional IsSize size_same (codes "size") ms size size′ p.0 q.0 i)
    (field IsScalar scalar_same (codes "scalar") ms scalar scalar′ p.1 q.1 i)
    (field IsSpace space_same (codes "space") ms space space′ p.2 q.2 i)) payload u.1 v.1
inner_of name payload (t.Array base size stride) (t.Array base′ size′ stride′) u v = same_struct _ _ _ _
    (λ ms p q i. t.Array (field IsHandle handle_same (codes "base") ms base base′ p.0 q.0 i)
    (field IsLength length_same (codes "size") ms size size′ p.1 q.1 i)
    (field IsU32 u32_same (codes "stride") ms stride stride′ p.2 q.2 i)) payload u.1 v.1
inner_of name payload (t.Struct span members) (t.Struct span′ members′) u v = same_struct _ _ _ _
    (λ ms p q i. t.Struct (field IsU32 u32_same (codes "span") ms span span′ p.1 q.1 i)
    (field (IsList IsMember) (list IsMember member_same) (codes "members") ms members members′ p.0 q.0 i)) payload u.1 v.1
inner_of name payload (t.Image dim arrayed class) (t.Image dim′ arrayed′ class′) u v = same_struct _ _ _ _
    (λ ms p q i. t.Image (field IsDimension dimension_same (codes "dim") ms dim dim′ p.0 q.0 i)
    (field IsTruth truth_same (codes "arrayed") ms arrayed arrayed′ p.1 q.1 i)
    (field IsClass class_same (codes "class") ms class class′ p.2 q.2 i)) payload u.1 v.1
inner_of name payload (t.Sampler comparison) (t.Sampler comparison′) u v = same_struct _ _ _ _
    (λ ms p q i. t.Sampler (field IsTruth truth_same (codes "comparison") ms comparison comparison′ p q i)) payload u.1 v.1
inner_of name payload (t.AccelerationStructure vertex_return) (t.AccelerationStructure vertex_return′) u v = same_struct _ _ _ _
    (λ ms p q i. t.AccelerationStructure (field IsTruth truth_same
    (codes "vertex_return") ms vertex_return vertex_return′ p q i)) payload u.1 v.1
inner_of name payload (t.RayQuery vertex_return) (t.RayQuery vertex_return′) u v = same_struct _ _ _ _
    (λ ms p q i. t.RayQuery (field IsTruth truth_same (codes "vertex_return") ms vertex_return vertex_return′ p q i)) payload u.1 v.1
inner_of name payload (t.BindingArray base size) (t.BindingArray base′ size′) u v = same_struct _ _ _ _
    (λ ms p q i. t.BindingArray (field IsHandle handle_same (codes "base") ms base base′ p.0 q.0 i)
    (field IsLength length_same (codes "size") ms size size′ p.1 q.1 i)) payload u.1 v.1
inner_of name payload x y u v = apart (label_inner x) (label_inner y) refl
    (sym (labelled_inner name payload x u) ∙ labelled_inner name payload y v)

pub inner_same : Determines IsInner
inner_same j x y u v = same_variant _ _ _ _ (λ name payload p q. inner_of name payload x y p q) j u v

pub type_same : Determines IsType
type_same j x y u v = same_object _ _ _ _ (λ ms p q i. record {
  name = optional IsText text_same
      (codes "name") ms x.name y.name p.0 q.0 i;
  inner = field IsInner inner_same
      (codes "inner") ms x.inner y.inner p.1 q.1 i;
}) j u v

pub types_same : Determines AreTypes
types_same j x y u v = list IsType type_same j x y u.0.0 v.0.0
