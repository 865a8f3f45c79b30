-- Scalars, sizes, images and ranges are determined by their JSON.
use Rattle.std.proofs.Common.{◌≡◌, ◌∙◌, sym, refl, ℕ, List, [], ◌∷◌, Option, Some}
use Rattle.std.proofs.Common.{codes}
use Rattle.json.specs.Json.{Json}
use Rattle.shader_json_reader.specs.Numbers.{IsTruth, IsU32, IsU8}
use Rattle.shader_json_reader.specs.Shapes.{Determines}
use Rattle.shader_json_reader.proofs.NumberLemmas.{flags_same, truth_same, u32_same, u8_same}
use Rattle.shader_json_reader.proofs.ShapeLemmas.{apart, field}
use Rattle.shader_json_reader.proofs.ShapeLemmas.{same_object, same_struct, same_variant, named, name_determines}
use Rattle.shader_ir.specs.declared.image.ImageDimension.{ImageDimension}
use Rattle.shader_ir.specs.declared.image.ImageDimension.TheVariants as dimensions
use Rattle.shader_ir.specs.declared.image.StorageFormat.{StorageFormat}
use Rattle.shader_ir.specs.declared.image.StorageFormat.TheVariants as formats
use Rattle.shader_ir.specs.declared.scalar.CooperativeRole.{CooperativeRole}
use Rattle.shader_ir.specs.declared.scalar.CooperativeRole.TheVariants as roles
use Rattle.shader_ir.specs.declared.scalar.CooperativeSize.{CooperativeSize}
use Rattle.shader_ir.specs.declared.scalar.CooperativeSize.TheVariants as cooperative
use Rattle.shader_ir.specs.declared.scalar.ScalarKind.{ScalarKind}
use Rattle.shader_ir.specs.declared.scalar.ScalarKind.TheVariants as kinds
use Rattle.shader_ir.specs.declared.scalar.VectorSize.{VectorSize}
use Rattle.shader_ir.specs.declared.scalar.VectorSize.TheVariants as sizes
use Rattle.shader_ir.specs.declared.image.ImageClass.{ImageClass}
use Rattle.shader_ir.specs.declared.image.ImageClass.TheVariants as classes
use Rattle.shader_json_declarations.specs.Names.{kind_name, size_name, cooperative_name, role_name, dimension_name, format_name}
use Rattle.shader_json_declarations.specs.Scalars.{IsKind, IsSize, IsCooperativeSize, IsRole, IsDimension, IsFormat, IsScalar, IsAccess}
use Rattle.shader_json_declarations.specs.Scalars.{IsClassOf, IsClass, IsRange, access_rows}

abbrev kind_all : List ScalarKind
kind_all = kinds.Sint ∷ kinds.Uint ∷ kinds.Float ∷ kinds.Bool ∷ kinds.AbstractInt ∷ kinds.AbstractFloat ∷ []

kind_found : (x : ScalarKind) → named kind_name kind_all (kind_name x) ≡ Some x
kind_found kinds.Sint = refl
kind_found x = refl

pub kind_same : Determines IsKind
kind_same = name_determines kind_name kind_all kind_found

abbrev size_all : List VectorSize
size_all = sizes.Bi ∷ sizes.Tri ∷ sizes.Quad ∷ []

size_found : (x : VectorSize) → named size_name size_all (size_name x) ≡ Some x
size_found sizes.Bi = refl
size_found x = refl

pub size_same : Determines IsSize
size_same = name_determines size_name size_all size_found

abbrev cooperative_size_all : List CooperativeSize
cooperative_size_all = cooperative.Eight ∷ cooperative.Sixteen ∷ []

cooperative_size_found : (x : CooperativeSize) → named cooperative_name cooperative_size_all (cooperative_name x) ≡ Some x
cooperative_size_found cooperative.Eight = refl
cooperative_size_found x = refl

pub cooperative_size_same : Determines IsCooperativeSize
cooperative_size_same = name_determines cooperative_name cooperative_size_all cooperative_size_found

abbrev role_all : List CooperativeRole
role_all = roles.A ∷ roles.B ∷ roles.C ∷ []

role_found : (x : CooperativeRole) → named role_name role_all (role_name x) ≡ Some x
role_found roles.A = refl
role_found x = refl

pub role_same : Determines IsRole
role_same = name_determines role_name role_all role_found

abbrev dimension_all : List ImageDimension
dimension_all = dimensions.D1 ∷ dimensions.D2 ∷ dimensions.D3 ∷ dimensions.Cube ∷ []

dimension_found : (x : ImageDimension) → named dimension_name dimension_all (dimension_name x) ≡ Some x
dimension_found dimensions.D1 = refl
dimension_found x = refl

pub dimension_same : Determines IsDimension
dimension_same = name_determines dimension_name dimension_all dimension_found

abbrev format_all : List StorageFormat
format_all = formats.R8Unorm ∷ formats.R8Snorm ∷ formats.R8Uint ∷ formats.R8Sint ∷ formats.Rg8Unorm ∷ formats.Rg8Snorm ∷ formats.Rg8Uint
    ∷ formats.Rg8Sint ∷ formats.Rgba8Unorm ∷ formats.Rgba8Snorm ∷ formats.Rgba8Uint ∷ formats.Rgba8Sint ∷ formats.R16Unorm
    ∷ formats.R16Snorm ∷ formats.R16Uint ∷ formats.R16Sint ∷ formats.R16Float ∷ formats.Rg16Unorm ∷ formats.Rg16Snorm ∷ formats.Rg16Uint
    ∷ formats.Rg16Sint ∷ formats.Rg16Float ∷ formats.Rgba16Unorm ∷ formats.Rgba16Snorm ∷ formats.Rgba16Uint ∷ formats.Rgba16Sint
    ∷ formats.Rgba16Float ∷ formats.R32Uint ∷ formats.R32Sint ∷ formats.R32Float ∷ formats.Rg32Uint ∷ formats.Rg32Sint ∷ formats.Rg32Float
    ∷ formats.Rgba32Uint ∷ formats.Rgba32Sint ∷ formats.Rgba32Float ∷ formats.Bgra8Unorm ∷ formats.Rgb10a2Uint ∷ formats.Rgb10a2Unorm
    ∷ formats.Rg11b10Ufloat ∷ formats.R64Uint ∷ []

format_found : (x : StorageFormat) → named format_name format_all (format_name x) ≡ Some x
format_found formats.R8Unorm = refl
format_found x = refl

pub format_same : Determines IsFormat
format_same = name_determines format_name format_all format_found

pub scalar_same : Determines IsScalar
scalar_same j x y u v = same_object _ _ _ _ (λ ms p q i. record {
  kind = field IsKind kind_same (codes "kind") ms x.kind y.kind p.0 q.0 i;
  width = field IsU8 u8_same (codes "width") ms x.width y.width p.1 q.1 i;
}) j u v

pub access_same : Determines IsAccess
access_same j x y u v = λ i. record { 0 = flags_same access_rows j x.0 y.0 u v i }

abbrev pub label_class : ImageClass → List ℕ
label_class (classes.Sampled kind multi) = codes "Sampled"
label_class (classes.Depth multi) = codes "Depth"
label_class (classes.Storage format access) = codes "Storage"
label_class classes.External = codes "External"

pub labelled_class : (name : List ℕ) (payload : Option Json) (x : ImageClass) → IsClassOf name payload x → name ≡ label_class x
labelled_class name payload (classes.Sampled kind multi) u = u.0
labelled_class name payload x u = u.0

class_of : (name : List ℕ) (payload : Option Json) (x y : ImageClass) → IsClassOf name payload x → IsClassOf name payload y → x ≡ y
class_of name payload (classes.Sampled kind multi) (classes.Sampled kind′ multi′) u v = same_struct _ _ _ _
    (λ ms p q i. classes.Sampled (field IsKind kind_same (codes "kind") ms kind kind′ p.0 q.0 i)
    (field IsTruth truth_same (codes "multi") ms multi multi′ p.1 q.1 i)) payload u.1 v.1
class_of name payload (classes.Depth multi) (classes.Depth multi′) u v = same_struct _ _ _ _
    (λ ms p q i. classes.Depth (field IsTruth truth_same (codes "multi") ms multi multi′ p q i)) payload u.1 v.1
class_of name payload (classes.Storage format access) (classes.Storage format′ access′) u v = same_struct _ _ _ _
    (λ ms p q i. classes.Storage (field IsFormat format_same (codes "format") ms format format′ p.0 q.0 i)
    (field IsAccess access_same (codes "access") ms access access′ p.1 q.1 i)) payload u.1 v.1
class_of name payload classes.External classes.External u v = refl
class_of name payload x y u v = apart (label_class x) (label_class y) refl
    (sym (labelled_class name payload x u) ∙ labelled_class name payload y v)

pub class_same : Determines IsClass
class_same j x y u v = same_variant _ _ _ _ (λ name payload p q. class_of name payload x y p q) j u v

pub range_same : Determines IsRange
range_same j x y u v = same_object _ _ _ _ (λ ms p q i. (
  field IsU32 u32_same (codes "start") ms x.0 y.0 p.0 q.0 i,
  field IsU32 u32_same (codes "end") ms x.1 y.1 p.1 q.1 i,
)) j u v
