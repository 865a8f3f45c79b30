-- Scalars, sizes, images and stages in the JSON of modules.
use Rattle.std.specs.Prelude.{◌≡◌, ℕ, List, [], ◌∷◌, Option, codes}
use Rattle.json.specs.Json.{Json, string}
use Rattle.shader_ir.specs.declared.flags.StorageAccess.{StorageAccess}
use Rattle.shader_ir.specs.declared.image.ImageClass.{ImageClass}
use Rattle.shader_ir.specs.declared.image.ImageClass.TheVariants as classes
use Rattle.shader_ir.specs.declared.image.ImageDimension.{ImageDimension}
use Rattle.shader_ir.specs.declared.image.StorageFormat.{StorageFormat}
use Rattle.shader_ir.specs.declared.scalar.CooperativeRole.{CooperativeRole}
use Rattle.shader_ir.specs.declared.scalar.CooperativeSize.{CooperativeSize}
use Rattle.shader_ir.specs.declared.scalar.Scalar.{Scalar}
use Rattle.shader_ir.specs.declared.scalar.ScalarKind.{ScalarKind}
use Rattle.shader_ir.specs.declared.scalar.VectorSize.{VectorSize}
use Rattle.shader_json_reader.specs.Numbers.{AreFlags, IsTruth, IsU32, IsU8}
use Rattle.shader_json_reader.specs.Shapes.{IsObject, IsVariant, IsUnit, IsStruct, HasField, HasOnly}
use Rattle.shader_json_declarations.specs.Names.{kind_name, size_name, cooperative_name, role_name, dimension_name, format_name}

abbrev pub IsKind : Json → ScalarKind → Type 0
IsKind j kind = j ≡ string (kind_name kind)

abbrev pub IsSize : Json → VectorSize → Type 0
IsSize j size = j ≡ string (size_name size)

abbrev pub IsCooperativeSize : Json → CooperativeSize → Type 0
IsCooperativeSize j size = j ≡ string (cooperative_name size)

abbrev pub IsRole : Json → CooperativeRole → Type 0
IsRole j role = j ≡ string (role_name role)

abbrev pub IsDimension : Json → ImageDimension → Type 0
IsDimension j dimension = j ≡ string (dimension_name dimension)

abbrev pub IsFormat : Json → StorageFormat → Type 0
IsFormat j format = j ≡ string (format_name format)

abbrev pub IsScalar : Json → Scalar → Type 0
IsScalar j scalar =
    IsObject j (λ ms. HasField IsKind (codes "kind") ms scalar.kind × HasField IsU8 (codes "width") ms scalar.width)

-- the flags of an access with their bits
abbrev pub access_rows : List (List ℕ × ℕ)
access_rows = (codes "LOAD", 1) ∷ (codes "STORE", 2) ∷ (codes "ATOMIC", 4) ∷ []

abbrev pub IsAccess : Json → StorageAccess → Type 0
IsAccess j access = AreFlags access_rows j access.0

abbrev pub IsClassOf : List ℕ → Option Json → ImageClass → Type 0
IsClassOf name payload (classes.Sampled kind multi) = IsStruct (codes "Sampled") name payload
    (λ ms. HasField IsKind (codes "kind") ms kind × HasField IsTruth (codes "multi") ms multi)
IsClassOf name payload (classes.Depth multi) = IsStruct (codes "Depth") name payload (λ ms. HasField IsTruth (codes "multi") ms multi)
IsClassOf name payload (classes.Storage format access) = IsStruct (codes "Storage") name payload
    (λ ms. HasField IsFormat (codes "format") ms format × HasField IsAccess (codes "access") ms access)
IsClassOf name payload classes.External = IsUnit (codes "External") name payload

abbrev pub IsClass : Json → ImageClass → Type 0
IsClass j class = IsVariant j (λ name payload. IsClassOf name payload class)

-- a range of handles, as an object without other fields
abbrev pub IsRange : Json → (ℕ × ℕ) → Type 0
IsRange j range =
    IsObject j (λ ms. HasField IsU32 (codes "start") ms range.0 × HasField IsU32 (codes "end") ms range.1
    × HasOnly (codes "start") (codes "end") ms)
