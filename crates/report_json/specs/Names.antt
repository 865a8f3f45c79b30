-- The names of variants.
use Rattle.std.specs.Prelude.{ℕ, List, [], codes}
use Rattle.shader_ir.specs.declared.image.ImageDimension.{ImageDimension}
use Rattle.shader_ir.specs.declared.image.ImageDimension.TheVariants as dimensions
use Rattle.shader_ir.specs.declared.image.StorageFormat.{StorageFormat}
use Rattle.shader_ir.specs.declared.image.StorageFormat.TheVariants as formats
use Rattle.shader_ir.specs.declared.scalar.CooperativeRole.{CooperativeRole}
use Rattle.shader_ir.specs.declared.scalar.CooperativeRole.TheVariants as roles
use Rattle.shader_ir.specs.declared.scalar.CooperativeSize.{CooperativeSize}
use Rattle.shader_ir.specs.declared.scalar.CooperativeSize.TheVariants as cooperative
use Rattle.shader_ir.specs.declared.scalar.ScalarKind.{ScalarKind}
use Rattle.shader_ir.specs.declared.scalar.ScalarKind.TheVariants as kinds
use Rattle.shader_ir.specs.declared.scalar.VectorSize.{VectorSize}
use Rattle.shader_ir.specs.declared.scalar.VectorSize.TheVariants as sizes

abbrev pub kind_name : ScalarKind → List ℕ
kind_name kinds.Sint = codes "Sint"
kind_name kinds.Uint = codes "Uint"
kind_name kinds.Float = codes "Float"
kind_name kinds.Bool = codes "Bool"
kind_name kinds.AbstractInt = codes "AbstractInt"
kind_name kinds.AbstractFloat = codes "AbstractFloat"

abbrev pub size_name : VectorSize → List ℕ
size_name sizes.Bi = codes "Bi"
size_name sizes.Tri = codes "Tri"
size_name sizes.Quad = codes "Quad"

abbrev pub cooperative_name : CooperativeSize → List ℕ
cooperative_name cooperative.Eight = codes "Eight"
cooperative_name cooperative.Sixteen = codes "Sixteen"

abbrev pub role_name : CooperativeRole → List ℕ
role_name roles.A = codes "A"
role_name roles.B = codes "B"
role_name roles.C = codes "C"

abbrev pub dimension_name : ImageDimension → List ℕ
dimension_name dimensions.D1 = codes "D1"
dimension_name dimensions.D2 = codes "D2"
dimension_name dimensions.D3 = codes "D3"
dimension_name dimensions.Cube = codes "Cube"

-- the name of a format with more than one channel
abbrev pub wide_format_name : StorageFormat → List ℕ
wide_format_name formats.Rg8Unorm = codes "Rg8Unorm"
wide_format_name formats.Rg8Snorm = codes "Rg8Snorm"
wide_format_name formats.Rg8Uint = codes "Rg8Uint"
wide_format_name formats.Rg8Sint = codes "Rg8Sint"
wide_format_name formats.Rgba8Unorm = codes "Rgba8Unorm"
wide_format_name formats.Rgba8Snorm = codes "Rgba8Snorm"
wide_format_name formats.Rgba8Uint = codes "Rgba8Uint"
wide_format_name formats.Rgba8Sint = codes "Rgba8Sint"
wide_format_name formats.Rg16Unorm = codes "Rg16Unorm"
wide_format_name formats.Rg16Snorm = codes "Rg16Snorm"
wide_format_name formats.Rg16Uint = codes "Rg16Uint"
wide_format_name formats.Rg16Sint = codes "Rg16Sint"
wide_format_name formats.Rg16Float = codes "Rg16Float"
wide_format_name formats.Rgba16Unorm = codes "Rgba16Unorm"
wide_format_name formats.Rgba16Snorm = codes "Rgba16Snorm"
wide_format_name formats.Rgba16Uint = codes "Rgba16Uint"
wide_format_name formats.Rgba16Sint = codes "Rgba16Sint"
wide_format_name formats.Rgba16Float = codes "Rgba16Float"
wide_format_name formats.Rg32Uint = codes "Rg32Uint"
wide_format_name formats.Rg32Sint = codes "Rg32Sint"
wide_format_name formats.Rg32Float = codes "Rg32Float"
wide_format_name formats.Rgba32Uint = codes "Rgba32Uint"
wide_format_name formats.Rgba32Sint = codes "Rgba32Sint"
wide_format_name formats.Rgba32Float = codes "Rgba32Float"
wide_format_name formats.Bgra8Unorm = codes "Bgra8Unorm"
wide_format_name formats.Rgb10a2Uint = codes "Rgb10a2Uint"
wide_format_name formats.Rgb10a2Unorm = codes "Rgb10a2Unorm"
wide_format_name formats.Rg11b10Ufloat = codes "Rg11b10Ufloat"
wide_format_name _ = []

abbrev pub format_name : StorageFormat → List ℕ
format_name formats.R8Unorm = codes "R8Unorm"
format_name formats.R8Snorm = codes "R8Snorm"
format_name formats.R8Uint = codes "R8Uint"
format_name formats.R8Sint = codes "R8Sint"
format_name formats.R16Unorm = codes "R16Unorm"
format_name formats.R16Snorm = codes "R16Snorm"
format_name formats.R16Uint = codes "R16Uint"
format_name formats.R16Sint = codes "R16Sint"
format_name formats.R16Float = codes "R16Float"
format_name formats.R32Uint = codes "R32Uint"
format_name formats.R32Sint = codes "R32Sint"
format_name formats.R32Float = codes "R32Float"
format_name formats.R64Uint = codes "R64Uint"
format_name format = wide_format_name format
