-- The contents of images and their extents.
use Rattle.std.specs.Prelude.{ℕ}
use Rattle.shader_ir.specs.Scalars.{scalar}
use Rattle.shader_ir.specs.declared.scalar.ScalarKind.{ScalarKind}
use Rattle.shader_ir.specs.declared.scalar.ScalarKind.TheVariants as kind
use Rattle.shader_ir.specs.declared.scalar.Scalar.{Scalar}
use Rattle.shader_ir.specs.declared.scalar.VectorSize.TheVariants.{Bi, Tri, Quad}
use Rattle.shader_ir.specs.declared.image.ImageClass.{ImageClass}
use Rattle.shader_ir.specs.declared.image.ImageClass.TheVariants.{Sampled, Depth, Storage, External}
use Rattle.shader_ir.specs.declared.image.ImageDimension.{ImageDimension}
use Rattle.shader_ir.specs.declared.image.ImageDimension.TheVariants.{D1, D2, D3, Cube}
use Rattle.shader_ir.specs.declared.image.StorageFormat.{StorageFormat}
use Rattle.shader_ir.specs.declared.image.StorageFormat.TheVariants as format
use Rattle.shader_ir.specs.declared.types.TypeInner.{TypeInner}
use Rattle.shader_ir.specs.declared.types.TypeInner.TheVariants as type
use Rattle.shader_ir.specs.declared.proc.type_resolution.TypeResolution.TheVariants.{Value}
use Rattle.shader_resolve.specs.Outcome.{InvalidImage, Outcome, Given, Refused}

abbrev pub bool_scalar : Scalar
bool_scalar = scalar kind.Bool 1

abbrev pub u32_scalar : Scalar
u32_scalar = scalar kind.Uint 4

abbrev pub i32_scalar : Scalar
i32_scalar = scalar kind.Sint 4

abbrev pub f32_scalar : Scalar
f32_scalar = scalar kind.Float 4

-- the scalar of a storage format's texels
abbrev pub format_scalar : StorageFormat → Scalar
format_scalar format.R8Uint = u32_scalar
format_scalar format.Rg8Uint = u32_scalar
format_scalar format.Rgba8Uint = u32_scalar
format_scalar format.R16Uint = u32_scalar
format_scalar format.Rg16Uint = u32_scalar
format_scalar format.Rgba16Uint = u32_scalar
format_scalar format.R32Uint = u32_scalar
format_scalar format.Rg32Uint = u32_scalar
format_scalar format.Rgba32Uint = u32_scalar
format_scalar format.Rgb10a2Uint = u32_scalar
format_scalar format.R64Uint = scalar kind.Uint 8
format_scalar format.R8Sint = i32_scalar
format_scalar format.Rg8Sint = i32_scalar
format_scalar format.Rgba8Sint = i32_scalar
format_scalar format.R16Sint = i32_scalar
format_scalar format.Rg16Sint = i32_scalar
format_scalar format.Rgba16Sint = i32_scalar
format_scalar format.R32Sint = i32_scalar
format_scalar format.Rg32Sint = i32_scalar
format_scalar format.Rgba32Sint = i32_scalar
format_scalar _ = f32_scalar

-- the type of a texel
abbrev pub texel : ImageClass → TypeInner
texel (Depth multi) = type.Scalar f32_scalar
texel (Sampled kind multi) = type.Vector Quad (scalar kind 4)
texel (Storage format access) = type.Vector Quad (format_scalar format)
texel External = type.Vector Quad f32_scalar

-- the kind of one component of four texels
abbrev pub gather_kind : ImageClass → ScalarKind
gather_kind (Sampled kind multi) = kind
gather_kind _ = kind.Float

abbrev pub extent : ImageDimension → TypeInner
extent D1 = type.Scalar u32_scalar
extent D2 = type.Vector Bi u32_scalar
extent Cube = type.Vector Bi u32_scalar
extent D3 = type.Vector Tri u32_scalar

module _ (image : ℕ) where
  abbrev pub gather_type : TypeInner → Outcome
  gather_type (type.Image dim arrayed class) = Given (Value (type.Vector Quad (scalar (gather_kind class) 4)))
  gather_type _ = Refused (InvalidImage image)

  abbrev pub sample_type : TypeInner → Outcome
  sample_type (type.Image dim arrayed class) = Given (Value (texel class))
  sample_type _ = Refused (InvalidImage image)

  abbrev pub extent_type : TypeInner → Outcome
  extent_type (type.Image dim arrayed class) = Given (Value (extent dim))
  extent_type _ = Refused (InvalidImage image)
