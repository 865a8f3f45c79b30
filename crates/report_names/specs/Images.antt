-- Textures as WGSL spells them.
use Rattle.std.specs.Prelude.{◌==◌, ◌++◌, ℕ, Bool, true, false, List, [], bit_and, codes, if◌then◌else◌}
use Rattle.shader_ir.specs.declared.flags.StorageAccess.{StorageAccess}
use Rattle.shader_ir.specs.declared.image.ImageClass.{ImageClass}
use Rattle.shader_ir.specs.declared.image.ImageClass.TheVariants.{Sampled, Depth, Storage, External}
use Rattle.shader_ir.specs.declared.image.ImageDimension.{ImageDimension}
use Rattle.shader_ir.specs.declared.image.ImageDimension.TheVariants as dimensions
use Rattle.shader_ir.specs.declared.image.StorageFormat.{StorageFormat}
use Rattle.shader_ir.specs.declared.image.StorageFormat.TheVariants as formats
use Rattle.report_names.specs.Scalars.{kind_text}

abbrev pub dimension_word : ImageDimension → List ℕ
dimension_word dimensions.D1 = codes "1d"
dimension_word dimensions.D2 = codes "2d"
dimension_word dimensions.D3 = codes "3d"
dimension_word dimensions.Cube = codes "cube"

abbrev pub layers_word : Bool → List ℕ
layers_word true = codes "_array"
layers_word false = []

abbrev pub samples_word : Bool → List ℕ
samples_word true = codes "multisampled_"
samples_word false = []

-- the bits are those of loads, stores and atomic operations
abbrev pub access_word : StorageAccess → List ℕ
access_word access = if bit_and access.0 4 == 4 then codes "atomic" else (if bit_and access.0 3 == 3 then codes "read_write"
    else (if bit_and access.0 2 == 2 then codes "write" else codes "read"))

abbrev pub format_word : StorageFormat → List ℕ
format_word formats.R8Unorm = codes "r8unorm"
format_word formats.R8Snorm = codes "r8snorm"
format_word formats.R8Uint = codes "r8uint"
format_word formats.R8Sint = codes "r8sint"
format_word formats.Rg8Unorm = codes "rg8unorm"
format_word formats.Rg8Snorm = codes "rg8snorm"
format_word formats.Rg8Uint = codes "rg8uint"
format_word formats.Rg8Sint = codes "rg8sint"
format_word formats.Rgba8Unorm = codes "rgba8unorm"
format_word formats.Rgba8Snorm = codes "rgba8snorm"
format_word formats.Rgba8Uint = codes "rgba8uint"
format_word formats.Rgba8Sint = codes "rgba8sint"
format_word formats.R16Unorm = codes "r16unorm"
format_word formats.R16Snorm = codes "r16snorm"
format_word formats.R16Uint = codes "r16uint"
format_word formats.R16Sint = codes "r16sint"
format_word formats.R16Float = codes "r16float"
format_word formats.Rg16Unorm = codes "rg16unorm"
format_word formats.Rg16Snorm = codes "rg16snorm"
format_word formats.Rg16Uint = codes "rg16uint"
format_word formats.Rg16Sint = codes "rg16sint"
format_word formats.Rg16Float = codes "rg16float"
format_word formats.Rgba16Unorm = codes "rgba16unorm"
format_word formats.Rgba16Snorm = codes "rgba16snorm"
format_word formats.Rgba16Uint = codes "rgba16uint"
format_word formats.Rgba16Sint = codes "rgba16sint"
format_word formats.Rgba16Float = codes "rgba16float"
format_word formats.R32Uint = codes "r32uint"
format_word formats.R32Sint = codes "r32sint"
format_word formats.R32Float = codes "r32float"
format_word formats.Rg32Uint = codes "rg32uint"
format_word formats.Rg32Sint = codes "rg32sint"
format_word formats.Rg32Float = codes "rg32float"
format_word formats.Rgba32Uint = codes "rgba32uint"
format_word formats.Rgba32Sint = codes "rgba32sint"
format_word formats.Rgba32Float = codes "rgba32float"
format_word formats.Bgra8Unorm = codes "bgra8unorm"
format_word formats.Rgb10a2Uint = codes "rgb10a2uint"
format_word formats.Rgb10a2Unorm = codes "rgb10a2unorm"
format_word formats.Rg11b10Ufloat = codes "rg11b10ufloat"
format_word formats.R64Uint = codes "r64uint"

unfoldable pub sampled_name : List ℕ → List ℕ → List ℕ → List ℕ → List ℕ
sampled_name samples dim layers scalar = codes "texture_" ++ (samples ++ (dim ++ (layers ++ (codes "<" ++ (scalar ++ codes ">")))))

unfoldable pub depth_name : List ℕ → List ℕ → List ℕ → List ℕ
depth_name samples dim layers = codes "texture_depth_" ++ (samples ++ (dim ++ layers))

unfoldable pub storage_name : List ℕ → List ℕ → List ℕ → List ℕ → List ℕ
storage_name dim layers format access =
    codes "texture_storage_" ++ (dim ++ (layers ++ (codes "<" ++ (format ++ (codes ", " ++ (access ++ codes ">"))))))

-- a sampled texture gives scalars of 32 bits
abbrev pub image_text : ImageDimension → Bool → ImageClass → List ℕ
image_text dim arrayed (Sampled kind multi) =
    sampled_name (samples_word multi) (dimension_word dim) (layers_word arrayed) (kind_text kind 32)
image_text dim arrayed (Depth multi) = depth_name (samples_word multi) (dimension_word dim) (layers_word arrayed)
image_text dim arrayed (Storage format access) =
    storage_name (dimension_word dim) (layers_word arrayed) (format_word format) (access_word access)
image_text dim arrayed External = codes "texture_external"
