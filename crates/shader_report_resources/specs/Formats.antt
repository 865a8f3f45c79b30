-- Texel formats in WGSL's words.
use Rattle.std.specs.Prelude.{ℕ, List, [], codes}
use Rattle.shader_ir.specs.declared.image.StorageFormat.{StorageFormat}
use Rattle.shader_ir.specs.declared.image.StorageFormat.TheVariants as formats

-- a format of more than one channel
abbrev pub wide_format_word : StorageFormat → List ℕ
wide_format_word formats.Rg8Unorm = codes "rg8unorm"
wide_format_word formats.Rg8Snorm = codes "rg8snorm"
wide_format_word formats.Rg8Uint = codes "rg8uint"
wide_format_word formats.Rg8Sint = codes "rg8sint"
wide_format_word formats.Rgba8Unorm = codes "rgba8unorm"
wide_format_word formats.Rgba8Snorm = codes "rgba8snorm"
wide_format_word formats.Rgba8Uint = codes "rgba8uint"
wide_format_word formats.Rgba8Sint = codes "rgba8sint"
wide_format_word formats.Rg16Unorm = codes "rg16unorm"
wide_format_word formats.Rg16Snorm = codes "rg16snorm"
wide_format_word formats.Rg16Uint = codes "rg16uint"
wide_format_word formats.Rg16Sint = codes "rg16sint"
wide_format_word formats.Rg16Float = codes "rg16float"
wide_format_word formats.Rgba16Unorm = codes "rgba16unorm"
wide_format_word formats.Rgba16Snorm = codes "rgba16snorm"
wide_format_word formats.Rgba16Uint = codes "rgba16uint"
wide_format_word formats.Rgba16Sint = codes "rgba16sint"
wide_format_word formats.Rgba16Float = codes "rgba16float"
wide_format_word formats.Rg32Uint = codes "rg32uint"
wide_format_word formats.Rg32Sint = codes "rg32sint"
wide_format_word formats.Rg32Float = codes "rg32float"
wide_format_word formats.Rgba32Uint = codes "rgba32uint"
wide_format_word formats.Rgba32Sint = codes "rgba32sint"
wide_format_word formats.Rgba32Float = codes "rgba32float"
wide_format_word formats.Bgra8Unorm = codes "bgra8unorm"
wide_format_word formats.Rgb10a2Uint = codes "rgb10a2uint"
wide_format_word formats.Rgb10a2Unorm = codes "rgb10a2unorm"
wide_format_word formats.Rg11b10Ufloat = codes "rg11b10ufloat"
wide_format_word _ = []

abbrev pub format_word : StorageFormat → List ℕ
format_word formats.R8Unorm = codes "r8unorm"
format_word formats.R8Snorm = codes "r8snorm"
format_word formats.R8Uint = codes "r8uint"
format_word formats.R8Sint = codes "r8sint"
format_word formats.R16Unorm = codes "r16unorm"
format_word formats.R16Snorm = codes "r16snorm"
format_word formats.R16Uint = codes "r16uint"
format_word formats.R16Sint = codes "r16sint"
format_word formats.R16Float = codes "r16float"
format_word formats.R32Uint = codes "r32uint"
format_word formats.R32Sint = codes "r32sint"
format_word formats.R32Float = codes "r32float"
format_word formats.R64Uint = codes "r64uint"
format_word format = wide_format_word format
