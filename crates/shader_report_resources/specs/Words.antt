-- Types in WGSL's words.
use Rattle.std.specs.Prelude.{ℕ, zero, suc, List, [], ◌++◌, Bool, true, false, Option, Some, None, codes, slice_get}
use Rattle.std.specs.Fmt.{decimal}
use Rattle.std.specs.Option.{option_and_then}
use Rattle.shader_ir.specs.Scalars.{size_text}
use Rattle.shader_ir.specs.declared.«module».Module.{Module}
use Rattle.shader_ir.specs.declared.«module».Override.{Override}
use Rattle.shader_ir.specs.declared.image.ImageClass.{ImageClass}
use Rattle.shader_ir.specs.declared.image.ImageClass.TheVariants as classes
use Rattle.shader_ir.specs.declared.image.ImageDimension.{ImageDimension}
use Rattle.shader_ir.specs.declared.image.ImageDimension.TheVariants as dimensions
use Rattle.shader_ir.specs.declared.scalar.CooperativeRole.{CooperativeRole}
use Rattle.shader_ir.specs.declared.scalar.CooperativeRole.TheVariants as roles
use Rattle.shader_ir.specs.declared.scalar.CooperativeSize.{CooperativeSize}
use Rattle.shader_ir.specs.declared.scalar.CooperativeSize.TheVariants as cooperative
use Rattle.shader_ir.specs.declared.scalar.Scalar as s
use Rattle.shader_ir.specs.declared.scalar.ScalarKind.{ScalarKind}
use Rattle.shader_ir.specs.declared.scalar.VectorSize.{VectorSize}
use Rattle.shader_ir.specs.declared.types.«Type».{«Type»}
use Rattle.shader_ir.specs.declared.types.ArraySize.{ArraySize}
use Rattle.shader_ir.specs.declared.types.ArraySize.TheVariants as counts
use Rattle.shader_ir.specs.declared.types.TypeInner.{TypeInner}
use Rattle.shader_ir.specs.declared.types.TypeInner.TheVariants as types
use Rattle.shader_report_resources.specs.Formats.{format_word}
use Rattle.shader_report_resources.specs.Spaces.{access_word, space_word}
use Rattle.shader_type_text.specs.Scalars.{scalar_text}

-- ---- images

abbrev pub dimension_word : ImageDimension → List ℕ
dimension_word dimensions.D1 = codes "1d"
dimension_word dimensions.D2 = codes "2d"
dimension_word dimensions.D3 = codes "3d"
dimension_word dimensions.Cube = codes "cube"

abbrev pub arrayed_word : Bool → List ℕ
arrayed_word true = codes "_array"
arrayed_word false = []

abbrev pub multi_word : Bool → List ℕ
multi_word true = codes "multisampled_"
multi_word false = []

-- a texel read from an image has components of 32 bits
abbrev pub texel : ScalarKind → s.Scalar
texel kind = record { kind = kind; width = 4 }

unfoldable pub image_words : ImageDimension → Bool → ImageClass → List ℕ
image_words dim arrayed (classes.Sampled kind multi) =
    codes "texture_" ++ (multi_word multi ++ (dimension_word dim ++ (arrayed_word arrayed
    ++ (codes "<" ++ (scalar_text (texel kind) ++ codes ">")))))
image_words dim arrayed (classes.Depth multi) =
    codes "texture_depth_" ++ (multi_word multi ++ (dimension_word dim ++ arrayed_word arrayed))
image_words dim arrayed (classes.Storage format access) =
    codes "texture_storage_" ++ (dimension_word dim ++ (arrayed_word arrayed
    ++ (codes "<" ++ (format_word format ++ (codes ", " ++ (access_word access ++ codes ">"))))))
image_words dim arrayed classes.External = codes "texture_external"

-- ---- parts of types

abbrev pub cooperative_word : CooperativeSize → List ℕ
cooperative_word cooperative.Eight = codes "8"
cooperative_word cooperative.Sixteen = codes "16"

abbrev pub role_word : CooperativeRole → List ℕ
role_word roles.A = codes "A"
role_word roles.B = codes "B"
role_word roles.C = codes "C"

-- a scalar, or a vector of it if there is a size
abbrev pub sized_words : Option VectorSize → s.Scalar → List ℕ
sized_words None scalar = scalar_text scalar
sized_words (Some size) scalar = codes "vec" ++ (size_text size ++ (codes "<" ++ (scalar_text scalar ++ codes ">")))

-- what has no name is told by its position
abbrev pub numbered : ℕ → List ℕ
numbered position = codes "#" ++ decimal position

abbrev pub name_or_number : Option (List ℕ) → ℕ → List ℕ
name_or_number (Some name) position = name
name_or_number None position = numbered position

abbrev name_of_override : Override → Option (List ℕ)
name_of_override override = override.name

-- WGSL's extension for rays that hit
abbrev pub vertex_return_word : Bool → List ℕ
vertex_return_word true = codes "<vertex_return>"
vertex_return_word false = []

abbrev pub sampler_word : Bool → List ℕ
sampler_word true = codes "sampler_comparison"
sampler_word false = codes "sampler"

-- what a type is built over
abbrev pub base_of : TypeInner → Option ℕ
base_of (types.Pointer base space) = Some base
base_of (types.Array base size stride) = Some base
base_of (types.BindingArray base size) = Some base
base_of _ = None

module _ (m : Module) where
  abbrev pub override_words : ℕ → List ℕ
  override_words handle = name_or_number (option_and_then name_of_override (slice_get m.overrides handle)) handle

  -- the number of elements behind a comma, unless it isn't known before the shader runs
  abbrev pub count_words : ArraySize → List ℕ
  count_words (counts.Constant count) = codes ", " ++ decimal count
  count_words (counts.Pending handle) = codes ", " ++ override_words handle
  count_words counts.Dynamic = []

  -- a type over this base
  abbrev pub composed_words : List ℕ → TypeInner → List ℕ
  composed_words base (types.Pointer handle space) = codes "ptr<" ++ (space_word space ++ (codes ", " ++ (base ++ codes ">")))
  composed_words base (types.Array handle size stride) = codes "array<" ++ (base ++ (count_words size ++ codes ">"))
  composed_words base (types.BindingArray handle size) = codes "binding_array<" ++ (base ++ (count_words size ++ codes ">"))
  composed_words base _ = []

-- a type of one or more scalars
abbrev pub plain_words : TypeInner → List ℕ
plain_words (types.Scalar scalar) = scalar_text scalar
plain_words (types.Vector size scalar) = sized_words (Some size) scalar
plain_words (types.Matrix columns rows scalar) =
    codes "mat" ++ (size_text columns ++ (codes "x" ++ (size_text rows ++ (codes "<" ++ (scalar_text scalar ++ codes ">")))))
plain_words (types.CooperativeMatrix columns rows scalar role) =
    codes "coop_mat" ++ (cooperative_word columns ++ (codes "x" ++ (cooperative_word rows
    ++ (codes "<" ++ (scalar_text scalar ++ (codes ", " ++ (role_word role ++ codes ">")))))))
plain_words (types.Atomic scalar) = codes "atomic<" ++ (scalar_text scalar ++ codes ">")
plain_words (types.ValuePointer size scalar space) =
    codes "ptr<" ++ (space_word space ++ (codes ", " ++ (sized_words size scalar ++ codes ">")))
plain_words _ = []

abbrev pub built_words : Module → List ℕ → ℕ → TypeInner → List ℕ
built_words m base position (types.Struct span members) = numbered position
built_words m base position (types.Pointer handle space) = composed_words m base (types.Pointer handle space)
built_words m base position (types.Array handle size stride) = composed_words m base (types.Array handle size stride)
built_words m base position (types.BindingArray handle size) = composed_words m base (types.BindingArray handle size)
built_words m base position (types.Image dim arrayed class) = image_words dim arrayed class
built_words m base position (types.Sampler comparison) = sampler_word comparison
built_words m base position (types.AccelerationStructure vertex_return) =
    codes "acceleration_structure" ++ vertex_return_word vertex_return
built_words m base position (types.RayQuery vertex_return) = codes "ray_query" ++ vertex_return_word vertex_return
built_words m base position inner = plain_words inner

-- the words of a base, as far as there is one
abbrev pub words_of_base : (ℕ → List ℕ) → Option ℕ → List ℕ
words_of_base words None = []
words_of_base words (Some base) = words base

-- a type's name, or what it is built from
abbrev pub named_words : Module → List ℕ → ℕ → Option (List ℕ) → TypeInner → List ℕ
named_words m base position (Some name) inner = name
named_words m base position None inner = built_words m base position inner

abbrev pub found_words : Module → List ℕ → ℕ → Option «Type» → List ℕ
found_words m base position (Some type) = named_words m base position type.name type.inner
found_words m base position None = numbered position

-- the type at a position, over this base
abbrev pub told_words : Module → List ℕ → ℕ → List ℕ
told_words m base position = found_words m base position (slice_get m.types position)

abbrev base_of_type : «Type» → Option ℕ
base_of_type type = base_of type.inner

-- what the type at a position is built over
abbrev pub base_at : Module → ℕ → Option ℕ
base_at m position = option_and_then base_of_type (slice_get m.types position)

-- the type at a position, where types are built over others at most so many levels deep
abbrev pub words_within : Module → ℕ → ℕ → List ℕ
words_within m zero position = numbered position
words_within m (suc levels) position = told_words m (words_of_base (words_within m levels) (base_at m position)) position

-- WGSL nests types at most 15 deep, and one that is deeper is told by its position
abbrev pub words : Module → ℕ → List ℕ
words m position = words_within m 16 position
