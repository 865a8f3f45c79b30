-- What pointers lead back to: the end of a chain of Access and AccessIndex.
use Rattle.std.specs.Prelude.{◌==◌, ◌||◌, ℕ, Bool, true, false, not, List, [], ◌∷◌, ◌++◌, Option, Some, None, slice_get, bit_and}
use Rattle.std.specs.Prelude.{slice_index_or}
use Rattle.shader_ir.specs.declared.expression.Expression.TheVariants as form
use Rattle.shader_ir.specs.declared.image.ImageClass.TheVariants as class
use Rattle.shader_ir.specs.declared.types.AddressSpace.TheVariants as space
use Rattle.shader_ir.specs.declared.types.TypeInner.TheVariants as type
use Rattle.shader_uniformity.specs.Words.{Module, Expression, GlobalVariable, AddressSpace, ImageClass, StorageAccess, «Type», TypeInner}
use Rattle.shader_uniformity.specs.declared.facts.Place.{Place}
use Rattle.shader_uniformity.specs.declared.facts.Place.TheVariants.{Local, Pointee, Shared, Fixed}

-- stores are allowed, or atomic operations
abbrev pub is_writable : StorageAccess → Bool
is_writable access = bit_and access.0 2 == 2 || bit_and access.0 4 == 4

-- a storage image whose texels may be written
abbrev pub class_is_written : ImageClass → Bool
class_is_written (class.Storage format access) = is_writable access
class_is_written _ = false

abbrev pub image_is_written : TypeInner → Bool
image_is_written (type.Image dim arrayed class) = class_is_written class
image_is_written _ = false

abbrev pub element_is_written : Option «Type» → Bool
element_is_written (Some ty) = image_is_written ty.inner
element_is_written None = false

-- the same of the elements of a binding array
abbrev pub inner_is_written : List «Type» → TypeInner → Bool
inner_is_written types (type.BindingArray base size) = element_is_written (slice_get types base)
inner_is_written types inner = image_is_written inner

abbrev pub type_is_written : List «Type» → Option «Type» → Bool
type_is_written types (Some ty) = inner_is_written types ty.inner
type_is_written types None = false

-- an address space that nothing writes to while the shader runs
abbrev pub space_is_fixed : AddressSpace → Bool
space_is_fixed space.Uniform = true
space_is_fixed space.Handle = true
space_is_fixed space.Immediate = true
space_is_fixed (space.Storage access) = not (is_writable access)
space_is_fixed _ = false

abbrev pub place_in : (written fixed : Bool) → Place
place_in false true = Fixed
place_in _ _ = Shared

abbrev pub global_place : Module → Option GlobalVariable → Place
global_place m (Some global) = place_in (type_is_written m.types (slice_get m.types global.ty)) (space_is_fixed global.space)
global_place m None = Shared

-- the place of an expression, by those of earlier ones
abbrev pub place_of : Module → List Place → Expression → Place
place_of m earlier (form.LocalVariable variable) = Local variable
place_of m earlier (form.FunctionArgument index) = Pointee index
place_of m earlier (form.GlobalVariable variable) = global_place m (slice_get m.global_variables variable)
place_of m earlier (form.Access base index) = slice_index_or earlier base Shared
place_of m earlier (form.AccessIndex base index) = slice_index_or earlier base Shared
place_of m earlier _ = Shared

abbrev pub places_after : Module → List Place → List Expression → List Place
places_after m earlier [] = earlier
places_after m earlier (expression ∷ expressions) = places_after m (earlier ++ place_of m earlier expression ∷ []) expressions

-- the place of each expression
abbrev pub places : Module → List Expression → List Place
places m expressions = places_after m [] expressions

abbrev pub place_at : List Place → ℕ → Place
place_at all expression = slice_index_or all expression Shared
