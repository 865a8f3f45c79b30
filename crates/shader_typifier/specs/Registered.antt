-- Types registered in an arena.
use Rattle.std.specs.Prelude.{◌≡◌, ℕ, List, None, Some, false, slice_get}
use Rattle.shader_arena.specs.Unique.{has_equal, with_item}
use Rattle.shader_ir.specs.contracts.types.TypePartialEq.TheImpl as type
use Rattle.shader_ir.specs.declared.proc.type_resolution.TypeResolution.{TypeResolution}
use Rattle.shader_ir.specs.declared.proc.type_resolution.TypeResolution.TheVariants.{Handle, Value}
use Rattle.shader_ir.specs.declared.types.«Type».{«Type»}
use Rattle.shader_ir.specs.declared.types.TypeInner.{TypeInner}

-- a type without a name
abbrev pub unnamed : TypeInner → «Type»
unnamed inner = record { name = None; inner = inner }

-- the handle is the type's own, or that of an unnamed type that equals it
abbrev pub IsRegistered : List «Type» → TypeResolution → ℕ → Type 0
IsRegistered types (Handle handle) ty = ty ≡ handle
IsRegistered types (Value inner) ty = slice_get types ty ≡ Some (unnamed inner)

-- the type is outside the arena, and no unnamed type of the arena equals it
abbrev pub IsMissing : List «Type» → TypeResolution → Type 0
IsMissing types (Handle handle) = ⊥
IsMissing types (Value inner) = has_equal type.ghosts.eq types (unnamed inner) ≡ false

-- the types of the arena after the type was registered: it is added at the end if it was missing, and nothing else is added
abbrev pub with_resolution : List «Type» → TypeResolution → List «Type»
with_resolution types (Handle handle) = types
with_resolution types (Value inner) = with_item type.ghosts.eq types (unnamed inner)
