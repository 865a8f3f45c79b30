-- Spelled types in an arena of the IR.
use Rattle.std.specs.Prelude.{◌≡◌, ◌≤◌, ℕ, false, List, [], ◌∷◌, length, All, Some, None, slice_get}
use Rattle.shader_arena.specs.Unique.{has_equal}
use Rattle.shader_ir.specs.contracts.types.TypePartialEq.TheImpl as type
use Rattle.shader_ir.specs.declared.types.«Type».{«Type»}
use Rattle.shader_ir.specs.declared.types.ArraySize.TheVariants.{Constant}
use Rattle.shader_ir.specs.declared.types.TypeInner.{TypeInner}
use Rattle.shader_ir.specs.declared.types.TypeInner.TheVariants as inner
use Rattle.shader_ir.specs.TypeTree.{type_handles}
use Rattle.shader_type_text.specs.declared.types.SpelledType.{SpelledType}
use Rattle.shader_type_text.specs.declared.types.SpelledType.TheVariants.{Plain, Array}
use Rattle.shader_type_text.specs.Types.{plain_inner}

-- a type with no name
abbrev pub unnamed : TypeInner → «Type»
unnamed inner = record { name = None; inner = inner }

-- no type names another
pub record AreFlat (types : List «Type») : Type 0 where
  pub flat : All (λ (type : «Type»). type_handles type.inner ≡ []) types

-- the types at their positions are unchanged
pub record PreservesTypes (old new : List «Type») : Type 0 where
  pub longer : length old ≤ length new
  pub retained : (position : ℕ) (type : «Type») → slice_get old position ≡ Some type → slice_get new position ≡ Some type

-- the type in the IR is the one spelled, and its base is in the arena
abbrev pub IsInserted : List «Type» → SpelledType → TypeInner → Type 0
IsInserted types (Plain plain) in_arena = in_arena ≡ plain_inner plain
IsInserted types (Array base count stride) in_arena =
    (position : ℕ) × (slice_get types position ≡ Some (unnamed (plain_inner base)))
    × (in_arena ≡ inner.Array position (Constant count) stride)

-- only the base of an array that the arena doesn't have allocates
abbrev pub NeedsMemory : List «Type» → SpelledType → Type 0
NeedsMemory types (Plain plain) = ⊥
NeedsMemory types (Array base count stride) = has_equal type.ghosts.eq types (unnamed (plain_inner base)) ≡ false

-- ---- a type in an arena of its own

-- the arena contains the base of an array and nothing else
abbrev pub own_types : SpelledType → List «Type»
own_types (Plain plain) = []
own_types (Array base count stride) = unnamed (plain_inner base) ∷ []

abbrev pub own_inner : SpelledType → TypeInner
own_inner (Plain plain) = plain_inner plain
own_inner (Array base count stride) = inner.Array 0 (Constant count) stride
