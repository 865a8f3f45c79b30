-- Arenas of types.
use Rattle.std.specs.Prelude.{List, [], ◌∷◌, None}
use Rattle.shader_arena.specs.Unique.{with_item}
use Rattle.shader_ir.specs.contracts.types.TypePartialEq.TheImpl as type
use Rattle.shader_ir.specs.declared.types.«Type».{«Type»}
use Rattle.shader_ir.specs.declared.types.TypeInner.{TypeInner}

-- a type without a name
abbrev pub unnamed : TypeInner → «Type»
unnamed inner = record { name = None; inner = inner }

-- the types after these are inserted in turn
abbrev pub types_after : List «Type» → List TypeInner → List «Type»
types_after types [] = types
types_after types (inner ∷ inners) = types_after (with_item type.ghosts.eq types (unnamed inner)) inners
