-- Laws on lengths and known indexes.
use Rattle.std.specs.Prelude.{◌≡◌, ◌⊎◌, ℕ, Err, IsOk}
use Rattle.shader_ir.specs.KnownNumbers.{known_index}
use Rattle.shader_ir.specs.declared.«module».Module.{Module}
use Rattle.shader_ir.specs.declared.types.TypeInner.{TypeInner}
use Rattle.shader_bounds.specs.Indexes.{known_index_among}
use Rattle.shader_bounds.specs.Lengths.{AreSizesKnown, HasKnownSize, globals_of, indexable_length, resolved_length}
use Rattle.shader_bounds.specs.declared.error.IndexableLengthError.TheVariants.{TypeNotIndexable}

-- if all sizes are known, and that of the type itself, the type has a length or isn't indexable
abbrev pub KnownSizesGiveLengths : Type 0
KnownSizesGiveLengths = (checked : Module) (inner : TypeInner) → AreSizesKnown checked → HasKnownSize checked inner
    → IsOk (resolved_length checked inner) ⊎ (indexable_length checked.types inner ≡ Err TypeNotIndexable)

-- a known index among the global expressions is the known index
abbrev pub GlobalsAreAmong : Type 0
GlobalsAreAmong = (checked : Module) (expression : ℕ) → known_index_among checked checked.global_expressions expression
    ≡ known_index (globals_of checked) expression
