-- Known indexes of expressions.
use Rattle.std.specs.Prelude.{ℕ, List, slice_get}
use Rattle.shader_ir.specs.KnownNumbers.{constant_index, index_in, override_index}
use Rattle.shader_ir.specs.declared.expression.Expression.{Expression}
use Rattle.shader_ir.specs.declared.«module».Module.{Module}
use Rattle.shader_ir.specs.declared.proc.known_numbers.KnownIndex.{KnownIndex}
use Rattle.shader_bounds.specs.Lengths.{globals_of}

module _ (checked : Module) where
  -- the index given by the literal value of a constant or an override
  abbrev pub constant_at : ℕ → KnownIndex
  constant_at constant = constant_index (globals_of checked) (slice_get checked.constants constant)

  abbrev pub override_at : ℕ → KnownIndex
  override_at override = override_index (globals_of checked) (slice_get checked.overrides override)

  -- the known index of one of these expressions: one step through a constant or override of the module, no more
  abbrev pub known_index_among : List Expression → ℕ → KnownIndex
  known_index_among expressions expression = index_in (globals_of checked) (slice_get expressions expression)
