-- The first origin among the operands that a visitor sees.
use Rattle.std.specs.Prelude.{ℕ}
use Rattle.std.specs.Option.{option_or}
use Rattle.shader_ir.specs.declared.proc.operands.Label.{Label}
use Rattle.shader_passes.specs.declared.facts.FirstOrigin.{FirstOrigin}
use Rattle.shader_passes.specs.Facts.{origin_at}

-- the visitor after an operand
abbrev pub origin_after : FirstOrigin → ℕ × Label → FirstOrigin
origin_after first operand = record first { origin = option_or first.origin (origin_at first.facts.now operand.0) }
