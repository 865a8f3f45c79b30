-- Reference counts and uses after some occurrences of operands.
use Rattle.std.specs.Prelude.{ℕ, ◌+◌, ◌-◌, ◌^◌, Bool, List, Option, Some, None, length, slice_index}
use Rattle.std.specs.Prelude.{slice_set, bit_or, if◌then◌else◌, nat_lt, ◌&&◌, nat_eq}
use Rattle.shader_ir.specs.declared.proc.operands.Label.{Label}
use Rattle.shader_ir.specs.declared.proc.operands.Label.TheVariants.{Part, Read, Write, ReadWrite, Query, Atomic}
use Rattle.shader_passes.specs.Facts.{Fact}
use Rattle.shader_passes.specs.Facts.{root_at}

-- the bits of a label's uses
abbrev pub bits : Label → ℕ
bits Part = 0
bits Read = 1
bits Write = 2
bits ReadWrite = 3
bits Query = 4
bits Atomic = 8

-- the counts, the uses, and an expression whose count overflows
abbrev pub CountsAndUses : Type 0
CountsAndUses = List ℕ × List ℕ × Option ℕ

-- the expression's count is the greatest number
abbrev pub is_full : List ℕ → ℕ → Bool
is_full counts e = nat_lt e (length counts) && nat_eq (slice_index counts e) (2 ^ 64 - 1)

-- the counts after one more occurrence of the expression; a full count stays
abbrev pub counts_after : List ℕ → ℕ → List ℕ
counts_after counts e = if is_full counts e then counts else slice_set counts e (slice_index counts e + 1)

-- the uses of the globals after an operand with this root and these labels
abbrev pub uses_after : Option ℕ → List ℕ → ℕ → List ℕ
uses_after (Some g) uses labels = slice_set uses g (bit_or (slice_index uses g) labels)
uses_after None uses labels = uses

-- all three after one more occurrence of an operand
abbrev pub ref_counts_after : List Fact → CountsAndUses → ℕ × Label → CountsAndUses
ref_counts_after facts t operand = (
  counts_after t.0 operand.0,
  uses_after (root_at facts operand.0) t.1 (bits operand.1),
  if is_full t.0 operand.0 then Some operand.0 else t.2,
)
