-- Reference counts and uses in the records of expressions and of globals, after some occurrences of operands.
use Rattle.std.specs.Prelude.{ℕ, ◌+◌, ◌-◌, ◌^◌, Bool, false, List, ◌++◌, Option, Some, None, slice_get, slice_set, bit_or}
use Rattle.std.specs.Prelude.{if◌then◌else◌, nat_eq, map}
use Rattle.std.specs.List.{flat_map}
use Rattle.shader_info.specs.declared.flags.GlobalUse.{GlobalUse}
use Rattle.shader_info.specs.declared.info.ExpressionInfo.{ExpressionInfo}
use Rattle.shader_ir.specs.Occurs.{local_operands}
use Rattle.shader_ir.specs.Operands.{expression_operands}
use Rattle.shader_ir.specs.declared.function.Function.{Function}
use Rattle.shader_ir.specs.declared.proc.operands.Label.{Label}
use Rattle.shader_passes.specs.CountsAndUses.{CountsAndUses, bits}
use Rattle.shader_passes.specs.declared.counting.Counting.{Counting}
use Rattle.shader_passes.specs.Records.{root_in}

-- the count is the greatest number
abbrev pub is_full_record : ExpressionInfo → Bool
is_full_record record' = nat_eq record'.ref_count (2 ^ 64 - 1)

-- the record after one more occurrence of its expression; a full count stays
abbrev pub counted_once : ExpressionInfo → ExpressionInfo
counted_once record' = if is_full_record record' then record' else record record' { ref_count = record'.ref_count + 1 }

-- the records after one more occurrence of an expression, which has this record if it has one
abbrev pub records_after : List ExpressionInfo → ℕ → Option ExpressionInfo → List ExpressionInfo
records_after records e (Some found) = slice_set records e (counted_once found)
records_after records e None = records

-- the expression has a record with a full count
abbrev pub is_full_at : Option ExpressionInfo → Bool
is_full_at (Some found) = is_full_record found
is_full_at None = false

-- the last expression whose count overflows
abbrev pub full_after : Option ℕ → ℕ → Option ExpressionInfo → Option ℕ
full_after full e found = if is_full_at found then Some e else full

-- the uses of the globals after one of them, which has these uses if it is there, is used in more ways
abbrev pub uses_joined : List GlobalUse → ℕ → ℕ → Option GlobalUse → List GlobalUse
uses_joined uses g more (Some found) = slice_set uses g (record found { 0 = bit_or found.0 more })
uses_joined uses g more None = uses

abbrev pub uses_by : List GlobalUse → Option ℕ → ℕ → List GlobalUse
uses_by uses (Some g) more = uses_joined uses g more (slice_get uses g)
uses_by uses None more = uses

-- the records, the uses, and an expression whose count overflows
abbrev pub State : Type 0
State = List ExpressionInfo × List GlobalUse × Option ℕ

-- all three after an operand
abbrev pub state_after : List (Option ℕ) → State → ℕ × Label → State
state_after roots state operand = (
  records_after state.0 operand.0 (slice_get state.0 operand.0),
  uses_by state.1 (root_in roots operand.0) (bits operand.1),
  full_after state.2 operand.0 (slice_get state.0 operand.0),
)

abbrev pub state_of : Counting → State
state_of counting = (counting.records.now, counting.uses.now, counting.full)

abbrev pub with_state : Counting → State → Counting
with_state counting state = record counting {
  records = record counting.records { now = state.0 };
  uses = record counting.uses { now = state.1 };
  full = state.2;
}

-- the visitor after an operand
abbrev pub counting_after : Counting → ℕ × Label → Counting
counting_after counting operand = with_state counting (state_after counting.roots.now (state_of counting) operand)

-- the operands outside of the statements: those of the expressions, and the initial values of local variables
abbrev pub declared_operands : Function → List (ℕ × Label)
declared_operands function = flat_map expression_operands function.expressions ++ flat_map local_operands function.local_variables

-- the reference counts of records
abbrev pub counts_in : List ExpressionInfo → List ℕ
counts_in records = map (λ r. r.ref_count) records

-- the bits of uses
abbrev pub bits_in : List GlobalUse → List ℕ
bits_in uses = map (λ at. at.0) uses

-- the state as counts and bits
abbrev pub as_counts : State → CountsAndUses
as_counts state = (counts_in state.0, bits_in state.1, state.2)
