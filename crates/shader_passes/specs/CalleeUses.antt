-- Contributions of callees to a function's results, and uses of globals that are only named.
use Rattle.std.specs.Prelude.{ℕ, ◌&&◌, List, [], Option, Some, None, slice_get, slice_index, bit_and, bit_or}
use Rattle.std.specs.Prelude.{if◌then◌else◌, nat_eq, nat_lt, length, slice_set, unwrap_or, fold}
use Rattle.std.specs.Option.{option_map, option_or}
use Rattle.shader_arena.specs.Positions.{positions_between}
use Rattle.shader_ir.specs.Body.{Emit, Return, ControlBarrier, MemoryBarrier, WorkGroupUniformLoad, Call, CooperativeStore, Step, Leaf}
use Rattle.shader_ir.specs.Operands.{statement_operands}
use Rattle.shader_info.specs.declared.flags.GlobalUse.{GlobalUse}
use Rattle.shader_info.specs.declared.info.FunctionInfo.{FunctionInfo}
use Rattle.shader_passes.specs.Facts.{Fact}
use Rattle.shader_passes.specs.Facts.{first_origin, needs_at, result_origin_at, result_needs, root_at}

-- the bits of the uses at a position
abbrev pub bits_at : List GlobalUse → ℕ → ℕ
bits_at uses position = unwrap_or (option_map (λ at. bit_and at.0 15) (slice_get uses position)) 0

-- the recorded uses of a function
abbrev pub recorded_uses : List FunctionInfo → ℕ → List GlobalUse
recorded_uses infos function = unwrap_or (option_map (λ info. info.global_uses) (slice_get infos function)) []

abbrev pub called_uses : List FunctionInfo → ℕ → ℕ → ℕ
called_uses infos function g = bits_at (recorded_uses infos function) g

-- the uses of g joined with those of the functions that some statements call
abbrev pub uses_with_call : List FunctionInfo → ℕ → ℕ → Step → ℕ
uses_with_call infos g uses (Leaf (Call function arguments result)) = bit_or uses (called_uses infos function g)
uses_with_call infos g uses step = uses

abbrev pub uses_with_calls : List FunctionInfo → ℕ → ℕ → List Step → ℕ
uses_with_calls infos g uses steps = fold (uses_with_call infos g) uses steps

-- the uses after a global is named; it is queried if it has no use
abbrev pub named_once : List ℕ → Option ℕ → List ℕ
named_once uses (Some g) = if nat_lt g (length uses) && nat_eq (slice_index uses g) 0 then slice_set uses g 4 else uses
named_once uses None = uses

abbrev pub named_by : List Fact → List ℕ → ℕ → List ℕ
named_by facts uses expression = named_once uses (root_at facts expression)

-- an origin that a statement contributes to the function's result
abbrev pub statement_origin : List FunctionInfo → List Fact → Step → Option ℕ
statement_origin infos facts (Leaf (Return value)) = first_origin facts (statement_operands (Leaf (Return value)))
statement_origin infos facts (Leaf (CooperativeStore target tile)) =
    first_origin facts (statement_operands (Leaf (CooperativeStore target tile)))
statement_origin infos facts (Leaf (Call function arguments result)) = result_origin_at infos function
statement_origin infos facts _ = None

abbrev pub result_origin_after : List FunctionInfo → List Fact → Option ℕ → Step → Option ℕ
result_origin_after infos facts origin step = option_or origin (statement_origin infos facts step)

-- the needs of expressions, added to earlier needs
abbrev pub with_needs_in : List Fact → ℕ → List ℕ → ℕ
with_needs_in facts needs expressions = fold (λ needs expression. bit_or needs (needs_at facts expression)) needs expressions

-- the needs of a statement
abbrev pub statement_needs : List FunctionInfo → List Fact → Step → ℕ
statement_needs infos facts (Leaf (Emit start end)) = with_needs_in facts 0 (positions_between start end)
statement_needs infos facts (Leaf (ControlBarrier flags)) = 1
statement_needs infos facts (Leaf (MemoryBarrier flags)) = 1
statement_needs infos facts (Leaf (WorkGroupUniformLoad pointer result)) = 1
statement_needs infos facts (Leaf (CooperativeStore target tile)) = 8
statement_needs infos facts (Leaf (Call function arguments result)) = result_needs infos function
statement_needs infos facts _ = 0

abbrev pub with_needs_of : List FunctionInfo → List Fact → ℕ → Step → ℕ
with_needs_of infos facts needs step = bit_or needs (statement_needs infos facts step)
