-- Statements that call a function.
use Rattle.std.specs.Prelude.{Bool, true, false}
use Rattle.shader_ir.specs.Body.{Call, Leaf, Step}

-- the statement calls a function
abbrev pub is_call : Step → Bool
is_call (Leaf (Call function arguments result)) = true
is_call _ = false
