-- Operands in order, some of which may be absent.
use Rattle.std.specs.Prelude.{ℕ, List, [], ◌∷◌, ◌++◌, Option, Some, None}
use Rattle.std.specs.Option.{option_to_list}
use Rattle.shader_ir.specs.declared.proc.operands.Label.{Label}
use Rattle.shader_ir.specs.declared.proc.operands.Label.TheVariants.{Read}

-- an operand that is read
abbrev pub read : ℕ → Option (ℕ × Label)
read expression = Some (expression, Read)

-- an operand that is read, if any
abbrev pub read_optional : Option ℕ → Option (ℕ × Label)
read_optional None = None
read_optional (Some expression) = Some (expression, Read)

-- operands that are read
abbrev pub reads : List ℕ → List (ℕ × Label)
reads [] = []
reads (expression ∷ expressions) = (expression, Read) ∷ reads expressions

-- the operands that are present
abbrev pub retained : List (Option (ℕ × Label)) → List (ℕ × Label)
retained [] = []
retained (slot ∷ slots) = option_to_list slot ++ retained slots
