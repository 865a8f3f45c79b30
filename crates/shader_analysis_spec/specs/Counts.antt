-- Reference counts of expressions.
use Rattle.std.specs.Prelude.{ℕ, ◌+◌, List, [], ◌∷◌, if◌then◌else◌, nat_eq}
use Rattle.shader_analysis_spec.specs.Program.{Function, Label, occurrences}

-- 1 for the expression itself, 0 for any other
abbrev pub one_of : ℕ → ℕ → ℕ
one_of e operand = if nat_eq operand e then 1 else 0

-- the number of occurrences of the expression among the operands
abbrev pub times : ℕ → List (ℕ × Label) → ℕ
times e [] = 0
times e (occurrence ∷ rest) = one_of e occurrence.0 + times e rest

-- the number of occurrences of the expression in the function
abbrev pub count_of : Function → ℕ → ℕ
count_of f e = times e (occurrences f)
