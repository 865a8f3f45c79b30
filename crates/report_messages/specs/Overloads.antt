-- The argument at fault in a call of a built-in function.
use Rattle.std.specs.Prelude.{◌≡◌, ℕ, suc, List, true, false, is_some, take}
use Rattle.shader_ir.specs.declared.operators.MathFunction.{MathFunction}
use Rattle.shader_ir.specs.declared.types.«Type».{«Type»}
use Rattle.shader_ir.specs.declared.types.TypeInner.{TypeInner}
use Rattle.shader_overloads.specs.Builtins.{rule_meant}

-- an overload accepts the arguments before it, and none accepts it too
pub record IsAtFault (types : List «Type») (function : MathFunction) (arguments : List TypeInner) (i : ℕ) : Type 0 where
  pub accepted : is_some (rule_meant types function (take i arguments)) ≡ true
  pub refused : is_some (rule_meant types function (take (suc i) arguments)) ≡ false
