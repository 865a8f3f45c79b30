-- The function `fn double(a: T) -> T { return a + a; }`.
use Rattle.std.specs.Prelude.{◌≡◌, ℕ, [], ◌∷◌, Some, None}
use Rattle.shader_typing.specs.BinaryOperator.TheVariants.{Add}
use Rattle.shader_typing.specs.Body.{Emit, Return, End, Then, Leaf}
use Rattle.shader_typing.specs.Expression.TheVariants.{Binary, FunctionArgument}
use Rattle.shader_typing.specs.Function.{Function}

-- expression 0 is the argument and expression 1 the sum, which an Emit evaluates and a Return returns
pub record Doubles (ty : ℕ) (f : Function) : Type 0 where
  pub arguments : f.arguments ≡ record { name = None; ty = ty; binding = None } ∷ []
  pub result : f.result ≡ Some (record { ty = ty; binding = None })
  pub expressions : f.expressions ≡ FunctionArgument 0 ∷ Binary Add 0 0 ∷ []
  pub body : f.body ≡ Then (Leaf (Emit 1 2)) (Then (Leaf (Return (Some 1))) End)
