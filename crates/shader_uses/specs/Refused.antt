-- The overloads of a built-in function that accept some arguments.
use Rattle.std.specs.Prelude.{List}
use Rattle.shader_typing.specs.MathFunction.{MathFunction}
use Rattle.shader_typing.specs.OverloadsBuiltins.{acceptance_of, rules_of}
use Rattle.shader_typing.specs.Remaining.{remaining, supplying}
use Rattle.shader_typing.specs.Rule.{Rule}
use Rattle.shader_typing.specs.TypeInner.{TypeInner}
use Rattle.shader_typing.specs.«Type».{«Type»}

abbrev pub overloads_for : List «Type» → MathFunction → List TypeInner → List Rule
overloads_for types function arguments = remaining (acceptance_of function) types (supplying 0 arguments) (rules_of function)
