-- Calls of built-in functions: the remaining rules, and the conclusion of the preferred one.
use Rattle.std.specs.Prelude.{◌+◌, ◌&&◌, ℕ, Bool, true, List, [], ◌∷◌, filter, Option, Some, None}
use Rattle.shader_ir.specs.declared.operators.MathFunction.{MathFunction}
use Rattle.shader_overloads.specs.declared.rule.Conclusion.{Conclusion}
use Rattle.shader_overloads.specs.declared.rule.Rule.{Rule}
use Rattle.shader_overloads.specs.Builtins.{acceptance_of, rules_of}
use Rattle.shader_type_text.specs.declared.types.SpelledType.{SpelledType}
use Rattle.shader_type_text.specs.Insertions.{own_inner, own_types}

-- whether a rule accepts the type as the argument at a position
abbrev pub takes_argument : MathFunction → ℕ → SpelledType → Rule → Bool
takes_argument function position spelled rule = acceptance_of function (own_types spelled) position (own_inner spelled) rule

-- whether a rule accepts the arguments, of which the first has the position
abbrev pub takes_all : MathFunction → ℕ → List SpelledType → Rule → Bool
takes_all function position [] rule = true
takes_all function position (argument ∷ arguments) rule = takes_argument function position argument rule
    && takes_all function (position + 1) arguments rule

-- the rules of the built-in function that accept all arguments, in order
abbrev pub rules_left : MathFunction → List SpelledType → List Rule
rules_left function arguments = filter (takes_all function 0 arguments) (rules_of function)

abbrev pub conclusion_of_first : List Rule → Option Conclusion
conclusion_of_first [] = None
conclusion_of_first (rule ∷ rules) = Some rule.conclusion

-- the type of the call, if a rule remains
abbrev pub call_conclusion : MathFunction → List SpelledType → Option Conclusion
call_conclusion function arguments = conclusion_of_first (rules_left function arguments)
