-- The type of a call of a built-in function.
use Rattle.std.specs.Prelude.{List, [], ◌∷◌, Option, Some, None, slice_get}
use Rattle.shader_ir.specs.declared.«module».SpecialTypes.{SpecialTypes}
use Rattle.shader_ir.specs.declared.operators.MathFunction.{MathFunction}
use Rattle.shader_ir.specs.declared.types.«Type».{«Type»}
use Rattle.shader_ir.specs.declared.types.TypeInner.{TypeInner}
use Rattle.shader_ir.specs.declared.proc.type_resolution.TypeResolution.{TypeResolution}
use Rattle.shader_overloads.specs.declared.overload_set.SetCall.{SetCall}
use Rattle.shader_overloads.specs.declared.overload_set.SetCall.TheVariants.{Arg}
use Rattle.shader_overloads.specs.declared.rule.Rule.{Rule}
use Rattle.shader_overloads.specs.Builtins.{acceptance_of, rules_of}
use Rattle.shader_overloads.specs.Remaining.{remaining}
use Rattle.shader_overloads.specs.Resolutions.{resolution_of}
use Rattle.shader_resolve.specs.Outcome.{BuiltinArgumentsInvalid, MissingSpecialType, Outcome, Given, Refused, at_shape}

-- the outcome of a conclusion's type, if the module has it
abbrev pub concluded : Option TypeResolution → Outcome
concluded (Some resolution) = Given resolution
concluded None = Refused MissingSpecialType

-- the outcome of a rule, if any
abbrev pub ruled : SpecialTypes → Option Rule → Outcome
ruled special (Some rule) = concluded (resolution_of special rule.conclusion)
ruled special None = Refused BuiltinArgumentsInvalid

-- the outcome of the first rule
abbrev pub first_conclusion : SpecialTypes → List Rule → Outcome
first_conclusion special rules = ruled special (slice_get rules 0)

module _ (types : List «Type») (fun : MathFunction) where
  -- the rules of the built-in function that remain after the calls
  abbrev pub rules_after : List SetCall → List Rule
  rules_after calls = remaining (acceptance_of fun) types calls (rules_of fun)

  -- the rules that accept a first argument of this shape
  abbrev pub rules_after_one : TypeInner → List Rule
  rules_after_one first = rules_after (Arg 0 first ∷ [])

  -- the rules that accept a first and a second argument of these shapes
  abbrev pub rules_after_two : TypeInner → TypeInner → List Rule
  rules_after_two first second = rules_after (Arg 0 first ∷ Arg 1 second ∷ [])

module _ (types : List «Type») (special : SpecialTypes) (fun : MathFunction) where
  -- the type of a call, by its first argument
  abbrev pub math_of_one : TypeResolution → Outcome
  math_of_one first = at_shape types first (λ inner. first_conclusion special (rules_after_one types fun inner))

  -- the type of a call, by its first two arguments; a third and a fourth have no influence
  abbrev pub math_of_two : TypeResolution → TypeResolution → Outcome
  math_of_two first second =
      at_shape types first (λ first_inner. at_shape types second
      (λ second_inner. first_conclusion special (rules_after_two types fun first_inner second_inner)))
