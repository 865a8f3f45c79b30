-- A set of either kind, by its rules and by how it accepts arguments.
use Rattle.std.specs.Prelude.{ℕ, Bool, true, false, List}
use Rattle.shader_ir.specs.declared.types.«Type».{«Type»}
use Rattle.shader_ir.specs.declared.types.TypeInner.{TypeInner}
use Rattle.shader_overloads.specs.declared.rule.Rule.{Rule}
use Rattle.shader_overloads.specs.declared.any_overload_set.AnyOverloadSet.{AnyOverloadSet}
use Rattle.shader_overloads.specs.declared.any_overload_set.AnyOverloadSet.TheVariants as sets
use Rattle.shader_overloads.specs.Remaining.{accepts, list_accepts}

abbrev pub rules_in : AnyOverloadSet → List Rule
rules_in (sets.List rules) = rules
rules_in (sets.Regular rules) = rules

abbrev pub acceptance_in : AnyOverloadSet → List «Type» → ℕ → TypeInner → Rule → Bool
acceptance_in (sets.List rules) = list_accepts
acceptance_in (sets.Regular rules) = accepts

-- whether a set is a regular one
abbrev pub is_regular : AnyOverloadSet → Bool
is_regular (sets.List rules) = false
is_regular (sets.Regular rules) = true
