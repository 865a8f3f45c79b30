-- The result type of a built-in function in a module.
use Rattle.std.specs.Prelude.{ℕ, Bool, Option, Some, None}
use Rattle.std.specs.Map.{lookup}
use Rattle.shader_ir.specs.contracts.«module».PredeclaredTypePartialEq.TheImpl as predeclared
use Rattle.shader_ir.specs.declared.«module».PredeclaredType.{PredeclaredType}
use Rattle.shader_ir.specs.declared.«module».SpecialTypes.{SpecialTypes}
use Rattle.shader_ir.specs.declared.proc.type_resolution.TypeResolution.{TypeResolution}
use Rattle.shader_ir.specs.declared.proc.type_resolution.TypeResolution.TheVariants as resolutions
use Rattle.shader_ir.specs.Key.{IsNoStruct}
use Rattle.shader_overloads.specs.declared.rule.Conclusion.{Conclusion}
use Rattle.shader_overloads.specs.declared.rule.Conclusion.TheVariants.{Value, Predeclared}

abbrev pub same_predeclared : PredeclaredType → PredeclaredType → Bool
same_predeclared = predeclared.ghosts.eq

-- the type that a module registers for a built-in function's result
abbrev pub registered : SpecialTypes → PredeclaredType → Option ℕ
registered special predeclared = lookup (same_predeclared predeclared) special.predeclared_types

abbrev pub found_resolution : Option ℕ → Option TypeResolution
found_resolution (Some handle) = Some (resolutions.Handle handle)
found_resolution None = None

-- the conclusion isn't a struct outside the arena
abbrev pub ConcludesNoMembers : Conclusion → Type 0
ConcludesNoMembers (Value inner) = IsNoStruct inner
ConcludesNoMembers (Predeclared predeclared) = Unit {0}

-- the type that a conclusion stands for, if the module has it
abbrev pub resolution_of : SpecialTypes → Conclusion → Option TypeResolution
resolution_of special (Value inner) = Some (resolutions.Value inner)
resolution_of special (Predeclared predeclared) = found_resolution (registered special predeclared)
