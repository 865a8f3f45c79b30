-- Laws on tables that grow.
use Rattle.std.specs.Prelude.{◌≡◌, ◌≤◌, ℕ, List, All, Some, length, slice_get}
use Rattle.shader_analysis_spec.specs.Derivable.{Derives}
use Rattle.shader_ir.specs.declared.expression.Expression.{Expression}
use Rattle.shader_ir.specs.declared.proc.type_resolution.TypeResolution.{TypeResolution}
use Rattle.shader_ir.specs.declared.types.«Type».{«Type»}
use Rattle.shader_ir.specs.Key.{FitsTypes}
use Rattle.shader_ir.specs.TypeTree.{IsBackward}
use Rattle.shader_resolve.specs.Context.{Context}
use Rattle.shader_typifier.specs.Grown.{Grows}
use Rattle.shader_typifier.specs.Registered.{with_resolution}

-- the types are derivable for the first expressions, in order
abbrev pub AreDerived : Context → List Expression → List TypeResolution → Type 0
AreDerived context expressions stored = (e : ℕ) (resolution : TypeResolution) → slice_get stored e ≡ Some resolution →
    Derives context expressions e resolution

-- a table whose types are derivable grows by such types
abbrev pub GrownTypesAreDerived : Type 0
GrownTypesAreDerived = (context : Context) (expressions : List Expression) (old stored : List TypeResolution) →
    AreDerived context expressions old → Grows context expressions old stored → AreDerived context expressions stored

-- types that fit an arena fit a longer one
abbrev pub TypesFitLargerArenas : Type 0
TypesFitLargerArenas = (types more : List «Type») (stored : List TypeResolution) → length types ≤ length more →
    All (FitsTypes types) stored → All (FitsTypes more) stored

-- an arena in which a type of the table was registered meets the preconditions for the table to
-- grow
abbrev pub RegisteredTypesFit : Type 0
RegisteredTypesFit = (types : List «Type») (stored : List TypeResolution) (e : ℕ) (resolution : TypeResolution) → IsBackward types →
    All (FitsTypes types) stored → slice_get stored e ≡ Some resolution →
    IsBackward (with_resolution types resolution) × All (FitsTypes (with_resolution types resolution)) stored
