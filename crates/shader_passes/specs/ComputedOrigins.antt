-- The origins that the passes compute of expressions are those of the step equation.
use Rattle.std.specs.Prelude.{◌≡◌, ℕ, List, Option, Some, slice_get}
use Rattle.shader_analysis_spec.specs.Infos.{IsWitness}
use Rattle.shader_analysis_spec.specs.Program.{Function, Module}
use Rattle.shader_analysis_spec.specs.Steps.{StepOrigin}
use Rattle.shader_info.specs.declared.info.FunctionInfo.{FunctionInfo}
use Rattle.shader_passes.specs.Results.{computed_origins}
use Rattle.shader_passes.specs.InfoOf.{PointsBackwards, infos_of}

abbrev pub OriginsAreOfTheStep : Type 0
OriginsAreOfTheStep = (m : Module) (infos : List FunctionInfo) (f : Function) → PointsBackwards f →
    (e : ℕ) (o : Option ℕ) → slice_get (computed_origins m infos f) e ≡ Some o → IsWitness (StepOrigin m (infos_of infos) f e) o
