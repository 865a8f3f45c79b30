-- Laws: infos that meet the step equations are sound and complete for the interprocedural definitions.
use Rattle.std.specs.Prelude.{◌≡◌, List, length}
use Rattle.shader_analysis_spec.specs.Exact.{IsExact}
use Rattle.shader_analysis_spec.specs.Infos.{Info, EachNamed, IsOrdered, Pairwise}
use Rattle.shader_analysis_spec.specs.Program.{Function, Module}
use Rattle.shader_analysis_spec.specs.Steps.{MeetsSteps}

-- one step: if the infos of the functions that f names are exact and f's info meets the step equations, f's info is exact
abbrev pub StepIsExact : Type 0
StepIsExact = (m : Module) (infos : List Info) (f : Function) (info : Info) →
    EachNamed (IsExact m) m infos f → MeetsSteps m infos f info → IsExact m f info

-- the whole: infos that meet the step equations of functions that name only earlier ones are exact
abbrev pub SummariesEqualCallPaths : Type 0
SummariesEqualCallPaths = (m : Module) (infos : List Info) → length m.functions ≡ length infos →
    IsOrdered m → Pairwise (MeetsSteps m infos) m infos → Pairwise (IsExact m) m infos
