-- The function at a location of a module, and the infos before it.
use Rattle.std.specs.Prelude.{◌≡◌, ℕ, ◌≤◌, List, Some, slice_get, length, take}
use Rattle.shader_analysis_spec.specs.Faults.{Site, OfGlobalExpression, OfFunction, OfEntryPoint}
use Rattle.shader_analysis_spec.specs.Program.{Function, Module}
use Rattle.shader_info.specs.declared.error.AnalysisLocation.{AnalysisLocation}
use Rattle.shader_info.specs.declared.error.AnalysisLocation.TheVariants as location
use Rattle.shader_info.specs.declared.info.FunctionInfo.{FunctionInfo}
use Rattle.shader_ir.specs.declared.function.EntryPoint.{EntryPoint}
use Rattle.shader_analysis.specs.Recorded.{Recorded}
use Rattle.shader_analysis.specs.Analyzable.{AreStored}

abbrev pub site_of : AnalysisLocation → Site
site_of (location.ConstExpression e) = OfGlobalExpression e
site_of (location.Function f) = OfFunction f
site_of (location.EntryPoint i) = OfEntryPoint i

-- f is the function at the location; a global expression has none
abbrev pub IsFunctionAt : Module → AnalysisLocation → Function → Type 0
IsFunctionAt m (location.ConstExpression e) f = ⊥
IsFunctionAt m (location.Function i) f = slice_get m.functions i ≡ Some f
IsFunctionAt m (location.EntryPoint i) f = (entry : EntryPoint) × (slice_get m.entry_points i ≡ Some entry) × (entry.function ≡ f)

abbrev pub HasFunction : Module → AnalysisLocation → Type 0
HasFunction m at = (f : Function) × IsFunctionAt m at f

-- the info recorded of a location; a global expression has none
abbrev pub IsInfoAt : Recorded → AnalysisLocation → FunctionInfo → Type 0
IsInfoAt recorded (location.ConstExpression e) info = ⊥
IsInfoAt recorded (location.Function i) info = slice_get recorded.functions i ≡ Some info
IsInfoAt recorded (location.EntryPoint i) info = slice_get recorded.entry_points i ≡ Some info

-- the number of functions before the location; all functions come before an entry point
abbrev pub functions_before : Module → AnalysisLocation → ℕ
functions_before m (location.ConstExpression e) = 0
functions_before m (location.Function i) = i
functions_before m (location.EntryPoint i) = length m.functions

-- the infos of the functions before the location
abbrev pub infos_before : Module → Recorded → AnalysisLocation → List FunctionInfo
infos_before m recorded at = take (functions_before m at) recorded.functions

-- there is a function at the location, and an info that fits is stored of each function before it
pub record CanProcess (m : Module) (recorded : Recorded) (at : AnalysisLocation) : Type 0 where
  pub function : HasFunction m at
  pub before : functions_before m at ≤ length recorded.functions
  pub stored : AreStored m (infos_before m recorded at)
