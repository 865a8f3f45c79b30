-- Preconditions of the analysis on the globals that a function names and on the stored infos.
use Rattle.std.specs.Prelude.{◌≡◌, ℕ, ◌<◌, List, Some, slice_get, length}
use Rattle.shader_ir.specs.declared.expression.Expression.TheVariants as form
use Rattle.shader_analysis_spec.specs.Program.{Function, Module, IsExpressionAt}
use Rattle.shader_info.specs.declared.info.FunctionInfo.{FunctionInfo}

-- each global that the function names exists
abbrev pub GlobalsWithin : Module → Function → Type 0
GlobalsWithin m f = (e g : ℕ) → IsExpressionAt f e (form.GlobalVariable g) → g < length m.global_variables

-- each stored info has an entry for each global
abbrev pub EachFits : Module → List FunctionInfo → Type 0
EachFits m infos = (c : ℕ) (info : FunctionInfo) → slice_get infos c ≡ Some info → length info.global_uses ≡ length m.global_variables
