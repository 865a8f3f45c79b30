-- The analysis results for a module, as contracts see them.
use Rattle.std.specs.Prelude.{List}
use Rattle.shader_info.specs.declared.info.FunctionInfo.{FunctionInfo}
use Rattle.shader_ir.specs.declared.proc.type_resolution.TypeResolution.{TypeResolution}

-- the infos of the first functions and entry points, and the types of the first global expressions
pub record Recorded : Type 0 where
  pub functions : List FunctionInfo
  pub entry_points : List FunctionInfo
  pub global_expressions : List TypeResolution
