-- The whole record of an analysed module.
use Rattle.shader_analysis.specs.Fitting.{AllFit, AllUnrestricted}
use Rattle.shader_analysis.specs.Recorded.{Recorded}
use Rattle.shader_analysis.specs.Recording.{RecordsAllPairs}
use Rattle.shader_analysis_spec.specs.Exact.{IsExactModule}
use Rattle.shader_analysis_spec.specs.Program.{Module}
use Rattle.shader_passes.specs.InfoOf.{infos_of}

-- the infos are exact for the module, record its pairs, fit, and restrict nothing: what `analyze_module` ensures whatever the settings
pub record IsExactRecord (m : Module) (info : Recorded) : Type 0 where
  pub exact : IsExactModule m info.global_expressions (infos_of info.functions) (infos_of info.entry_points)
  pub pairs : RecordsAllPairs m info
  pub fit : AllFit m info
  pub unrestricted : AllUnrestricted info
