-- What is found of a module under the options.
use Rattle.report_model.specs.Analyzed.{IsAnalyzed}
use Rattle.report_model.specs.Fitting.{Fits}
use Rattle.report_model.specs.declared.analyzed.Analyzed.{Analyzed}
use Rattle.shader_analysis_spec.specs.Program.{Module}
use Rattle.report_answers.specs.Options.{checks_uniformity, settings}
use Rattle.report_answers.specs.declared.options.Options.{Options}

-- it is found of the module with the checks that the options ask for, and can be printed with it
pub record IsAnalysisOf (options : Options) (m : Module) (analyzed : Analyzed) : Type 0 where
  pub are : IsAnalyzed m (settings options) (checks_uniformity options) analyzed
  pub fits : Fits m analyzed
