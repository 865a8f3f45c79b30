-- What is found of a module can be printed with it: it is well formed, and has as many items as was found of them.
use Rattle.std.specs.Prelude.{◌≡◌, List, Option, Some, None, Result, Ok, Err, ⊤, length}
use Rattle.shader_analysis.specs.Recorded.{Recorded}
use Rattle.shader_analysis_spec.specs.Program.{Module}
use Rattle.shader_info.specs.declared.error.AnalysisError.{AnalysisError}
use Rattle.shader_ir.specs.declared.proc.layouter.LayoutError.{LayoutError}
use Rattle.shader_ir.specs.declared.proc.layouter.TypeLayout.{TypeLayout}
use Rattle.shader_resolve.specs.WellFormed.{IsWellFormed}
use Rattle.report_model.specs.declared.analyzed.Analysis.{Analysis}
use Rattle.report_model.specs.declared.analyzed.Analyzed.{Analyzed}
use Rattle.report_model.specs.declared.analyzed.Analyzed.TheVariants.{Fault, WellFormed}

module _ (m : Module) where
  -- an info for each function and each entry point, and a type for each global expression
  pub record HasInfos (info : Recorded) : Type 0 where
    pub functions : length info.functions ≡ length m.functions
    pub entry_points : length info.entry_points ≡ length m.entry_points
    pub types : length info.global_expressions ≡ length m.global_expressions

  abbrev pub FitsInfo : Result Recorded AnalysisError → Type 0
  FitsInfo (Ok info) = HasInfos info
  FitsInfo (Err error) = ⊤

  -- a layout for each type, unless one has none
  abbrev pub FitsLayouts : List TypeLayout → Option LayoutError → Type 0
  FitsLayouts layouts None = length layouts ≡ length m.types
  FitsLayouts layouts (Some error) = ⊤

  pub record FitsAnalysis (analysis : Analysis) : Type 0 where
    pub well_formed : IsWellFormed m
    pub layouts : FitsLayouts analysis.layouts analysis.layout_error
    pub info : FitsInfo analysis.info

  abbrev pub Fits : Analyzed → Type 0
  Fits (Fault found) = ⊤
  Fits (WellFormed analysis) = FitsAnalysis analysis
