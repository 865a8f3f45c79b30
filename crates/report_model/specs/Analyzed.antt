-- What a report knows of a module.
use Rattle.std.specs.Prelude.{◌≡◌, ◌≢◌, ◌&&◌, Bool, true, false, List, Option, Some, None, Result, Ok, Err, is_none, is_ok, length}
use Rattle.shader_analysis.specs.Fitting.{AllFit, AllUnrestricted}
use Rattle.shader_analysis.specs.Processed.{site_of}
use Rattle.shader_analysis.specs.Recorded.{Recorded}
use Rattle.shader_analysis.specs.Recording.{RecordsAllPairs}
use Rattle.shader_analysis.specs.Validity.{HasLayoutFault, IsLaidOut}
use Rattle.shader_analysis_spec.specs.Exact.{IsExactModule}
use Rattle.shader_analysis_spec.specs.Faults.{IsAccepted, IsFirstFault, Settings}
use Rattle.shader_analysis_spec.specs.Program.{Module}
use Rattle.shader_info.specs.declared.error.AnalysisError.{AnalysisError}
use Rattle.shader_info.specs.declared.error.FunctionError.TheVariants.{OutOfMemory}
use Rattle.shader_ir.specs.Layout.{AreFaultless, layouts_of}
use Rattle.shader_ir.specs.declared.«module».GlobalCtx.{GlobalCtx}
use Rattle.shader_ir.specs.declared.proc.layouter.LayoutError.{LayoutError}
use Rattle.shader_ir.specs.declared.proc.layouter.TypeLayout.{TypeLayout}
use Rattle.shader_passes.specs.Causes.{IsNamed}
use Rattle.shader_passes.specs.InfoOf.{infos_of}
use Rattle.shader_resolve.specs.ContextLaws.{IsCtxOf}
use Rattle.shader_resolve.specs.FaultyLocations.{IsFirstModuleFault}
use Rattle.shader_resolve.specs.WellFormed.{IsWellFormed, ModuleHasFault}
use Rattle.shader_resolve.specs.declared.well_formed.locations.FaultAt.{FaultAt}
use Rattle.shader_uniformity.specs.Fault.{AreAllKnown, IsVerdict}
use Rattle.shader_uniformity.specs.declared.divergence.Uniformity.{Uniformity}
use Rattle.report_model.specs.declared.analyzed.Analysis.{Analysis}
use Rattle.report_model.specs.declared.analyzed.Analyzed.{Analyzed}
use Rattle.report_model.specs.declared.analyzed.Analyzed.TheVariants.{Fault, WellFormed}

-- all types have a layout, and the analysis accepts the module
abbrev pub is_sound : Option LayoutError → Result Recorded AnalysisError → Bool
is_sound layout_error info = is_none layout_error && is_ok info

abbrev is_uniform : Bool → Option Uniformity → Bool
is_uniform sound None = sound
is_uniform sound (Some found) = is_none found.fault

-- a module is accepted if nothing that was checked is at fault
abbrev pub is_accepted : Analyzed → Bool
is_accepted (Fault found) = false
is_accepted (WellFormed analysis) = is_uniform (is_sound analysis.layout_error analysis.info) analysis.uniformity

abbrev pub uniformity_of : Analyzed → Option Uniformity
uniformity_of (Fault found) = None
uniformity_of (WellFormed analysis) = analysis.uniformity

-- the infos of a module that the analysis accepts
abbrev of_ok : Result Recorded AnalysisError → Option Recorded
of_ok (Ok info) = Some info
of_ok (Err error) = None

abbrev pub info_of : Analyzed → Option Recorded
info_of (Fault found) = None
info_of (WellFormed analysis) = of_ok analysis.info

-- the layouts and infos of a module of which all types have a layout, too
abbrev of_sound : List TypeLayout → Option LayoutError → Result Recorded AnalysisError → Option (List TypeLayout × Recorded)
of_sound layouts None (Ok info) = Some (layouts, info)
of_sound layouts None (Err error) = None
of_sound layouts (Some error) info = None

abbrev pub sound_of : Analyzed → Option (List TypeLayout × Recorded)
sound_of (Fault found) = None
sound_of (WellFormed analysis) = of_sound analysis.layouts analysis.layout_error analysis.info

module _ (m : Module) where
  -- the fault is there, at the first faulty location
  pub record IsFaultFound (found : FaultAt) : Type 0 where
    pub first : IsFirstModuleFault m found.location found.fault
    pub is_there : ModuleHasFault m found.fault

  -- each type has one of the layouts
  pub record AreAllLayouts (layouts : List TypeLayout) : Type 0 where
    pub ctx : GlobalCtx
    pub of : IsCtxOf m ctx
    pub faultless : AreFaultless ctx 0 (length m.types)
    pub all : layouts ≡ layouts_of ctx

  -- these are all layouts, or the error names the first type without one
  abbrev pub AreLayouts : List TypeLayout → Option LayoutError → Type 0
  AreLayouts layouts None = AreAllLayouts layouts
  AreLayouts layouts (Some error) = HasLayoutFault m error

  -- the module has no fault, and the info is exactly what is defined over all chains of calls
  pub record IsExactInfo (settings : Settings) (info : Recorded) : Type 0 where
    pub accepted : IsAccepted m settings
    pub exact : IsExactModule m info.global_expressions (infos_of info.functions) (infos_of info.entry_points)
    pub pairs : RecordsAllPairs m info
    pub fit : AllFit m info
    pub unrestricted : AllUnrestricted info

  -- a fault of the first faulty location; an allocation failure is none
  pub record IsFirstError (settings : Settings) (error : AnalysisError) : Type 0 where
    pub first : IsNamed (IsFirstFault m settings (site_of error.place)) error.cause
    pub fault : error.cause ≢ OutOfMemory

  abbrev pub IsInfo : Settings → Result Recorded AnalysisError → Type 0
  IsInfo settings (Ok info) = IsExactInfo settings info
  IsInfo settings (Err error) = IsFirstError settings error

  -- the fault is the first function or entry point where control flow has to be uniform and isn't
  pub record IsUniformity (found : Uniformity) : Type 0 where
    pub functions : AreAllKnown m found.functions
    pub fault : IsVerdict m found.functions found.fault

  -- control flow is decided exactly if it is to be checked and nothing else is at fault
  abbrev pub IsUniformityIf : Bool → Option Uniformity → Type 0
  IsUniformityIf true (Some found) = IsUniformity found
  IsUniformityIf true None = ⊥
  IsUniformityIf false found = found ≡ None

  pub record IsAnalysis (settings : Settings) (checks_uniformity : Bool) (analysis : Analysis) : Type 0 where
    pub well_formed : IsWellFormed m
    pub layouts : AreLayouts analysis.layouts analysis.layout_error
    pub info : IsInfo settings analysis.info
    pub uniformity : IsUniformityIf (checks_uniformity && is_sound analysis.layout_error analysis.info) analysis.uniformity

  abbrev pub IsAnalyzed : Settings → Bool → Analyzed → Type 0
  IsAnalyzed settings checks_uniformity (Fault found) = IsFaultFound found
  IsAnalyzed settings checks_uniformity (WellFormed analysis) = IsAnalysis settings checks_uniformity analysis
