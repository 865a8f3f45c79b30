-- Validity of a module, and the reasons for which a module is refused.
use Rattle.std.specs.Prelude.{◌≡◌, ◌≢◌, ℕ, Some, None, length}
use Rattle.shader_analysis.specs.Fitting.{AllFit, AllUnrestricted}
use Rattle.shader_analysis.specs.Processed.{site_of}
use Rattle.shader_analysis.specs.Reached.{IsReached}
use Rattle.shader_analysis.specs.Recorded.{Recorded}
use Rattle.shader_analysis.specs.Recording.{RecordsAllPairs}
use Rattle.shader_analysis.specs.declared.valid.validation.ValidationError.{ValidationError}
use Rattle.shader_analysis.specs.declared.valid.validation.ValidationError.TheVariants as invalid
use Rattle.shader_analysis_spec.specs.Exact.{IsExactModule}
use Rattle.shader_analysis_spec.specs.Faults.{IsAccepted, IsFirstFault, Settings, Site}
use Rattle.shader_analysis_spec.specs.Program.{Module}
use Rattle.shader_info.specs.declared.error.AnalysisError.{AnalysisError}
use Rattle.shader_info.specs.declared.error.FunctionError.TheVariants.{OutOfMemory}
use Rattle.shader_ir.specs.Layout.{AreFaultless, fault_at}
use Rattle.shader_ir.specs.declared.«module».GlobalCtx.{GlobalCtx}
use Rattle.shader_ir.specs.declared.proc.layouter.LayoutError.{LayoutError}
use Rattle.shader_passes.specs.Causes.{IsNamed}
use Rattle.shader_passes.specs.InfoOf.{infos_of}
use Rattle.shader_resolve.specs.ContextLaws.{IsCtxOf}
use Rattle.shader_resolve.specs.WellFormed.{IsWellFormed, ModuleHasFault}

-- all types have a layout
pub record IsLaidOut (m : Module) : Type 0 where
  pub ctx : GlobalCtx
  pub of : IsCtxOf m ctx
  pub faultless : AreFaultless ctx 0 (length m.types)

-- the type that the error names is the first without a layout, for the reason that it names
pub record HasLayoutFault (m : Module) (error : LayoutError) : Type 0 where
  pub ctx : GlobalCtx
  pub of : IsCtxOf m ctx
  pub earlier : AreFaultless ctx 0 error.ty
  pub fault : fault_at ctx error.ty ≡ Some (Some error.inner)

-- the type at the position has a layout, and so have those before it
pub record HasLayoutUpTo (m : Module) (position : ℕ) : Type 0 where
  pub ctx : GlobalCtx
  pub of : IsCtxOf m ctx
  pub earlier : AreFaultless ctx 0 position
  pub itself : fault_at ctx position ≡ Some None

-- the module is well formed, all types have a layout, and the analysis accepts it
pub record IsValid (m : Module) (settings : Settings) : Type 0 where
  pub well_formed : IsWellFormed m
  pub laid_out : IsLaidOut m
  pub accepted : IsAccepted m settings

-- the module is valid, and the record is exact for it
pub record IsValidated (m : Module) (settings : Settings) (info : Recorded) : Type 0 where
  pub valid : IsValid m settings
  pub exact : IsExactModule m info.global_expressions (infos_of info.functions) (infos_of info.entry_points)
  pub pairs : RecordsAllPairs m info
  pub fit : AllFit m info
  pub unrestricted : AllUnrestricted info

-- the analysis refuses the module, which is well formed and laid out, with a fault of the first faulty location
pub record IsRefused (m : Module) (settings : Settings) (error : AnalysisError) : Type 0 where
  pub well_formed : IsWellFormed m
  pub laid_out : IsLaidOut m
  pub first : IsNamed (IsFirstFault m settings (site_of error.place)) error.cause
  pub fault : error.cause ≢ OutOfMemory

-- where memory may run out: for the layout of such a type, or, if all types have one, at an item that the analysis reaches
pub data MayRunOut (m : Module) (settings : Settings) : Type 0 where
  for_layout : (position : ℕ) → HasLayoutUpTo m position → MayRunOut m settings
  in_analysis : IsLaidOut m → (site : Site) → IsReached m settings site → MayRunOut m settings

-- the error is a reason for which the module isn't valid; an allocation failure is none, and comes of a well-formed module alone
abbrev pub IsReason : Module → Settings → ValidationError → Type 0
IsReason m settings (invalid.Fault fault) = ModuleHasFault m fault
IsReason m settings (invalid.Layout error) = IsWellFormed m × HasLayoutFault m error
IsReason m settings (invalid.Analysis error) = IsRefused m settings error
IsReason m settings invalid.OutOfMemory = IsWellFormed m × MayRunOut m settings
