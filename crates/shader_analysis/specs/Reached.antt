-- The items of a module that the analysis reaches.
use Rattle.std.specs.Prelude.{◌<◌, length}
use Rattle.shader_analysis_spec.specs.Faults.{Cause, ComesBefore, ModuleFault, OfEntryPoint, OfFunction, OfGlobalExpression, Settings, Site}
use Rattle.shader_analysis_spec.specs.Program.{Module}

-- the module has the item
abbrev pub HasSite : Module → Site → Type 0
HasSite m (OfGlobalExpression e) = e < length m.global_expressions
HasSite m (OfFunction i) = i < length m.functions
HasSite m (OfEntryPoint i) = i < length m.entry_points

-- the analysis reaches the item: it exists, and no item before it has a fault
pub record IsReached (m : Module) (settings : Settings) (site : Site) : Type 0 where
  pub there : HasSite m site
  pub clean : (other : Site) (reported : Cause) → ComesBefore other site → ModuleFault m settings other reported → ⊥
