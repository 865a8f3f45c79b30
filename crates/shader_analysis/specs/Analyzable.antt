-- Preconditions of the analysis of a function.
use Rattle.std.specs.Prelude.{◌≡◌, ℕ, ◌≤◌, List, Some, slice_get, length, IsTrue, bit_and, ◌==◌}
use Rattle.shader_analysis_spec.specs.Filters.{Governs, HaveEarlierParents}
use Rattle.shader_analysis_spec.specs.Program.{Function, Module}
use Rattle.shader_info.specs.Fit.{Fits}
use Rattle.shader_info.specs.declared.flags.ValidationFlags.{ValidationFlags}
use Rattle.shader_info.specs.declared.info.FunctionInfo.{FunctionInfo}
use Rattle.shader_ir.specs.TypeTree.{IsBackward}
use Rattle.shader_ir.specs.declared.module.Severity.TheVariants as severity
use Rattle.shader_resolve.specs.ContextLaws.{FunctionFits}
use Rattle.shader_resolve.specs.WellFormed.{FunctionInRange}
use Rattle.shader_passes.specs.InfoOf.{PointsBackwards}

-- each stored info is one of the function at its position
pub record AreStored (m : Module) (infos : List FunctionInfo) : Type 0 where
  pub there : length infos ≤ length m.functions
  pub fit : (c : ℕ) (r : Function) (info : FunctionInfo) → slice_get m.functions c ≡ Some r → slice_get infos c ≡ Some info → Fits m r info

-- the preconditions of f's typing and of the passes over f, and the stored infos of the functions before it
pub record IsAnalyzable (m : Module) (infos : List FunctionInfo) (f : Function) : Type 0 where
  pub types : IsBackward m.types
  pub context : FunctionFits m f
  pub operands : PointsBackwards f
  pub handles : FunctionInRange m f
  pub filters : HaveEarlierParents m.diagnostic_filters
  pub stored : AreStored m infos

-- a non-uniform control flow violation is an error in the function
abbrev pub ChecksFlow : Module → Function → ValidationFlags → Type 0
ChecksFlow m f flags = IsTrue (bit_and flags.0 1 == 1) × Governs m.diagnostic_filters f.diagnostic_filter_leaf severity.Error
