-- What a back end checks, of a function and of a module.
use Rattle.std.specs.Prelude.{◌≡◌, ◌↔◌, ◌++◌, ◌∷◌, [], ℕ, Contains, List, Some, length, map, slice_get}
use Rattle.std.specs.List.Sorted.{IsStrictlyIncreasing}
use Rattle.shader_analysis.specs.Recorded.{Recorded}
use Rattle.shader_analysis_spec.specs.Exact.{IsExactModule}
use Rattle.shader_analysis_spec.specs.Program.{Function, Module}
use Rattle.shader_bounds.specs.Checked.{IsCheckedIndex}
use Rattle.shader_bounds.specs.Lengths.{AreSizesKnown}
use Rattle.shader_bounds.specs.Locals.{IsOutOfBoundsType}
use Rattle.shader_bounds.specs.Typed.{Records}
use Rattle.shader_bounds.specs.declared.policies.BoundsCheckPolicies.{BoundsCheckPolicies}
use Rattle.shader_info.specs.declared.info.FunctionInfo.{FunctionInfo}
use Rattle.shader_ir.specs.declared.function.EntryPoint.{EntryPoint}
use Rattle.shader_passes.specs.InfoOf.{infos_of}
use Rattle.shader_report_bounds.specs.Accesses.{accesses_of}
use Rattle.shader_report_bounds.specs.Sizes.{first_unsized}
use Rattle.shader_report_bounds.specs.declared.function.FunctionBounds.{FunctionBounds}
use Rattle.shader_report_bounds.specs.declared.module_bounds.ModuleBounds.{ModuleBounds}
use Rattle.shader_report_bounds.specs.declared.module_bounds.ModuleBounds.TheVariants.{Found, Unsized}

module _ (m : Module) (f : Function) (info : FunctionInfo) (policies : BoundsCheckPolicies) where
  -- the checked indexes, ascending
  pub record AreCheckedIndexes (indexes : List ℕ) : Type 0 where
    pub ascending : IsStrictlyIncreasing indexes
    pub members : (e : ℕ) → Contains indexes e ↔ IsCheckedIndex m f (Records info) policies e

  -- the types that need a local variable, ascending
  pub record AreLocalTypes (types : List ℕ) : Type 0 where
    pub ascending : IsStrictlyIncreasing types
    pub members : (ty : ℕ) → Contains types ty ↔ IsOutOfBoundsType m f (Records info) policies ty

  pub record IsFunctionBounds (bounds : FunctionBounds) : Type 0 where
    pub accesses : bounds.accesses.items ≡ accesses_of m f info policies
    pub checked_indexes : AreCheckedIndexes bounds.checked_indexes.items
    pub local_types : AreLocalTypes bounds.local_types.items

  -- the bounds of one more function
  pub record AddsBounds (old new : List FunctionBounds) : Type 0 where
    pub bounds : FunctionBounds
    pub are : IsFunctionBounds bounds
    pub added : new ≡ old ++ bounds ∷ []

module _ (m : Module) where
  abbrev pub entry_functions : List Function
  entry_functions = map (λ (entry : EntryPoint). entry.function) m.entry_points

  -- the infos are exact: they record what holds over all call paths
  abbrev pub AreExact : Recorded → Type 0
  AreExact infos = IsExactModule m infos.global_expressions (infos_of infos.functions) (infos_of infos.entry_points)

module _ (m : Module) (policies : BoundsCheckPolicies) where
  -- the bounds of the first functions, each given with its info
  pub record AreFirst (functions : List Function) (infos : List FunctionInfo) (count : ℕ) (bounds : List FunctionBounds) : Type 0 where
    pub many : length bounds ≡ count
    pub each : (i : ℕ) (f : Function) (info : FunctionInfo) (of : FunctionBounds) → slice_get functions i ≡ Some f →
        slice_get infos i ≡ Some info → slice_get bounds i ≡ Some of → IsFunctionBounds m f info policies of

  -- the bounds of all functions
  abbrev pub AreBounds : List Function → List FunctionInfo → List FunctionBounds → Type 0
  AreBounds functions infos bounds = AreFirst functions infos (length functions) bounds

  -- sizes are known, and by the exact infos of the module these are its bounds
  pub record AreFound (functions entry_points : List FunctionBounds) : Type 0 where
    pub sizes : AreSizesKnown m
    pub infos : Recorded
    pub exact : AreExact m infos
    pub functions_are : AreBounds m.functions infos.functions functions
    pub entry_points_are : AreBounds (entry_functions m) infos.entry_points entry_points

  -- the override that is to be given a value first, or the bounds
  abbrev pub AreModuleBounds : ModuleBounds → Type 0
  AreModuleBounds (Unsized handle) = first_unsized m ≡ Some handle
  AreModuleBounds (Found functions entry_points) = AreFound functions.items entry_points.items
