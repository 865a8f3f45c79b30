-- The required reports on functions and modules, by the interprocedural definitions.
use Rattle.std.specs.Prelude.{◌≡◌, ◌<◌, ◌↔◌, ◌++◌, ℕ, List, Some, slice_get, length, map, IsTrue, Contains}
use Rattle.std.specs.Int.{IsBitSet}
use Rattle.std.specs.List.{range_with_len}
use Rattle.std.specs.List.Sorted.{IsStrictlySortedBy}
use Rattle.shader_analysis_spec.specs.Counts.{count_of}
use Rattle.shader_analysis_spec.specs.Faults.{Cause, Untyped, MissingCapability, NoResource, BindingArrayElement, NonUniformControlFlow}
use Rattle.shader_analysis_spec.specs.Faults.{CountFull, Settings, IsAccepted, IsFirstFault}
use Rattle.shader_analysis_spec.specs.Infos.{Use, bit_of, InGlobal}
use Rattle.shader_analysis_spec.specs.Origins.{ResultOrigin}
use Rattle.shader_analysis_spec.specs.Pairs.{IsPair}
use Rattle.shader_analysis_spec.specs.Program.{Function, Module}
use Rattle.shader_analysis_spec.specs.Uses.{Uses}
use Rattle.shader_info.specs.declared.error.AnalysisLocation.{AnalysisLocation}
use Rattle.shader_info.specs.declared.error.AnalysisLocation.TheVariants as location
use Rattle.shader_info.specs.declared.flags.GlobalUse.{GlobalUse}
use Rattle.shader_info.specs.Recorded.{pair_cmp}
use Rattle.shader_analysis.specs.Processed.{IsFunctionAt, site_of}
use Rattle.sample_reports.specs.declared.report.FaultKind.{FaultKind}
use Rattle.sample_reports.specs.declared.report.FaultKind.TheVariants as kind
use Rattle.sample_reports.specs.declared.report.FunctionReport.{FunctionReport}
use Rattle.sample_reports.specs.declared.report.ModuleReport.{ModuleReport}
use Rattle.sample_reports.specs.declared.report.ModuleReport.TheVariants.{Accepted, Refused}
use Rattle.sample_reports.specs.declared.report.LocationReport.{LocationReport}

-- ---- the report on a function

-- the bits of the uses of each global
pub record AreUses (m : Module) (f : Function) (uses : List GlobalUse) : Type 0 where
  pub each : length uses ≡ length m.global_variables
  pub few : (g : ℕ) (used : GlobalUse) → slice_get uses g ≡ Some used → used.0 < 16
  pub bits : (g : ℕ) (used : GlobalUse) (u : Use) → slice_get uses g ≡ Some used → IsBitSet used.0 (bit_of u) ↔ Uses m f g u

-- the pairs of two globals, each once, in ascending order
pub record ArePairs (m : Module) (f : Function) (pairs : List (ℕ × ℕ)) : Type 0 where
  pub ascending : IsStrictlySortedBy pair_cmp pairs
  pub members : (image sampler : ℕ) → Contains pairs (image, sampler) ↔ IsPair m f (InGlobal image) (InGlobal sampler)

-- the reference count of each expression
pub record AreCounts (f : Function) (counts : List ℕ) : Type 0 where
  pub each : length counts ≡ length f.expressions
  pub exact : (e : ℕ) → e < length f.expressions → slice_get counts e ≡ Some (count_of f e)

-- the result of f may differ among invocations
abbrev pub Varies : Module → Function → Type 0
Varies m f = (r : Function) × (h : ℕ) × ResultOrigin m f r h

pub record IsFunctionReport (m : Module) (f : Function) (report : FunctionReport) : Type 0 where
  pub uses : AreUses m f report.uses
  pub pairs : ArePairs m f report.pairs
  pub counts : AreCounts f report.counts
  pub varies : IsTrue report.varies ↔ Varies m f

-- ---- the report on a module

-- all functions, and then all entry points
abbrev pub locations_of : Module → List AnalysisLocation
locations_of m = map location.Function (range_with_len 0 (length m.functions))
    ++ map location.EntryPoint (range_with_len 0 (length m.entry_points))

pub record AreReports (m : Module) (reports : List LocationReport) : Type 0 where
  pub locations : map (λ r. r.location) reports ≡ locations_of m
  pub each : (i : ℕ) (r : LocationReport) (f : Function) → slice_get reports i ≡ Some r → IsFunctionAt m r.location f →
      IsFunctionReport m f r.report

abbrev pub kind_of_cause : Cause → FaultKind
kind_of_cause (Untyped e refusal) = kind.Expression
kind_of_cause (MissingCapability e capability) = kind.Expression
kind_of_cause (NoResource e) = kind.Expression
kind_of_cause (BindingArrayElement e) = kind.Expression
kind_of_cause (NonUniformControlFlow needs e disruptor) = kind.NonUniformControlFlow
kind_of_cause (CountFull e) = kind.CountFull

-- the location is the first with a fault, and it has a fault of that kind
pub record IsFaultReport (m : Module) (settings : Settings) (at : AnalysisLocation) (reported : FaultKind) : Type 0 where
  pub cause : Cause
  pub first : IsFirstFault m settings (site_of at) cause
  pub kind : reported ≡ kind_of_cause cause

-- the report on a module: on all functions and entry points if there is no fault, and otherwise the first location with one
abbrev pub IsModuleReport : Module → Settings → ModuleReport → Type 0
IsModuleReport m settings (Accepted reports) = IsAccepted m settings × AreReports m reports
IsModuleReport m settings (Refused at reported) = IsFaultReport m settings at reported
