-- Correctness of the reasons.
use Rattle.std.specs.Prelude.{◌≡◌, ℕ, List, Option, Some, None, slice_get, length}
use Rattle.shader_analysis_spec.specs.Program.{Function, Module}
use Rattle.shader_uniformity_trace.specs.declared.trace.Table.{Table}
use Rattle.shader_uniformity_trace.specs.declared.link.FunctionLocation.{FunctionLocation}
use Rattle.shader_uniformity_trace.specs.declared.link.FunctionLocation.TheVariants as location
use Rattle.shader_uniformity_trace.specs.declared.link.Link.{Link}
use Rattle.shader_uniformity_trace.specs.declared.link.Link.TheVariants as link
use Rattle.shader_uniformity_trace.specs.declared.reasons.Trace.{Trace}
use Rattle.shader_uniformity_trace.specs.declared.reasons.Reason.{Reason}
use Rattle.shader_uniformity_trace.specs.declared.reasons.Reason.TheVariants.{Source, Through}
use Rattle.shader_uniformity_trace.specs.Chains.{LinksTo, HasOriginAt, IsFunctionAt, IsSourceAt}

-- a link with the reason Source is a source; a reason by another link means that the link depends on it and that it has an origin
abbrev pub IsReason : Module → Link → Reason → Type 0
IsReason m first Source = IsSourceAt m first
IsReason m first (Through next) = LinksTo m first next × HasOriginAt m next

-- P holds of the reason, and there is none only if P holds of none
abbrev pub Determines : (Reason → Type 0) → Option Reason → Type 0
Determines P (Some reason) = P reason
Determines P None = (reason : Reason) → P reason → ⊥

-- the reasons are those for the expressions of the function at the location
abbrev pub AreReasons : Module → FunctionLocation → List (Option Reason) → Type 0
AreReasons m at reasons = (e : ℕ) (reason : Option Reason) → slice_get reasons e ≡ Some reason →
    Determines (IsReason m (link.Expression at e)) reason

-- the reasons are those in the function at the location
pub record IsTrace (m : Module) (at : FunctionLocation) (trace : Trace) : Type 0 where
  pub complete : (f : Function) → IsFunctionAt m at f → length trace.expressions.items ≡ length f.expressions
  pub expressions : AreReasons m at trace.expressions.items
  pub result : Determines (IsReason m (link.Result at)) trace.result

-- the reasons are those in the first functions, or in the first entry points, in order
pub record AreTracesAt (m : Module) (at : ℕ → FunctionLocation) (count : ℕ) (traces : List Trace) : Type 0 where
  pub complete : length traces ≡ count
  pub each : (i : ℕ) (trace : Trace) → slice_get traces i ≡ Some trace → IsTrace m (at i) trace

abbrev pub AreTraces : Module → ℕ → List Trace → Type 0
AreTraces m count traces = AreTracesAt m (λ i. location.Function i) count traces

abbrev pub AreEntryTraces : Module → ℕ → List Trace → Type 0
AreEntryTraces m count traces = AreTracesAt m (λ i. location.EntryPoint i) count traces

-- the table has the reasons in each function and in each entry point
abbrev pub IsTable : Module → Table → Type 0
IsTable m table = AreTraces m (length m.functions) table.functions.items × AreEntryTraces m (length m.entry_points) table.entry_points.items

-- a link that has an origin leads to the next link of its chain, or is a source
abbrev pub LeadsTo : Module → Link → Option Link → Type 0
LeadsTo m first (Some next) = LinksTo m first next × HasOriginAt m next
LeadsTo m first None = IsSourceAt m first
