-- Noninterference of control flow, by the definitions of flow, faults and walks alone: no two walks part where flow must be uniform.
use Rattle.std.specs.Prelude.{◌≡◌, ℕ, ◌<◌, ◌≤◌, ◌↔◌, Some, slice_get, IsTrue}
use Rattle.shader_analysis_spec.specs.Disruption.{OriginsDecided}
use Rattle.shader_analysis_spec.specs.Faults.{Cause, IsFault, Settings}
use Rattle.shader_analysis_spec.specs.Filters.{Governs}
use Rattle.shader_analysis_spec.specs.Flow.{At}
use Rattle.shader_analysis_spec.specs.Kills.{HasOrigin, KillsAt}
use Rattle.shader_analysis_spec.specs.Needs.{ExpressionNeeds, Need}
use Rattle.shader_analysis_spec.specs.Program.{Body, Emit, Function, Leaf, Module, Then}
use Rattle.shader_analysis_spec.specs.Walks.{Alike, AlikeWalksAgree, HasNoLoop, Passes, Walk}
use Rattle.shader_ir.specs.declared.function.EntryPoint.{EntryPoint}
use Rattle.shader_ir.specs.declared.module.Severity.TheVariants as severity
use Rattle.shader_resolve.specs.WellFormed.{IsWellFormed}

-- f is a function or an entry point of the module
pub data IsOf (m : Module) : Function → Type 0 where
  function : (i : ℕ) {f : Function} → slice_get m.functions i ≡ Some f → IsOf m f
  entry_point : (i : ℕ) (entry : EntryPoint) → slice_get m.entry_points i ≡ Some entry → IsOf m entry.function

-- any two walks through f that choose alike where the choice has no origin pass the same Emits of expressions that need uniform flow
abbrev pub KeepsTogether : Module → Function → Type 0
KeepsTogether m f = (w v : Walk (KillsAt m) f.body) → Alike (HasOrigin m f) w v →
    (i j e : ℕ) (n : Need) (b : Body) (p : At f.body (Then (Leaf (Emit i j)) b)) → i ≤ e → e < j → ExpressionNeeds m n f e →
    Passes w _ p ↔ Passes v _ p

-- in a well-formed module each expression has an origin or has none
abbrev pub OriginsAreDecided : Type 0
OriginsAreDecided = (m : Module) → IsWellFormed m → (f : Function) → IsOf m f → OriginsDecided m f

-- any two walks through a function without loops that choose alike where the choice has no origin pass the same undisrupted path points,
-- and so the same undisrupted Emits
abbrev pub AlikeWalksPassAlike : Type 0
AlikeWalksPassAlike = (m : Module) (f : Function) → IsWellFormed m → IsOf m f → HasNoLoop f.body →
    AlikeWalksAgree (HasOrigin m f) (KillsAt m) f.body

-- if flow is checked and its filter says Error, a function without loops and without fault keeps its walks together
abbrev pub AcceptedWalksAgree : Type 0
AcceptedWalksAgree = (m : Module) (settings : Settings) (f : Function) → IsWellFormed m → IsOf m f → HasNoLoop f.body →
    IsTrue settings.checks_flow → Governs m.diagnostic_filters f.diagnostic_filter_leaf severity.Error →
    ((cause : Cause) → IsFault m f settings cause → ⊥) → KeepsTogether m f
