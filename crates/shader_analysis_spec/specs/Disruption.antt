-- Noninterference of control flow: only non-uniform choices lead walks apart, and only where flow is disrupted.
use Rattle.std.specs.Prelude.{ℕ, ◌<◌, ◌≤◌, ◌⊎◌, ◌↔◌, IsTrue}
use Rattle.shader_ir.specs.declared.module.Severity.TheVariants as severity
use Rattle.shader_analysis_spec.specs.Program.{Function, Module, Leaf, Emit, Body, Then}
use Rattle.shader_analysis_spec.specs.Exact.{IsExact}
use Rattle.shader_analysis_spec.specs.Faults.{Settings, Cause, IsFault}
use Rattle.shader_analysis_spec.specs.Filters.{Governs}
use Rattle.shader_analysis_spec.specs.Flow.{At}
use Rattle.shader_analysis_spec.specs.Infos.{Info}
use Rattle.shader_analysis_spec.specs.Kills.{KillsAt, HasOrigin}
use Rattle.shader_analysis_spec.specs.Needs.{Need, ExpressionNeeds}
use Rattle.shader_analysis_spec.specs.Walks.{HasNoLoop, Walk, Alike, Passes, AlikeWalksAgree}

-- each expression has an origin or has none; the logic has no excluded middle, so the infos have to decide it
abbrev pub OriginsDecided : Module → Function → Type 0
OriginsDecided m f = (e : ℕ) → HasOrigin m f e ⊎ (HasOrigin m f e → ⊥)

-- two walks that choose alike wherever the choice has no origin pass the same undisrupted path points
abbrev pub DisruptionMeansDivergence : Type 0
DisruptionMeansDivergence = (m : Module) (f : Function) → OriginsDecided m f → HasNoLoop f.body →
    AlikeWalksAgree (HasOrigin m f) (KillsAt m) f.body

-- in an accepted function, if flow is checked and the filter says Error, two such walks pass the same Emits of expressions that need
-- undisrupted flow
abbrev pub AcceptedWalksAgree : Type 0
AcceptedWalksAgree = (m : Module) (settings : Settings) (f : Function) (info : Info) → IsExact m f info → HasNoLoop f.body →
    IsTrue settings.checks_flow → Governs m.diagnostic_filters f.diagnostic_filter_leaf severity.Error →
    ((cause : Cause) → IsFault m f settings cause → ⊥) →
    (w v : Walk (KillsAt m) f.body) → Alike (HasOrigin m f) w v →
    (i j e : ℕ) (n : Need) (b : Body) (p : At f.body (Then (Leaf (Emit i j)) b)) → i ≤ e → e < j → ExpressionNeeds m n f e →
    Passes w _ p ↔ Passes v _ p

-- an exact info, with an entry for each expression, decides which expressions have an origin
abbrev pub InfosDecide : Type 0
InfosDecide = (m : Module) (f : Function) (info : Info) → IsExact m f info → OriginsDecided m f
