-- In a well-formed module walks that choose alike pass the same undisrupted Emits, and in a function without fault those that need it.
use Rattle.std.proofs.Common.{ℕ, ◌<◌, ◌≤◌, IsTrue}
use Rattle.shader_analysis_spec.proofs.FlowLemmas.{more_disrupted}
use Rattle.shader_analysis_spec.proofs.ReasonLemmas.{reason}
use Rattle.shader_analysis_spec.proofs.WalkLemmas.{disruption_means_divergence}
use Rattle.shader_analysis_spec.specs.Faults.{Cause, IsFault, IsOriginOf, NonUniformControlFlow, PairAt, Settings, flow_violation}
use Rattle.shader_analysis_spec.specs.Filters.{Governs}
use Rattle.shader_analysis_spec.specs.Flow.{At, Disrupted}
use Rattle.shader_analysis_spec.specs.Kills.{HasOrigin, KillsAt}
use Rattle.shader_analysis_spec.specs.Needs.{ExpressionNeeds, Need}
use Rattle.shader_analysis_spec.specs.Program.{Body, Emit, Function, Leaf, Module, Then}
use Rattle.shader_ir.specs.declared.module.Severity.TheVariants as severity
use Rattle.shader_resolve.specs.WellFormed.{IsWellFormed}
use Rattle.shader_typing.proofs.DecidedLemmas.{origins_decided}
use Rattle.shader_typing.proofs.DecidedNeeds.{all_needs, needs_of}
use Rattle.shader_typing.specs.Divergence.{AcceptedWalksAgree, AlikeWalksPassAlike, IsOf}

pub alike_walks_pass_alike : AlikeWalksPassAlike
alike_walks_pass_alike m f well of plain = disruption_means_divergence m f (origins_decided m well f of) plain

module _ (m : Module) (settings : Settings) (well : IsWellFormed m) (f : Function) (of : IsOf m f) where
  abbrev has_source : ℕ → Type 0
  has_source e = (h : ℕ) × IsOriginOf m f e h

  turned : (e : ℕ) → HasOrigin m f e → has_source e
  turned e (r, h, origin) = (h, (r, origin))

  -- a disrupted Emit of an expression that needs undisrupted flow is a fault
  flow_fault : (i j e : ℕ) (n : Need) (b : Body) (p : At f.body (Then (Leaf (Emit i j)) b)) →
      Disrupted (HasOrigin m f) (KillsAt m) f.body _ p →
      i ≤ e → e < j → ExpressionNeeds m n f e → IsTrue settings.checks_flow →
      Governs m.diagnostic_filters f.diagnostic_filter_leaf severity.Error →
      (cause : Cause) × IsFault m f settings cause
  flow_fault i j e n b p d le lt needs checks grave =
      let same : Disrupted has_source (KillsAt m) f.body _ p =
      more_disrupted (HasOrigin m f) has_source (KillsAt m) (KillsAt m) f.body turned (λ c arguments result b q k. k) _ p d in
      let (disruptor, disrupts) = reason (IsOriginOf m f) (KillsAt m) (λ n e. ExpressionNeeds m n f e) (PairAt m) m settings f _ p same in (
        NonUniformControlFlow (needs_of m well f of e) e disruptor,
        flow_violation checks grave (record {
          start = i;
          finish = j;
          left = b;
          at = p;
          from = le;
          to = lt;
          disrupted = same;
          need = n;
          needed = needs;
          all = all_needs m well f of e;
          disrupts = disrupts;
        }),
      )

pub accepted_walks_agree : AcceptedWalksAgree
accepted_walks_agree m settings f well of plain checks grave clean w v alike i j e n b p le lt needs =
    alike_walks_pass_alike m f well of plain w v alike _ p
    (λ d. let (cause, fault) = flow_fault m settings well f of i j e n b p d le lt needs checks grave in clean cause fault)
