-- Without a violation, or if nothing needs uniform flow, there is no fault of control flow.
use Rattle.std.proofs.Common.{◌≡◌, ℕ, Bool, List, None, IsTrue}
use Rattle.shader_analysis_spec.specs.Faults.{Disruptor, NonUniformControlFlow, Settings, flow_violation}
use Rattle.shader_analysis_spec.specs.StepFaults.{StepFault}
use Rattle.shader_analysis_spec.specs.Filters.{Governs}
use Rattle.shader_analysis_spec.specs.Needs.{Need}
use Rattle.shader_analysis_spec.specs.Program.{Function, Module}
use Rattle.shader_ir.specs.declared.module.Severity.TheVariants as severity
use Rattle.shader_pass_laws.proofs.FlowViolation.{flow_violations_are_faults}
use Rattle.shader_pass_laws.specs.Refused.{computed_violation}
use Rattle.shader_info.specs.declared.info.FunctionInfo.{FunctionInfo}
use Rattle.shader_passes.specs.InfoOf.{PointsBackwards, infos_of}

module _ (m : Module) (infos : List FunctionInfo) (f : Function) (settings : Settings) where
  pub no_flow_violation : PointsBackwards f → computed_violation m infos f ≡ None →
      (needs : Need → Bool) (e : ℕ) (flow_disruptor : Disruptor) →
      StepFault m (infos_of infos) f settings (NonUniformControlFlow needs e flow_disruptor) → ⊥
  no_flow_violation below none needs e flow_disruptor (flow_violation checks governs is) =
      (flow_violations_are_faults m infos f settings below).1 none needs e flow_disruptor is

  pub none_checked : (IsTrue settings.checks_flow → Governs m.diagnostic_filters f.diagnostic_filter_leaf severity.Error → ⊥) →
      (needs : Need → Bool) (e : ℕ) (flow_disruptor : Disruptor) →
      StepFault m (infos_of infos) f settings (NonUniformControlFlow needs e flow_disruptor) → ⊥
  none_checked off needs e flow_disruptor (flow_violation checks governs is) = off checks governs
