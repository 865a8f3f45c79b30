-- The severity of derivative-uniformity diagnostics under a filter and its parents.
use Rattle.std.specs.Prelude.{◌≡◌, ℕ, ◌<◌, List, Option, Some, None, IfSome, slice_get}
use Rattle.shader_ir.specs.declared.module.DiagnosticFilterNode.{DiagnosticFilterNode}
use Rattle.shader_ir.specs.declared.module.DiagnosticRule.TheVariants as rule
use Rattle.shader_ir.specs.declared.module.Severity.{Severity}
use Rattle.shader_ir.specs.declared.module.Severity.TheVariants as severity

-- the first filter of that rule, from a filter on to its parents, gives the severity, which is Error if there is no such filter
pub data Governs (filters : List DiagnosticFilterNode) : Option ℕ → Severity → Type 0 where
  unfiltered : Governs filters None severity.Error
  by_filter : {i : ℕ} {filter : DiagnosticFilterNode} → slice_get filters i ≡ Some filter → filter.rule ≡ rule.DerivativeUniformity →
      Governs filters (Some i) filter.severity
  by_parent : {i : ℕ} {filter : DiagnosticFilterNode} {grave : Severity} → slice_get filters i ≡ Some filter → filter.rule ≡ rule.Other →
      Governs filters filter.parent grave → Governs filters (Some i) grave

-- each filter's parent is an earlier filter
abbrev pub HaveEarlierParents : List DiagnosticFilterNode → Type 0
HaveEarlierParents filters = (i : ℕ) (filter : DiagnosticFilterNode) → slice_get filters i ≡ Some filter →
    IfSome filter.parent (λ parent. parent < i)
