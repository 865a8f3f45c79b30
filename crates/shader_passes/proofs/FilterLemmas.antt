-- Steps from a filter to its parent.
use Rattle.std.proofs.Common.{◌≡◌, sym, subst, ℕ, ◌+◌, ◌<◌, List, Option, Some, None, IfSome, length, slice_get, arith}
use Rattle.std.proofs.lemmas.Option.{slice_get_within}
use Rattle.shader_ir.specs.declared.module.DiagnosticFilterNode.{DiagnosticFilterNode}
use Rattle.shader_ir.specs.declared.module.DiagnosticRule.TheVariants as rule
use Rattle.shader_ir.specs.declared.module.Severity.{Severity}
use Rattle.shader_ir.specs.declared.module.Severity.TheVariants as severity
use Rattle.shader_analysis_spec.specs.Filters.{Governs, unfiltered, by_filter, by_parent, HaveEarlierParents}

-- the severity that governs from one filter on governs from another on
pub record LeadsOn (filters : List DiagnosticFilterNode) (leaf next : Option ℕ) : Type 0 where
  pub governs : (grave : Severity) → Governs filters next grave → Governs filters leaf grave

-- the position plus one, or 0 for None
abbrev pub height : Option ℕ → ℕ
height None = 0
height (Some position) = position + 1

pub leads_itself : (filters : List DiagnosticFilterNode) (leaf : Option ℕ) → LeadsOn filters leaf leaf
leads_itself filters leaf = record { governs = λ grave governed. governed }

pub leads_to_parent : (filters : List DiagnosticFilterNode) (leaf next : Option ℕ) (position : ℕ) (filter : DiagnosticFilterNode) →
    LeadsOn filters leaf next →
    next ≡ Some position → slice_get filters position ≡ Some filter → filter.rule ≡ rule.Other → LeadsOn filters leaf filter.parent
leads_to_parent filters leaf next position filter before is is_there other =
    record { governs = λ grave governed. at next before is grave governed }
  where
    at : (next : Option ℕ) → LeadsOn filters leaf next → next ≡ Some position → (grave : Severity) → Governs filters filter.parent grave →
        Governs filters leaf grave
    at next before is grave governed = let P : Option ℕ → Type 0 = λ v. Governs filters v grave in
        before.governs grave (subst P (sym is) (by_parent is_there other governed))

pub governed_by : (filters : List DiagnosticFilterNode) (leaf next : Option ℕ) (position : ℕ) (filter : DiagnosticFilterNode) →
    LeadsOn filters leaf next →
    next ≡ Some position → slice_get filters position ≡ Some filter → filter.rule ≡ rule.DerivativeUniformity →
    Governs filters leaf filter.severity
governed_by filters leaf next position filter before is is_there derivative =
    let P : Option ℕ → Type 0 = λ v. Governs filters v filter.severity in
    before.governs filter.severity (subst P (sym is) (by_filter is_there derivative))

pub parent_within : (filters : List DiagnosticFilterNode) (position : ℕ) (filter : DiagnosticFilterNode) → HaveEarlierParents filters →
    slice_get filters position ≡ Some filter →
    IfSome filter.parent (λ p. p < length filters)
parent_within filters position filter earlier is_there = at filter.parent (earlier position filter is_there)
  where
    at : (parent : Option ℕ) → IfSome parent (λ p. p < position) → IfSome parent (λ p. p < length filters)
    at None h = tt
    at (Some p) h = let lower : p < position = h in let within = slice_get_within filters position filter is_there in omega arith

pub parent_lower : (filters : List DiagnosticFilterNode) (position : ℕ) (filter : DiagnosticFilterNode) → HaveEarlierParents filters →
    slice_get filters position ≡ Some filter →
    height filter.parent < height (Some position)
parent_lower filters position filter earlier is_there = at filter.parent (earlier position filter is_there)
  where
    at : (parent : Option ℕ) → IfSome parent (λ p. p < position) → height parent < height (Some position)
    at None h = omega arith
    at (Some p) h = let lower : p < position = h in omega arith

pub governed_last : (filters : List DiagnosticFilterNode) (leaf next : Option ℕ) → LeadsOn filters leaf next → next ≡ None →
    Governs filters leaf severity.Error
governed_last filters leaf next before is = let P : Option ℕ → Type 0 = λ v. Governs filters v severity.Error in
    before.governs severity.Error (subst P (sym is) unfiltered)
