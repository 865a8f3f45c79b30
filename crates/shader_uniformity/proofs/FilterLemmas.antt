-- What the table of severities tells of a filter is what is found from it outwards.
use Rattle.std.proofs.Common.{◌≡◌, ◌∙◌, refl, sym, ap, subst, inl, inr, ℕ, ◌+◌, ◌<◌, ◌≤◌, Bool, true, List, [], ◌∷◌, ◌++◌}
use Rattle.std.proofs.Common.{Option, Some, None, length, append_assoc, arith, get_or, length-append, slice_get}
use Rattle.std.proofs.lemmas.Bool.{cases_lt}
use Rattle.std.proofs.lemmas.List.{get_or_append_left, get_or_past}
use Rattle.std.proofs.lemmas.Option.{none-some, same_Some}
use Rattle.std.proofs.Math.Seq.{get_or-append_seam}
use Rattle.shader_ir.specs.declared.module.DiagnosticRule.TheVariants as rule
use Rattle.shader_uniformity.specs.Filters.{is_severe, known_severity, next_severity, severities_after}
use Rattle.shader_uniformity.specs.Filters.{severity_table, severity_within, severe_at, severe_by}
use Rattle.shader_uniformity.specs.Words.{DiagnosticFilterNode, DiagnosticRule, Severity}
use Rattle.shader_uniformity.proofs.FunctionsLemmas.{at_seam}

-- what a table tells of a filter is found from it outwards in more steps than there are filters before it
pub record IsTable (filters : List DiagnosticFilterNode) (table : List (Option Bool)) : Type 0 where
  pub tells : (i : ℕ) (severe : Bool) (steps : List DiagnosticFilterNode) → get_or table i None ≡ Some severe → i < length steps →
      is_severe steps filters (Some i) ≡ severe

inside : (table : List (Option Bool)) (i : ℕ) (severe : Bool) → get_or table i None ≡ Some severe → i < length table
inside table i severe told = elim (cases_lt i (length table)) [
  | inl lt ↦ lt
  | inr past ↦ absurd (none-some severe (sym (get_or_past table i None past) ∙ told))
]

module _ (filters : List DiagnosticFilterNode) (table : List (Option Bool)) (old : IsTable filters table) where
  outer : (parent : Option ℕ) (severe : Bool) (steps : List DiagnosticFilterNode) → known_severity table parent ≡ Some severe →
      length table ≤ length steps → is_severe steps filters parent ≡ severe
  outer None severe [] told enough = same_Some _ _ told
  outer None severe (step ∷ steps) told enough = same_Some _ _ told
  outer (Some parent) severe steps told enough =
      let before = inside table parent severe told in
      old.tells parent severe steps told (omega arith)

  within : (kind : DiagnosticRule) (level : Severity) (parent : Option ℕ) (severe : Bool) (steps : List DiagnosticFilterNode) →
      severity_within kind level (known_severity table parent) ≡ Some severe → length table ≤ length steps →
      severe_by kind level (is_severe steps filters parent) ≡ severe
  within rule.DerivativeUniformity level parent severe steps told enough = same_Some _ _ told
  within rule.Other level parent severe steps told enough = outer parent severe steps told enough

  module _ (filter : DiagnosticFilterNode) (at : slice_get filters (length table) ≡ Some filter) where
    new : (severe : Bool) (steps : List DiagnosticFilterNode) → next_severity table filter ≡ Some severe → length table < length steps →
        is_severe steps filters (Some (length table)) ≡ severe
    new severe [] told enough = absurd (omega arith)
    new severe (step ∷ steps) told enough =
        ap (λ (v : Option DiagnosticFilterNode). severe_at v (is_severe steps filters)) at
        ∙ within filter.rule filter.severity filter.parent severe steps told (omega arith)

    pushed : (i : ℕ) (severe : Bool) (steps : List DiagnosticFilterNode) →
        get_or (table ++ next_severity table filter ∷ []) i None ≡ Some severe → i < length steps →
        is_severe steps filters (Some i) ≡ severe
    pushed i severe steps told enough = elim (cases_lt i (length table)) [
      | inl lt ↦ old.tells i severe steps (sym (get_or_append_left table (next_severity table filter ∷ []) None i lt) ∙ told) enough
      | inr past ↦
          let long = inside (table ++ next_severity table filter ∷ []) i severe told in
          let here : i ≡ length table = omega (arith, long, length-append table (next_severity table filter ∷ [])) in
          let Told : ℕ → Type 0 = λ k. get_or (table ++ next_severity table filter ∷ []) k None ≡ Some severe in
          let Found : ℕ → Type 0 = λ k. is_severe steps filters (Some k) ≡ severe in
          subst Found (sym here) (new severe steps
          (sym (get_or-append_seam table (next_severity table filter) [] None) ∙ subst Told here told) (omega arith))
    ]

    pub next_table : IsTable filters (table ++ next_severity table filter ∷ [])
    next_table = record { tells = pushed }

all_tables : (filters done rest : List DiagnosticFilterNode) (table : List (Option Bool)) → done ++ rest ≡ filters →
    length done ≡ length table → IsTable filters table → IsTable filters (severities_after table rest)
all_tables filters done [] table whole long old = old
all_tables filters done (filter ∷ rest) table whole long old =
    let At : List DiagnosticFilterNode → Type 0 = λ v. slice_get v (length done) ≡ Some filter in
    let Place : ℕ → Type 0 = λ k. slice_get filters k ≡ Some filter in
    let at = subst Place long (subst At whole (at_seam done filter rest)) in
    all_tables filters (done ++ filter ∷ []) rest (table ++ next_severity table filter ∷ [])
    (append_assoc done (filter ∷ []) rest ∙ whole)
    (omega (arith, long, length-append done (filter ∷ []), length-append table (next_severity table filter ∷ [])))
    (next_table filters table old filter at)

length_after : (table : List (Option Bool)) (rest : List DiagnosticFilterNode) →
    length (severities_after table rest) ≡ length table + length rest
length_after table [] = omega arith
length_after table (filter ∷ rest) =
    omega (arith, length_after (table ++ next_severity table filter ∷ []) rest, length-append table (next_severity table filter ∷ []))

table_is : (filters : List DiagnosticFilterNode) → IsTable filters (severity_table filters)
table_is filters =
    all_tables filters [] filters [] refl refl record { tells = λ i severe steps told enough. absurd (none-some severe told) }

-- what the table tells is so
pub known_is_severe : (filters : List DiagnosticFilterNode) (severities : List (Option Bool)) (filter : ℕ) (severe : Bool) →
    severities ≡ severity_table filters → known_severity severities (Some filter) ≡ Some severe →
    severe ≡ is_severe filters filters (Some filter)
known_is_severe filters severities filter severe same known =
    let told = ap (λ (v : List (Option Bool)). known_severity v (Some filter)) (sym same) ∙ known in
    let before = inside (severity_table filters) filter severe told in
    sym ((table_is filters).tells filter severe filters told (omega (arith, before, length_after [] filters)))

-- and without a filter it is an error
pub unfiltered_is_severe : (filters : List DiagnosticFilterNode) → true ≡ is_severe filters filters None
unfiltered_is_severe [] = refl
unfiltered_is_severe (filter ∷ filters) = refl
