-- Whether the diagnostic filters around a function leave what needs uniform flow an error.
use Rattle.std.specs.Prelude.{ℕ, Bool, true, false, List, [], ◌∷◌, ◌++◌, Option, Some, None, slice_get, slice_index_or}
use Rattle.shader_ir.specs.declared.module.DiagnosticRule.TheVariants as rule
use Rattle.shader_ir.specs.declared.module.Severity.TheVariants as severity
use Rattle.shader_uniformity.specs.Words.{DiagnosticFilterNode, DiagnosticRule, Severity}

abbrev pub is_error : Severity → Bool
is_error severity.Error = true
is_error _ = false

abbrev pub filter_at : List DiagnosticFilterNode → Option ℕ → Option DiagnosticFilterNode
filter_at filters (Some leaf) = slice_get filters leaf
filter_at filters None = None

-- a filter of the rule decides, and of another one what stands around it
abbrev pub severe_by : DiagnosticRule → Severity → Bool → Bool
severe_by rule.DerivativeUniformity severity outer = is_error severity
severe_by rule.Other severity outer = outer

abbrev pub severe_at : Option DiagnosticFilterNode → (Option ℕ → Bool) → Bool
severe_at (Some filter) outer = severe_by filter.rule filter.severity (outer filter.parent)
severe_at None outer = true

-- from one filter on outwards, in no more steps than there are filters; without one it is an error
abbrev pub is_severe : (steps filters : List DiagnosticFilterNode) → Option ℕ → Bool
is_severe [] filters leaf = true
is_severe (step ∷ steps) filters leaf = severe_at (filter_at filters leaf) (is_severe steps filters)

-- what a table of the severities of filters tells of the one at a leaf
abbrev pub known_severity : List (Option Bool) → Option ℕ → Option Bool
known_severity severities (Some leaf) = slice_index_or severities leaf None
known_severity severities None = Some true

abbrev pub severity_within : DiagnosticRule → Severity → Option Bool → Option Bool
severity_within rule.DerivativeUniformity severity outer = Some (is_error severity)
severity_within rule.Other severity outer = outer

-- and of a filter, by those before it; nothing where its parent isn't one of them
abbrev pub next_severity : List (Option Bool) → DiagnosticFilterNode → Option Bool
next_severity earlier filter = severity_within filter.rule filter.severity (known_severity earlier filter.parent)

abbrev pub severities_after : (earlier : List (Option Bool)) → List DiagnosticFilterNode → List (Option Bool)
severities_after earlier [] = earlier
severities_after earlier (filter ∷ filters) = severities_after (earlier ++ next_severity earlier filter ∷ []) filters

-- of each filter
abbrev pub severity_table : List DiagnosticFilterNode → List (Option Bool)
severity_table filters = severities_after [] filters
