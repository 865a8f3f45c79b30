-- The only call that violates a need.
use Rattle.std.proofs.Common.{◌≡◌, ℕ, ◌+◌, ◌<◌, List, [], Option, inl, inr, ap, arith, length, subst}
use Rattle.std.proofs.lemmas.Bool.{cases_lt}
use Rattle.std.proofs.lemmas.List.Elements.{All-nil, All-same}
use Rattle.std.proofs.lemmas.Option.{slice_get_past}
use Rattle.shader_uniformity.specs.Marks.{Marked}
use Rattle.shader_uniformity.specs.Traces.{rules_at}
use Rattle.shader_uniformity.specs.Words.{EntryPoint, Function, Module}
use Rattle.shader_uniformity.specs.declared.facts.BodyLocation.{BodyLocation}
use Rattle.shader_uniformity.specs.declared.facts.BodyLocation.TheVariants as body
use Rattle.shader_uniformity.specs.declared.facts.Fact.TheVariants.{Always}
use Rattle.shader_uniformity.specs.declared.facts.Rule.{Rule}
use Rattle.shader_uniformity_needs.specs.Passes.{passes_at, passes_of_function, passes_of_point}
use Rattle.shader_uniformity_needs.specs.declared.needs.Violation.{Violation}
use Rattle.report_findings.specs.Calls.{IsExcused, IsOnlyCall, PassesNoOther}
use Rattle.report_findings.specs.declared.call_help.CallAt.{CallAt}

-- what holds below a number and at it
pub next_too : (P : ℕ → Type 0) (n : ℕ) → ((i : ℕ) → i < n → P i) → P n → (i : ℕ) → i < n + 1 → P i
next_too P n all one i below = elim (cases_lt i n) [
  | inl before ↦ all i before
  | inr past ↦
      let same : n ≡ i = omega (arith, below, past) in
      subst P same one
]

module _ (m : Module) (known : List (List Rule)) (violation : Violation) (call : CallAt) where
  -- a body that passes nothing
  nothing : (caller : BodyLocation) → passes_at m caller ≡ [] → PassesNoOther m known violation call caller
  nothing caller empty =
      All-same (IsExcused m known violation call caller) (passes_at m caller) [] empty (All-nil (IsExcused m known violation call caller))

  -- neither the function itself, nor a call of another function or an entry point
  pub only : (Marked (rules_at m known violation.place) Always violation.need.violated_by → ⊥) →
      ((i : ℕ) → i < length m.functions → PassesNoOther m known violation call (body.Function i)) →
      ((i : ℕ) → i < length m.entry_points → PassesNoOther m known violation call (body.EntryPoint i)) →
      IsOnlyCall m known violation call
  only own functions points = record { own = own; others = others } where
    others : (caller : BodyLocation) → PassesNoOther m known violation call caller
    others (body.Function i) = elim (cases_lt i (length m.functions)) [
      | inl below ↦ functions i below
      | inr past ↦
          nothing (body.Function i) (ap (λ (v : Option Function). passes_of_function m v) (slice_get_past m.functions i past))
    ]
    others (body.EntryPoint i) = elim (cases_lt i (length m.entry_points)) [
      | inl below ↦ points i below
      | inr past ↦
          nothing (body.EntryPoint i) (ap (λ (v : Option EntryPoint). passes_of_point m v) (slice_get_past m.entry_points i past))
    ]
