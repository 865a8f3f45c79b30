-- When a call violates a need of the called function alone, and may as well be made at the start of its entry point.
use Rattle.std.specs.Prelude.{◌≡◌, ◌+◌, ℕ, true, List, Option, Some, IfSome, length, slice_get}
use Rattle.std.specs.List.{All, list_all}
use Rattle.shader_ir.specs.declared.function.EntryPoint.{EntryPoint}
use Rattle.shader_ir.specs.declared.module.Module.{Module}
use Rattle.shader_uniformity.specs.Marks.{Marked}
use Rattle.shader_uniformity.specs.Traces.{rules_at}
use Rattle.shader_uniformity.specs.declared.facts.BodyLocation.{BodyLocation}
use Rattle.shader_uniformity.specs.declared.facts.BodyLocation.TheVariants as body
use Rattle.shader_uniformity.specs.declared.facts.Fact.TheVariants.{Always, Apart, Flow}
use Rattle.shader_uniformity.specs.declared.facts.Rule.{Rule}
use Rattle.shader_uniformity_needs.specs.Passes.{passes_at}
use Rattle.shader_uniformity_needs.specs.Violations.{MayHold}
use Rattle.shader_uniformity_needs.specs.declared.needs.Pass.{Pass}
use Rattle.shader_uniformity_needs.specs.declared.needs.Violation.{Violation}
use Rattle.report_findings.specs.Effects.{first_quiet, is_quiet_at}
use Rattle.report_findings.specs.Steady.{is_steady_value, steady_table}
use Rattle.report_findings.specs.declared.call_help.Bodies.{Bodies}
use Rattle.report_findings.specs.declared.call_help.Bodies.TheVariants as bodies
use Rattle.report_findings.specs.declared.call_help.CallAt.{CallAt}

-- the functions, or the entry points
abbrev pub body_count : Module → Bodies → ℕ
body_count m bodies.Functions = length m.functions
body_count m bodies.EntryPoints = length m.entry_points

abbrev pub body_at : Bodies → ℕ → BodyLocation
body_at bodies.Functions i = body.Function i
body_at bodies.EntryPoints i = body.EntryPoint i

-- the call passes that it stands where only some invocations are
pub record IsCalledApart (call : CallAt) (caller : BodyLocation) (pass : Pass) : Type 0 where
  pub within : caller ≡ body.EntryPoint call.point
  pub begins : pass.beginning ≡ Flow
  pub stands : pass.cause ≡ Apart call.position

module _ (m : Module) where
  -- the call passes what doesn't change to a function without effects
  pub record IsMovable (point : EntryPoint) (callee : ℕ) (arguments : List ℕ) : Type 0 where
    pub steady : list_all (is_steady_value point.function (steady_table m point.function)) arguments ≡ true
    pub quiet : is_quiet_at (first_quiet m (callee + 1)) callee ≡ true

  -- the call of an entry point that may be made at its start
  abbrev pub IsCallMovable : {A : Type 0} → CallAt → Option A → Type 0
  IsCallMovable call help = IfSome help (λ _. (point : EntryPoint) × (callee : ℕ) × (arguments : List ℕ)
      × (slice_get m.entry_points call.point ≡ Some point) × IsMovable point callee arguments)

-- `known`: what is known of the functions
module _ (m : Module) (known : List (List Rule)) where
  -- what a call in the body at a place passes violates the need of a function only if it is this call, by where it stands
  abbrev pub IsExcused : Violation → CallAt → BodyLocation → Pass → Type 0
  IsExcused violation call caller pass =
      violation.place ≡ body.Function pass.function → MayHold m known caller pass.cause →
      Marked (rules_at m known violation.place) pass.beginning violation.need.violated_by → IsCalledApart call caller pass

  abbrev pub PassesNoOther : Violation → CallAt → BodyLocation → Type 0
  PassesNoOther violation call caller = All (IsExcused violation call caller) (passes_at m caller)

  -- neither the function by itself nor any other call violates the need
  pub record IsOnlyCall (violation : Violation) (call : CallAt) : Type 0 where
    pub own : Marked (rules_at m known violation.place) Always violation.need.violated_by → ⊥
    pub others : (caller : BodyLocation) → PassesNoOther violation call caller

  -- to make the call at the start of its entry point: then no other call violates the need, and this one may be made there
  abbrev pub IfCallMoved : {A : Type 0} → Violation → Option A → Type 0
  IfCallMoved violation help = IfSome help (λ _. (call : CallAt) × IsOnlyCall violation call × IsCallMovable m call help)
