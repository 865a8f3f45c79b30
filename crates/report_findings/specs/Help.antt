-- When a help is printed for a violated need.
use Rattle.std.specs.Prelude.{◌≡◌, ℕ, Bool, true, false, List, Option, Some, None, IfSome}
use Rattle.std.specs.Option.{option_map}
use Rattle.shader_ir.specs.declared.module.Module.{Module}
use Rattle.shader_uniformity.specs.Fault.{AreAllKnown, IsVerdict}
use Rattle.shader_uniformity.specs.Traces.{rules_at}
use Rattle.shader_uniformity.specs.declared.facts.Fact.TheVariants.{Apart}
use Rattle.shader_uniformity.specs.declared.facts.Rule.{Rule}
use Rattle.shader_uniformity_needs.specs.Violations.{MayHold}
use Rattle.shader_uniformity_needs.specs.declared.needs.NeedKind.{NeedKind}
use Rattle.shader_uniformity_needs.specs.declared.needs.NeedKind.TheVariants as need
use Rattle.shader_uniformity_needs.specs.declared.needs.Violation.{Violation}
use Rattle.report_places.specs.Paths.{way_to}
use Rattle.report_places.specs.Sites.{function_of, place_of_body}
use Rattle.report_places.specs.declared.paths.PathStep.{PathStep}
use Rattle.report_places.specs.declared.paths.Wanted.TheVariants.{At}
use Rattle.report_findings.specs.Changes.{Follows, remaining}
use Rattle.report_findings.specs.Owners.{IsIfAt, IsInIf}
use Rattle.report_findings.specs.Steady.{IsSteady}
use Rattle.report_findings.specs.declared.changes.Change.{Change}
use Rattle.report_findings.specs.declared.changes.Change.TheVariants.{NoJump, OneValue}
use Rattle.report_findings.specs.declared.point_help.BodyNeed.{BodyNeed}

-- without that change the need is violated, with it no more
abbrev removes : BodyNeed → Change → Type 0
removes found change = Follows (remaining change found.rules.items) found.need.violated_by false

-- to compute it at the start: then it reads nothing that changes
abbrev pub IfMoved : {A : Type 0} → BodyNeed → Option A → Type 0
IfMoved found help = IfSome help (λ _. (e : ℕ) × (found.need.expression ≡ Some e) × IsSteady found.«module».now found.function.now e)

-- what is found is the need of that function or entry point, with the way to its statement
pub record IsNeedOf (m : Module) (known : List (List Rule)) (violation : Violation) (found : BodyNeed) : Type 0 where
  pub within : found.«module».now ≡ m
  pub place : found.place ≡ violation.place
  pub need : found.need ≡ violation.need
  pub function : function_of m (place_of_body violation.place) ≡ Some found.function.now
  pub rules : found.rules.items ≡ rules_at m known violation.place

-- the way that is found is the one to the statement of the need
abbrev pub IsWayToNeed : BodyNeed → Type 0
IsWayToNeed found =
    option_map (λ at. at.path.steps) found.at ≡ way_to (At found.need.position) found.function.now.body

abbrev is_barrier : NeedKind → Bool
is_barrier need.Barrier = true
is_barrier need.MemoryBarrier = true
is_barrier kind = false

-- the need is that of a barrier in a block of one of the function's own `if`s, from one position up to before another one
pub record IsInOwnIf (found : BodyNeed) (begin end : ℕ) : Type 0 where
  pub barrier : is_barrier found.need.kind ≡ true
  pub way : List PathStep
  pub to_need : way_to (At found.need.position) found.function.now.body ≡ Some way
  pub index : ℕ
  pub within : IsInIf index way
  pub at : IsIfAt found.function.now.body index begin end

-- to move it behind the `if`: then control flow diverges neither at that nor behind it
abbrev pub IfBehind : {A : Type 0} → BodyNeed → Option A → Type 0
IfBehind found help = IfSome help (λ _. (begin : ℕ) × (end : ℕ) × IsInOwnIf found begin end
    × Follows found.rules.items (Apart begin) false × Follows found.rules.items (Apart end) false)

-- to move it behind the `if` of a function: then control flow diverges neither at that nor behind it, in no call
abbrev pub IfBehindInCalls : {A : Type 0} → (known : List (List Rule)) → BodyNeed → Option A → Type 0
IfBehindInCalls known found help = IfSome help (λ _. (begin : ℕ) × (end : ℕ) × IsInOwnIf found begin end
    × (MayHold found.«module».now known found.place (Apart begin) → ⊥)
    × (MayHold found.«module».now known found.place (Apart end) → ⊥))

-- to leave a statement out that exits blocks
abbrev pub IfNoJump : {A : Type 0} → BodyNeed → Option A → Type 0
IfNoJump found help = IfSome help (λ _. (jump : ℕ) × removes found (NoJump jump))

-- to read one value in all invocations
abbrev pub IfOneValue : {A : Type 0} → BodyNeed → Option A → Type 0
IfOneValue found help = IfSome help (λ _. (load : ℕ) × removes found (OneValue load))

-- to decide by the rules of WGSL: then these accept the control flow of the module
abbrev pub IfAcceptedByRules : {A : Type 0} → Module → Option A → Type 0
IfAcceptedByRules m help = IfSome help (λ _. (known : List (List Rule)) × AreAllKnown m known × IsVerdict m known None)
