-- Which needs of a module are violated.
use Rattle.std.specs.Prelude.{List}
use Rattle.std.specs.List.{Contains}
use Rattle.shader_uniformity.specs.Fault.{IsBefore}
use Rattle.shader_uniformity.specs.Marks.{Marked}
use Rattle.shader_uniformity.specs.Traces.{rules_at}
use Rattle.shader_uniformity.specs.Words.{Module}
use Rattle.shader_uniformity.specs.declared.facts.BodyLocation.{BodyLocation}
use Rattle.shader_uniformity.specs.declared.facts.BodyLocation.TheVariants as body
use Rattle.shader_uniformity.specs.declared.facts.Fact.{Fact}
use Rattle.shader_uniformity.specs.declared.facts.Fact.TheVariants.{Always}
use Rattle.shader_uniformity.specs.declared.facts.Rule.{Rule}
use Rattle.shader_uniformity_needs.specs.Needs.{needs_at}
use Rattle.shader_uniformity_needs.specs.Passes.{passes_at}
use Rattle.shader_uniformity_needs.specs.declared.needs.Pass.{Pass}
use Rattle.shader_uniformity_needs.specs.declared.needs.Violation.{Violation}

-- `known`: what is known of the functions
module _ (m : Module) (known : List (List Rule)) where
  -- a call of the function or entry point at a location may begin with a fact. Each does with `Always`, and a function with what the
  -- calls pass that later functions and entry points make
  pub data Begins : BodyLocation → Fact → Type 0 where
    always : {place : BodyLocation} → Begins place Always
    passed : {caller : BodyLocation} {first : Fact} (pass : Pass) → IsBefore m (body.Function pass.function) caller →
        Contains (passes_at m caller) pass → Begins caller first →
        Marked (rules_at m known caller) first pass.cause → Begins (body.Function pass.function) pass.beginning

  -- a fact may be true in a call
  abbrev pub MayHold : BodyLocation → Fact → Type 0
  MayHold place fact = (first : Fact) × Begins place first × Marked (rules_at m known place) first fact

  -- the body has the need, and what violates it may be true
  abbrev pub IsViolated : Violation → Type 0
  IsViolated violation =
      Contains (needs_at m violation.place) violation.need × MayHold violation.place violation.need.violated_by
