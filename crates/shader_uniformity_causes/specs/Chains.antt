-- Why a fact may be true: a chain of rules from it back to a source, through callers.
use Rattle.std.specs.Prelude.{List, ◌++◌, Option, Some, None, map}
use Rattle.std.specs.Global.{Vec}
use Rattle.std.specs.List.{Contains}
use Rattle.shader_uniformity.specs.Fault.{IsBefore}
use Rattle.shader_uniformity.specs.Traces.{rules_at, IsTrace}
use Rattle.shader_uniformity.specs.Words.{Module}
use Rattle.shader_uniformity.specs.declared.facts.BodyLocation.{BodyLocation}
use Rattle.shader_uniformity.specs.declared.facts.BodyLocation.TheVariants as body
use Rattle.shader_uniformity.specs.declared.facts.Fact.{Fact}
use Rattle.shader_uniformity.specs.declared.facts.Fact.TheVariants.{Always}
use Rattle.shader_uniformity.specs.declared.facts.Rule.{Rule}
use Rattle.shader_uniformity_needs.specs.Passes.{passes_at}
use Rattle.shader_uniformity_needs.specs.Violations.{MayHold}
use Rattle.shader_uniformity_needs.specs.declared.needs.Pass.{Pass}
use Rattle.shader_uniformity_causes.specs.declared.causes.Cause.{Cause}

-- the rules of a trace, in the body at a place
abbrev pub cause_at : BodyLocation → Rule → Cause
cause_at place rule = record { place = place; rule = rule }

abbrev pub causes_at : BodyLocation → List Rule → List Cause
causes_at place trace = map (cause_at place) trace

-- `known`: what is known of the functions
module _ (m : Module) (known : List (List Rule)) where
  -- from a fact at a place back to a source: by a trace to `Always`, or by a trace to another fact with which calls of the function
  -- begin, and by a chain from what passes it in a caller
  pub data IsChain : BodyLocation → Fact → List Cause → Type 0 where
    from_source : {place : BodyLocation} {fact : Fact} (trace : List Rule) → IsTrace (rules_at m known place) fact trace Always →
        IsChain place fact (causes_at place trace)
    from_caller : {caller : BodyLocation} {fact : Fact} {rest : List Cause} (trace : List Rule) (pass : Pass) →
        IsTrace (rules_at m known (body.Function pass.function)) fact trace pass.beginning →
        IsBefore m (body.Function pass.function) caller → Contains (passes_at m caller) pass →
        IsChain caller pass.cause rest →
        IsChain (body.Function pass.function) fact (causes_at (body.Function pass.function) trace ++ rest)

  -- a chain, or none if the fact is true in no call
  abbrev pub AreCausesOf : BodyLocation → Fact → Option (Vec Cause) → Type 0
  AreCausesOf place fact (Some chain) = IsChain place fact chain.items
  AreCausesOf place fact None = MayHold m known place fact → ⊥

-- the laws of chains: what has one may be true, and what may be true has one
abbrev pub ChainsMayHold : Type 0
ChainsMayHold = (m : Module) (known : List (List Rule)) (place : BodyLocation) (fact : Fact) (chain : List Cause) →
    IsChain m known place fact chain → MayHold m known place fact

abbrev pub MayHoldsHaveChains : Type 0
MayHoldsHaveChains = (m : Module) (known : List (List Rule)) (place : BodyLocation) (fact : Fact) → MayHold m known place fact →
    (chain : List Cause) × IsChain m known place fact chain
