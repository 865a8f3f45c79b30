-- Chains, and the way along one.
use Rattle.std.proofs.Common.{◌≡◌, sym, ◌∙◌, ap, subst, List, [], ◌++◌, append_assoc}
use Rattle.std.specs.Global.{Vec}
use Rattle.std.specs.List.{Contains}
use Rattle.shader_uniformity.proofs.TraceLemmas.{marks_have_traces, traces_mark}
use Rattle.shader_uniformity.specs.Fault.{IsBefore}
use Rattle.shader_uniformity.specs.Marks.{Marked}
use Rattle.shader_uniformity.specs.Traces.{rules_at, IsTrace}
use Rattle.shader_uniformity.specs.Words.{Module}
use Rattle.shader_uniformity.specs.declared.facts.BodyLocation.{BodyLocation}
use Rattle.shader_uniformity.specs.declared.facts.BodyLocation.TheVariants as body
use Rattle.shader_uniformity.specs.declared.facts.Fact.{Fact}
use Rattle.shader_uniformity.specs.declared.facts.Fact.TheVariants.{Always}
use Rattle.shader_uniformity.specs.declared.facts.Rule.{Rule}
use Rattle.shader_uniformity_needs.specs.Notes.{Follows}
use Rattle.shader_uniformity_needs.specs.Violations.{always, passed, Begins, MayHold}
use Rattle.shader_uniformity_causes.specs.Callers.{firsts_of, passed_at, AreCallers}
use Rattle.shader_uniformity_causes.specs.Chains.{causes_at, from_caller, from_source, ChainsMayHold, IsChain, MayHoldsHaveChains}
use Rattle.shader_uniformity_causes.specs.declared.causes.Cause.{Cause}
use Rattle.shader_uniformity_causes.specs.declared.causes.PassedBy.{PassedBy}

module _ (m : Module) (known : List (List Rule)) where
  may_hold : (place : BodyLocation) (fact : Fact) (chain : List Cause) → IsChain m known place fact chain → MayHold m known place fact
  may_hold _ _ _ (from_source {place = place} {fact = fact} trace t) =
      (Always, always, traces_mark (rules_at m known place) trace fact Always t)
  may_hold _ _ _ (from_caller {caller = caller} {fact = fact} {rest = rest} trace pass t before within c) =
      let may = may_hold caller pass.cause rest c in (
        pass.beginning,
        passed pass before within may.1 may.2,
        traces_mark (rules_at m known (body.Function pass.function)) trace fact pass.beginning t,
      )

  has_chain : (place : BodyLocation) (first fact : Fact) → Begins m known place first → Marked (rules_at m known place) first fact →
      (chain : List Cause) × IsChain m known place fact chain
  has_chain _ _ fact (always {place = place}) marked =
      let t = marks_have_traces (rules_at m known place) fact Always marked in
      (causes_at place t.0, from_source t.0 t.1)
  has_chain _ _ fact (passed {caller = caller} {first = first} pass before within begins on) marked =
      let place = body.Function pass.function in
      let t = marks_have_traces (rules_at m known place) fact pass.beginning marked in
      let rest = has_chain caller first pass.cause begins on in
      (causes_at place t.0 ++ rest.0, from_caller t.0 pass t.1 before within rest.1)

  -- a chain so far, from a fact at a place on to another one in the body to come
  pub record IsOnWay (place : BodyLocation) (fact : Fact) (chain : List Cause) (at : BodyLocation) (needed : Fact) : Type 0 where
    pub joins : (rest : List Cause) → IsChain m known at needed rest → IsChain m known place fact (chain ++ rest)
    pub holds : MayHold m known place fact → MayHold m known at needed

  pub way_begins : (place : BodyLocation) (fact : Fact) (chain : List Cause) → chain ≡ [] →
      IsOnWay place fact chain place fact
  way_begins place fact chain none = record {
    joins = λ rest c. let P : List Cause → Type 0 = λ v. IsChain m known place fact (v ++ rest) in subst P (sym none) c;
    holds = λ may. may;
  }

  module _ (callers : List (Vec PassedBy)) (are : AreCallers m known callers) (place : BodyLocation) (fact : Fact) (at : BodyLocation)
      (needed : Fact) (chain : List Cause) (way : IsOnWay place fact chain at needed) where
    pub way_goes_on : (trace : List Rule) (by : PassedBy) (new : List Cause) → new ≡ chain ++ causes_at at trace →
        Contains (passed_at callers at) by → IsTrace (rules_at m known at) needed trace by.pass.beginning →
        IsOnWay place fact new by.caller by.pass.cause
    way_goes_on trace by new is contains t =
        let p = are.sound at by contains in
        let T : BodyLocation → Type 0 = λ v. IsTrace (rules_at m known v) needed trace by.pass.beginning in
        let B : BodyLocation → Type 0 = λ v. IsBefore m v by.caller in
        record {
          joins = λ rest c.
              let C : BodyLocation → Type 0 = λ v. IsChain m known v needed (causes_at v trace ++ rest) in
              let more = subst C (sym p.at) (from_caller trace by.pass (subst T p.at t) (subst B p.at p.before) p.within c) in
              let P : List Cause → Type 0 = λ v. IsChain m known place fact v in
              let long : new ++ rest ≡ chain ++ (causes_at at trace ++ rest) =
              ap (λ (v : List Cause). v ++ rest) is ∙ append_assoc chain (causes_at at trace) rest in
              subst P (sym long) (way.joins (causes_at at trace ++ rest) more);
          holds = λ may. p.holds;
        }

    pub way_ends : (trace : List Rule) (new : List Cause) → new ≡ chain ++ causes_at at trace →
        IsTrace (rules_at m known at) needed trace Always → IsChain m known place fact new
    way_ends trace new is t =
        let P : List Cause → Type 0 = λ v. IsChain m known place fact v in
        subst P (sym is) (way.joins (causes_at at trace) (from_source trace t))

    pub no_way : (Follows (rules_at m known at) (firsts_of (passed_at callers at)) needed → ⊥) → MayHold m known place fact → ⊥
    no_way none may =
        let here = way.holds may in
        none (here.0, are.complete at here.0 here.1, here.2)

pub chains_may_hold : ChainsMayHold
chains_may_hold m known place fact chain c = may_hold m known place fact chain c

pub may_holds_have_chains : MayHoldsHaveChains
may_holds_have_chains m known place fact may = has_chain m known place may.0 fact may.1 may.2
