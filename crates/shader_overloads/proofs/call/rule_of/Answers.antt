use Rattle.std.proofs.Common.{◌≡◌, ◌∙◌, sym, ap, arith, inr, subst, IsSome}
use Rattle.std.specs.List.{filter}
use Rattle.std.proofs.lemmas.Bool.{both_ways}
use Rattle.shader_overloads.specs.AnySet.{rules_in}
use Rattle.shader_overloads.specs.Builtins.{acceptance_of}
use Rattle.shader_overloads.specs.Remaining.{remaining, supplying}
use Rattle.shader_overloads.proofs.CallLemmas.{first_is_meant, some_first, whatever_error}
use Rattle.shader_overloads.proofs.NarrowLemmas.{supplied}
use Rattle.shader_overloads.proofs.call.rule_of.Goals as goal

pub loop-i-init : goal.loop-i-init
loop-i-init c = record {
  rest = ap (remaining (acceptance_of c.args.function) c.args.types.now (supplying 0 c.args.arguments.now)) c.in_ok-left.ensures.rules;
  kind = c.in_ok-left.ensures.kind;
  regular = c.in_ok-left.ensures.regular;
  fits = c.in_ok-left.ensures.fits c.args.types.now;
}

pub loop-i-preserved : goal.loop-i-preserved
loop-i-preserved c =
    let accepting = acceptance_of c.args.function in
    let types = c.args.types.now in
    let argument = c.index-arguments-i.result in
    let before = rules_in c.loop-i.left in
    let step : rules_in c.in_ok-left-2.left ≡ filter (accepting types c.loop-i.i argument) before =
    c.in_ok-left-2.ensures.rules ∙ ap (λ a. filter (a types c.loop-i.i argument) before) c.loop-i.invariant.kind in
    record {
      rest = supplied accepting types c.args.arguments.now c.loop-i.i argument argument before (rules_in c.in_ok-left-2.left) _
          (omega arith) (sym c.index-arguments-i.is) step c.loop-i.invariant.rest;
      kind = c.in_ok-left-2.ensures.kind ∙ c.loop-i.invariant.kind;
      regular = c.in_ok-left-2.ensures.free ∙ c.loop-i.invariant.regular;
      fits = c.in_ok-left-2.ensures.fits;
    }

pub returns-in_err-rule-clause-memory : goal.returns-in_err-rule-clause-memory
returns-in_err-rule-clause-memory c =
    let left = rules_in c.loop-i.left in
    let is_meant = first_is_meant c.args.types.now c.args.function c.args.arguments.now c.loop-i.i left (omega arith)
    c.loop-i.invariant.rest in
    let some = some_first left (λ none. both_ways _ c.if-is_empty.false (c.is_empty.ensures.1 none)) in
    whatever_error c.from_residual-in_err-rule.result (inr (subst IsSome is_meant some))

pub returns-clause-rule : goal.returns-clause-rule
returns-clause-rule c =
    sym c.in_ok-rule.ensures ∙ first_is_meant c.args.types.now c.args.function c.args.arguments.now c.loop-i.i (rules_in c.loop-i.left)
    (omega arith) c.loop-i.invariant.rest
