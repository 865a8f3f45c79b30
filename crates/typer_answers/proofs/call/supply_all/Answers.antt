use Rattle.std.proofs.Common.{◌≡◌, ◌∙◌, List, sym, ap, arith}
use Rattle.std.specs.List.{filter}
use Rattle.std.proofs.lemmas.List.{drop_all}
use Rattle.shader_overloads.specs.AnySet.{rules_in}
use Rattle.shader_type_text.specs.declared.types.SpelledType.{SpelledType}
use Rattle.shader_type_text.specs.Insertions.{own_inner, own_types}
use Rattle.typer_answers.specs.Calls.{rules_left, takes_all, takes_argument}
use Rattle.shader_overloads.proofs.NarrowLemmas.{fewer_fit}
use Rattle.typer_answers.proofs.Supplied.{none_left, supplied}
use Rattle.typer_answers.proofs.call.supply_all.Goals as goal

pub loop-i-init : goal.loop-i-init
loop-i-init c = record {
  rest = ap (filter (takes_all c.args.function 0 c.args.arguments.now)) c.in_ok-left.ensures.rules;
  kind = c.in_ok-left.ensures.kind;
  fits = λ types. c.in_ok-left.ensures.fits types;
}

pub loop-i-preserved : goal.loop-i-preserved
loop-i-preserved c =
    let argument = c.index-arguments-i.result in
    let before = rules_in c.loop-i.left in
    let step : rules_in c.in_ok-left-2.left ≡ filter (takes_argument c.args.function c.loop-i.i argument) before =
    c.in_ok-left-2.ensures.rules ∙ ap (λ accepting. filter (accepting (own_types argument) c.loop-i.i (own_inner argument)) before)
    c.loop-i.invariant.kind in
    record {
      rest = supplied c.args.function c.args.arguments.now c.loop-i.i argument argument before (rules_in c.in_ok-left-2.left)
          (rules_left c.args.function c.args.arguments.now) (omega arith) (sym c.index-arguments-i.is) step c.loop-i.invariant.rest;
      kind = c.in_ok-left-2.ensures.kind ∙ c.loop-i.invariant.kind;
      fits = λ types. fewer_fit types (takes_argument c.args.function c.loop-i.i argument) before (rules_in c.in_ok-left-2.left) step
          (c.loop-i.invariant.fits types);
    }

pub returns : goal.returns
returns c =
    let left = rules_in c.loop-i.left in
    sym (none_left c.args.function c.loop-i.i left)
    ∙ sym (ap (λ (ts : List SpelledType). filter (takes_all c.args.function c.loop-i.i ts) left)
    (drop_all c.loop-i.i c.args.arguments.now (omega arith)))
    ∙ c.loop-i.invariant.rest
