use Rattle.std.proofs.Common.{rules, ◌≡◌, ◌∙◌, ◌+◌, [], sym, ap, arith, subst, take}
use Rattle.std.proofs.lemmas.List.{take_all}
use Rattle.std.proofs.lemmas.Option.{same_Some}
use Rattle.std.specs.List.{filter}
use Rattle.shader_typing.specs.AnySet.{rules_in}
use Rattle.shader_typing.specs.OverloadsBuiltins.{acceptance_of, rules_of}
use Rattle.shader_typing.specs.OverloadsCounts.{arguments_at}
use Rattle.shader_typing.specs.Remaining.{remaining, supplying}
use Rattle.shader_uses.specs.declared.explained.Refusal.{Refusal}
use Rattle.shader_uses.proofs.Refusals.{narrowed, unnarrowed}
use Rattle.shader_uses.proofs.explained.refusal_of.Goals as goal

pub loop-i-init : goal.loop-i-init
loop-i-init c = record {
  rules = c.in_ok-left.ensures.rules
      ∙ unnarrowed (acceptance_of c.args.function) c.args.module.now.types c.args.arguments.now (rules_of c.args.function);
  kind = c.in_ok-left.ensures.kind;
  fits = c.in_ok-left.ensures.fits c.args.module.now.types;
  some = λ positive. absurd (omega (arith, positive));
}

pub loop-i-preserved : goal.loop-i-preserved
loop-i-preserved c =
    let accepting = acceptance_of c.args.function in
    let types = c.args.module.now.types in
    let argument = c.index-arguments-i.result in
    let before = rules_in c.loop-i.left in
    let step : rules_in c.in_ok-next.next ≡ filter (accepting types c.loop-i.i argument) before =
    c.in_ok-next.ensures.rules ∙ ap (λ a. filter (a types c.loop-i.i argument) before) c.loop-i.invariant.kind in
    record {
      rules = narrowed accepting types c.args.arguments.now c.loop-i.i argument (rules_of c.args.function) before
          (rules_in c.in_ok-next.next) (omega arith) (sym c.index-arguments-i.is) c.loop-i.invariant.rules step;
      kind = c.in_ok-next.ensures.kind ∙ c.loop-i.invariant.kind;
      fits = c.in_ok-next.ensures.fits;
      some = λ positive none. search rules;
    }

pub returns-then-is_empty-clause-refused : goal.returns-then-is_empty-clause-refused
returns-then-is_empty-clause-refused c = λ why is.
    let accepting = acceptance_of c.args.function in
    let types = c.args.module.now.types in
    let argument = c.index-arguments-i.result in
    let before = rules_in c.loop-i.left in
    let step : rules_in c.in_ok-next.next ≡ filter (accepting types c.loop-i.i argument) before =
    c.in_ok-next.ensures.rules ∙ ap (λ a. filter (a types c.loop-i.i argument) before) c.loop-i.invariant.kind in
    let none : rules_in c.in_ok-next.next ≡ [] = search rules in
    subst (λ (v : Refusal). remaining accepting types (supplying 0 (take (v.argument + 1) c.args.arguments.now)) (rules_of c.args.function)
    ≡ []) (same_Some _ _ is)
    (sym (narrowed accepting types c.args.arguments.now c.loop-i.i argument (rules_of c.args.function) before
    (rules_in c.in_ok-next.next) (omega arith) (sym c.index-arguments-i.is) c.loop-i.invariant.rules step) ∙ none)

pub returns-then-is_empty-clause-allowed : goal.returns-then-is_empty-clause-allowed
returns-then-is_empty-clause-allowed c = λ why is.
    subst (λ (v : Refusal). v.allowed.items ≡ arguments_at v.argument (remaining (acceptance_of c.args.function) c.args.module.now.types
    (supplying 0 (take v.argument c.args.arguments.now)) (rules_of c.args.function))) (same_Some _ _ is)
    (c.in_ok-allowed.ensures.arguments ∙ ap (arguments_at c.loop-i.i) c.loop-i.invariant.rules)

pub returns-clause-accepted : goal.returns-clause-accepted
returns-clause-accepted c = λ is positive none.
    c.loop-i.invariant.some (omega (arith, positive))
    (c.loop-i.invariant.rules
    ∙ ap (λ tys. remaining (acceptance_of c.args.function) c.args.module.now.types (supplying 0 tys) (rules_of c.args.function))
    (take_all c.loop-i.i c.args.arguments.now (omega arith)) ∙ none)
