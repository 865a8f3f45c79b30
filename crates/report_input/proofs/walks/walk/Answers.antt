use Rattle.std.proofs.Common.{◌≡◌, ◌∙◌, List, [], ◌∷◌, ◌++◌, ap, rules, subst, sym, take, true}
use Rattle.std.proofs.lemmas.List.{take_all, take_more}
use Rattle.report_input.proofs.SpanLemmas.{one_more_step}
use Rattle.report_input.specs.Spans.{Leads}
use Rattle.report_input.specs.declared.steps.Step.{Step}
use Rattle.report_input.proofs.walks.walk.Goals as goal

pub loop-step-preserved : goal.loop-step-preserved
loop-step-preserved c =
    let all = c.args.steps.now in
    let index = c.loop-step.step-index in
    let step = c.step-item.result in
    let old = c.args.reader.now in
    let new = c.enter.new.reader in
    let entered : c.enter.result ≡ true = search rules in
    subst (λ (steps : List Step). Leads steps old new)
    (sym (take_more all index step c.loop-step-test.true ∙ ap (λ (x : Step). take index all ++ x ∷ []) (sym c.step-item.is)))
    (one_more_step (take index all) step old c.loop-step.reader new c.loop-step.invariant (c.enter.ensures entered))

pub returns : goal.returns
returns c = λ _. subst (λ (steps : List Step). Leads steps c.args.reader.now c.loop-step.reader)
    (take_all c.loop-step.step-index c.args.steps.now c.loop-step-test.false) c.loop-step.invariant
