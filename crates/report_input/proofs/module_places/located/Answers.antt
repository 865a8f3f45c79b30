use Rattle.std.proofs.Common.{List, [], ◌∷◌, ◌++◌, map-id, rules, subst, sym}
use Rattle.std.proofs.lemmas.Iterator.Adapters.{YieldsList-from_vec}
use Rattle.std.proofs.lemmas.Iterator.Consumers.{YieldsList-end}
use Rattle.report_diagnostics.specs.declared.diagnostic.Diagnostic.{Diagnostic}
use Rattle.report_input.specs.Located.{AreLocated}
use Rattle.report_input.proofs.LocatedLemmas.{one_more}
use Rattle.report_input.proofs.module_places.located.Goals as goal

pub loop-diagnostic-preserved : goal.loop-diagnostic-preserved
loop-diagnostic-preserved c =
    let text = c.args.input.now in
    let befores = c.loop-diagnostic.yielded in
    let before = c.in-Some.diagnostic in
    let all = c.loop-diagnostic.all.items in
    subst (λ (afters : List Diagnostic). AreLocated text (befores ++ before ∷ []) afters)
    (sym {A = List Diagnostic} c.in_ok-push.ensures.items)
    (one_more text befores all before c.in_ok-located_one.field-0 c.loop-diagnostic.invariant c.in_ok-located_one.ensures)

pub returns : goal.returns
returns c =
    let end = YieldsList-end (YieldsList-from_vec {s = c.into_iter-diagnostic-iterator.result} c.args.diagnostics.items (search rules)
    (search rules)) c.loop-diagnostic.yielded c.loop-diagnostic.diagnostic-iterator c.loop-diagnostic.yielded_by c.next.result
    c.next.new.self c.in-None.is c.next.ensures.steps in
    rw (← end.0, map-id) c.loop-diagnostic.invariant
