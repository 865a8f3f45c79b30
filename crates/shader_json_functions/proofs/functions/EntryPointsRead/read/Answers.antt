use Rattle.std.proofs.Common.{◌≡◌, ◌≤◌, length, arith, subst, sym}
use Rattle.json.specs.Json.{array}
use Rattle.json.specs.Value.{items_view, value_view}
use Rattle.shader_json_reader.proofs.AnswerLemmas.{passed_on}
use Rattle.shader_json_declarations.proofs.ListLemmas.{all_read, array_view, each_more, item_of}
use Rattle.shader_json_reader.specs.Shapes.{IsList}
use Rattle.shader_json_functions.specs.Functions.{IsEntryPoint}
use Rattle.shader_json_functions.proofs.functions.EntryPointsRead.read.Goals as goal

pub loop-index-preserved : goal.loop-index-preserved
loop-index-preserved c =
    each_more IsEntryPoint c.deref-item-items.result.now c.loop-index.index c.item-item.result c.loop-index.entry_points.items
    c.in_ok-read.read c.push.new.self.items c.in_ok-push.ensures.items c.loop-index-test.true c.item-item.is c.loop-index.invariant
    c.in_ok-read.ensures.reads

pub returns-clause-reads : goal.returns-clause-reads
returns-clause-reads c =
    let items = c.deref-item-items.result.now in
    let is : value_view c.args.value.now ≡ array (items_view items) =
    array_view c.args.value.now c.in-Array.items items c.in-Array.is c.deref-item-items.ensures.value in
    let end : length items ≤ c.loop-index.index = omega arith in
    let read = all_read IsEntryPoint (value_view c.args.value.now) items c.loop-index.index c.loop-index.entry_points.items is end
    c.loop-index.invariant in
    subst (IsList IsEntryPoint (value_view c.args.value.now)) (sym c.from.ensures) read

pub returns-in_err-read-clause-accepts : goal.returns-in_err-read-clause-accepts
returns-in_err-read-clause-accepts c = λ es h.
    let items = c.deref-item-items.result.now in
    passed_on _ _ c.from_residual-in_err-read.ensures.1
    (item_of IsEntryPoint (value_view c.args.value.now) items c.loop-index.index c.item-item.result es.0
    (array_view _ _ items c.in-Array.is c.deref-item-items.ensures.value) c.loop-index-test.true c.item-item.is
    (λ e g. c.in_err-read.ensures.accepts e g) h)
