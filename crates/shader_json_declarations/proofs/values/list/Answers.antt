use Rattle.std.proofs.Common.{◌≡◌, ◌≤◌, length, arith}
use Rattle.json.specs.Json.{array}
use Rattle.json.specs.Value.{items_view, value_view}
use Rattle.shader_json_reader.proofs.AnswerLemmas.{passed_on}
use Rattle.shader_json_declarations.proofs.ListLemmas.{all_read, array_view, each_more, item_of}
use Rattle.shader_json_declarations.proofs.values.list.Goals as goal

pub loop-index-preserved : goal.loop-index-preserved
loop-index-preserved g c =
    each_more g.T.Read.reads c.deref-item-items.result.now c.loop-index.index c.item-item.result c.loop-index.list.items c.in_ok-read.read
    c.push.new.self.items c.in_ok-push.ensures.items c.loop-index-test.true c.item-item.is c.loop-index.invariant c.in_ok-read.ensures.reads

pub returns-in_err-read-clause-accepts : goal.returns-in_err-read-clause-accepts
returns-in_err-read-clause-accepts g c = λ list h.
    let items = c.deref-item-items.result.now in
    let is : value_view c.args.value.now ≡ array (items_view items) =
    array_view c.args.value.now c.in-Array.items items c.in-Array.is c.deref-item-items.ensures.value in
    passed_on _ _ c.from_residual-in_err-read.ensures.1
    (item_of g.T.Read.reads _ items c.loop-index.index c.item-item.result list is c.loop-index-test.true c.item-item.is
    c.in_err-read.ensures.accepts h)

pub returns : goal.returns
returns g c =
    let items = c.deref-item-items.result.now in
    let is : value_view c.args.value.now ≡ array (items_view items) =
    array_view c.args.value.now c.in-Array.items items c.in-Array.is c.deref-item-items.ensures.value in
    let end : length items ≤ c.loop-index.index = omega arith in
    record {
      reads = all_read g.T.Read.reads
          (value_view c.args.value.now) items c.loop-index.index c.loop-index.list.items is end c.loop-index.invariant;
      accepts = λ list h. tt;
    }
