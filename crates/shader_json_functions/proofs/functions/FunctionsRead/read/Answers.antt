use Rattle.std.proofs.Common.{◌≡◌, ◌≤◌, length, arith}
use Rattle.json.specs.Json.{array}
use Rattle.json.specs.Value.{items_view, value_view}
use Rattle.shader_arena.specs.Positions.{most_items}
use Rattle.shader_json_reader.proofs.AnswerLemmas.{passed_on}
use Rattle.shader_json_declarations.proofs.ArenaLemmas.{never_full, room_left}
use Rattle.shader_json_declarations.proofs.ListLemmas.{all_read, array_view, each_more, item_of}
use Rattle.shader_json_functions.specs.Functions.{IsFunction}
use Rattle.shader_json_functions.proofs.functions.FunctionsRead.read.Goals as goal

pub loop-index-preserved : goal.loop-index-preserved
loop-index-preserved c =
    let functions = c.loop-index.functions in
    let function = c.in_ok-read.read.0 in
    record {
      each = each_more IsFunction c.deref-item-items.result.now c.loop-index.index c.item-item.result functions function c.append.new.self
          c.in_ok-append.ensures.appended c.loop-index-test.true c.item-item.is c.loop-index.invariant.each c.in_ok-read.ensures.reads;
      few = room_left functions function c.append.new.self c.in_ok-append.ensures.appended (omega arith);
    }

pub returns-clause-reads : goal.returns-clause-reads
returns-clause-reads c =
    let j = value_view c.args.value.now in
    let items = c.deref-item-items.result.now in
    let is : j ≡ array (items_view items) =
    array_view c.args.value.now c.in-Array.items items c.in-Array.is c.deref-item-items.ensures.value in
    let end : length items ≤ c.loop-index.index = omega arith in
    (all_read IsFunction j items c.loop-index.index c.loop-index.functions is end c.loop-index.invariant.each, c.loop-index.invariant.few)

pub returns-in_err-read-clause-accepts : goal.returns-in_err-read-clause-accepts
returns-in_err-read-clause-accepts c = λ fs h.
    let items = c.deref-item-items.result.now in
    passed_on _ _ c.from_residual.ensures.1
    (item_of IsFunction (value_view c.args.value.now) items c.loop-index.index c.item-item.result fs.0
    (array_view _ _ items c.in-Array.is c.deref-item-items.ensures.value) c.loop-index-test.true c.item-item.is
    (λ f g. c.in_err-read.ensures.accepts (record { 0 = f }) g) h.0)

pub returns-then-is_full-clause-accepts : goal.returns-then-is_full-clause-accepts
returns-then-is_full-clause-accepts c = λ fs h.
    let items = c.deref-item-items.result.now in
    let functions = c.loop-index.functions in
    let full : length functions ≡ most_items = grind arith in
    never_full IsFunction (value_view c.args.value.now) items c.loop-index.index functions fs.0
    (array_view _ _ items c.in-Array.is c.deref-item-items.ensures.value) c.loop-index-test.true c.loop-index.invariant.each full h
