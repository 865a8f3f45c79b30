use Rattle.std.proofs.Common.{◌≡◌, ◌≤◌, length, arith}
use Rattle.json.specs.Json.{array}
use Rattle.json.specs.Value.{items_view, value_view}
use Rattle.shader_json_reader.proofs.AnswerLemmas.{passed_on}
use Rattle.shader_json_declarations.proofs.ArenaLemmas.{never_full, room_left}
use Rattle.shader_json_declarations.proofs.ListLemmas.{all_read, array_view, each_more, item_of}
use Rattle.shader_json_expressions.specs.Expressions.{IsExpression}
use Rattle.shader_json_expressions.proofs.expressions.ExpressionsRead.read.Goals as goal

pub loop-index-preserved : goal.loop-index-preserved
loop-index-preserved c =
    let expressions = c.loop-index.expressions in
    let expression = c.in_ok-expression.expression in
    record {
      each = each_more IsExpression c.deref-item-items.result.now c.loop-index.index c.item-item.result expressions expression
          c.append.new.self c.in_ok-append.ensures.appended c.loop-index-test.true c.item-item.is c.loop-index.invariant.each
          c.in_ok-expression.ensures.reads;
      room = room_left expressions expression c.append.new.self c.in_ok-append.ensures.appended
          (c.is_full.ensures.room.0 c.if-is_full.false);
    }

pub returns-in_err-expression-clause-accepts : goal.returns-in_err-expression-clause-accepts
returns-in_err-expression-clause-accepts c = λ x h.
    let items = c.deref-item-items.result.now in
    let is = array_view c.args.value.now c.in-Array.items items c.in-Array.is c.deref-item-items.ensures.value in
    passed_on _ _ c.from_residual.ensures.1
    (item_of IsExpression _ items c.loop-index.index c.item-item.result x.0 is c.loop-index-test.true c.item-item.is
    c.in_err-expression.ensures.accepts h.0)

pub returns-then-is_full-clause-accepts : goal.returns-then-is_full-clause-accepts
returns-then-is_full-clause-accepts c = λ x h.
    let items = c.deref-item-items.result.now in
    let is = array_view c.args.value.now c.in-Array.items items c.in-Array.is c.deref-item-items.ensures.value in
    never_full IsExpression _ items c.loop-index.index c.loop-index.expressions x.0 is c.loop-index-test.true
    c.loop-index.invariant.each (c.is_full.ensures.full.0 c.if-is_full.true) h

pub returns-clause-reads : goal.returns-clause-reads
returns-clause-reads c =
    let items = c.deref-item-items.result.now in
    let is : value_view c.args.value.now ≡ array (items_view items) =
    array_view c.args.value.now c.in-Array.items items c.in-Array.is c.deref-item-items.ensures.value in
    let end : length items ≤ c.loop-index.index = omega arith in (
      all_read IsExpression (value_view c.args.value.now) items c.loop-index.index c.loop-index.expressions is end
          c.loop-index.invariant.each,
      c.loop-index.invariant.room,
    )
