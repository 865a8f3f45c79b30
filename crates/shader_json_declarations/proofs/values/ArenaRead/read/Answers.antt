use Rattle.std.proofs.Common.{◌≡◌, ◌≤◌, length, arith}
use Rattle.json.specs.Json.{array}
use Rattle.json.specs.Value.{items_view, value_view}
use Rattle.shader_json_reader.proofs.AnswerLemmas.{passed_on}
use Rattle.shader_json_declarations.proofs.ArenaLemmas.{never_full, room_left}
use Rattle.shader_json_declarations.proofs.ListLemmas.{all_read, array_view, each_more, item_of}
use Rattle.shader_json_declarations.proofs.values.ArenaRead.read.Goals as goal

pub loop-index-preserved : goal.loop-index-preserved
loop-index-preserved g c =
    let arena = c.loop-index.arena in
    let read = c.in_ok-read.read in
    record {
      each = each_more g.T.Read.reads c.deref-item-items.result.now c.loop-index.index c.item-item.result arena read c.append.new.self
          c.in_ok-append.ensures.appended c.loop-index-test.true c.item-item.is c.loop-index.invariant.each c.in_ok-read.ensures.reads;
      room = room_left arena read c.append.new.self c.in_ok-append.ensures.appended (c.is_full.ensures.room.0 c.if-is_full.false);
    }

pub returns-in_err-read-clause-accepts : goal.returns-in_err-read-clause-accepts
returns-in_err-read-clause-accepts g c = λ arena h.
    let items = c.deref-item-items.result.now in
    let is : value_view c.args.value.now ≡ array (items_view items) =
    array_view c.args.value.now c.in-Array.items items c.in-Array.is c.deref-item-items.ensures.value in
    passed_on _ _ c.from_residual.ensures.1
    (item_of g.T.Read.reads _ items c.loop-index.index c.item-item.result arena is c.loop-index-test.true c.item-item.is
    c.in_err-read.ensures.accepts h.0)

pub returns-then-is_full-clause-accepts : goal.returns-then-is_full-clause-accepts
returns-then-is_full-clause-accepts g c = λ arena h.
    let items = c.deref-item-items.result.now in
    let is : value_view c.args.value.now ≡ array (items_view items) =
    array_view c.args.value.now c.in-Array.items items c.in-Array.is c.deref-item-items.ensures.value in
    never_full g.T.Read.reads _ items c.loop-index.index c.loop-index.arena arena is c.loop-index-test.true c.loop-index.invariant.each
    (grind arith) h

pub returns : goal.returns
returns g c =
    let items = c.deref-item-items.result.now in
    let is : value_view c.args.value.now ≡ array (items_view items) =
    array_view c.args.value.now c.in-Array.items items c.in-Array.is c.deref-item-items.ensures.value in
    let end : length items ≤ c.loop-index.index = omega arith in
    record {
      reads = (
        all_read g.T.Read.reads
            (value_view c.args.value.now) items c.loop-index.index c.loop-index.arena is end c.loop-index.invariant.each,
        c.loop-index.invariant.room,
      );
      accepts = λ arena h. tt;
    }
