use Rattle.std.proofs.Common.{◌≡◌, ◌≤◌, ◌+◌, ◌∙◌, [], ◌∷◌, ap, length, arith}
use Rattle.std.proofs.lemmas.List.{length-append}
use Rattle.json.specs.Json.{array}
use Rattle.json.specs.Value.{items_view, value_view}
use Rattle.shader_ir.specs.SameLaws.{type_decides}
use Rattle.shader_json_reader.proofs.AnswerLemmas.{passed_on}
use Rattle.shader_json_declarations.proofs.ArenaLemmas.{new_item}
use Rattle.shader_json_declarations.proofs.DeterminedTypes.{type_same}
use Rattle.shader_json_declarations.proofs.DistinctLemmas.{distinct_more}
use Rattle.shader_json_declarations.proofs.ListLemmas.{all_read, array_view, each_more, item_of}
use Rattle.shader_json_declarations.specs.Types.{IsType}
use Rattle.shader_json_declarations.proofs.types.UniqueArenaTypeMarkTypeRead.read.Goals as goal

pub loop-index-preserved : goal.loop-index-preserved
loop-index-preserved c =
    let types = c.loop-index.types in
    let ty = c.in_ok-ty.ty in
    let grown : length c.add_item.new.items ≡ length types + 1 = ap length c.in_ok-add_item.ensures.added ∙ length-append types (ty ∷ []) in
    record {
      each =
          each_more IsType c.deref-item-items.result.now c.loop-index.index c.item-item.result types ty c.add_item.new.items
          c.in_ok-add_item.ensures.added c.loop-index-test.true c.item-item.is c.loop-index.invariant.each c.in_ok-ty.ensures.reads;
      count = omega (arith, grown, c.loop-index.invariant.count);
      room = c.in_ok-add_item.ensures.room;
      distinct = distinct_more types ty c.add_item.new.items c.in_ok-add_item.ensures.added c.in_ok-add_item.ensures.absent
          c.loop-index.invariant.distinct;
    }

pub returns-in_err-ty-clause-accepts : goal.returns-in_err-ty-clause-accepts
returns-in_err-ty-clause-accepts c = λ types h.
    let items = c.deref-item-items.result.now in
    let is = array_view c.args.value.now c.in-Array.items items c.in-Array.is c.deref-item-items.ensures.value in
    passed_on _ _ c.from_residual.ensures.1
    (item_of IsType _ items c.loop-index.index c.item-item.result types is c.loop-index-test.true c.item-item.is c.in_err-ty.ensures.accepts
    h.0.0)

pub returns-in_err-add_item-clause-accepts : goal.returns-in_err-add_item-clause-accepts
returns-in_err-add_item-clause-accepts c = λ types h.
    let items = c.deref-item-items.result.now in
    let is = array_view c.args.value.now c.in-Array.items items c.in-Array.is c.deref-item-items.ensures.value in
    passed_on _ _ c.from_residual-in_err-add_item.ensures.1
    (new_item IsType type_same _ items c.loop-index.index c.item-item.result c.loop-index.types c.in_ok-ty.ty types is
    c.loop-index-test.true c.item-item.is c.loop-index.invariant.each c.in_ok-ty.ensures.reads h.0 h.1
    (c.in_err-add_item.ensures.accepts type_decides))

pub returns : goal.returns
returns c =
    let items = c.deref-item-items.result.now in
    let is : value_view c.args.value.now ≡ array (items_view items) =
    array_view c.args.value.now c.in-Array.items items c.in-Array.is c.deref-item-items.ensures.value in
    let end : length items ≤ c.loop-index.index = omega arith in
    record {
      reads = (
        (
          all_read IsType (value_view c.args.value.now) items c.loop-index.index c.loop-index.types is end c.loop-index.invariant.each,
          c.loop-index.invariant.room,
        ),
        c.loop-index.invariant.distinct,
      );
      accepts = λ types h. tt;
    }
