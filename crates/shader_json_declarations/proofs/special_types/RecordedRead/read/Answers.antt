use Rattle.std.proofs.Common.{◌≡◌, ◌≤◌, length, not, arith}
use Rattle.json.specs.Json.{Json, array}
use Rattle.json.specs.Value.{items_view, value_view}
use Rattle.shader_json_declarations.specs.SpecialTypes.{IsDroppedEntry, IsEntry, is_dropped}
use Rattle.shader_json_declarations.proofs.EntryLemmas.{all_recorded, unless_more, was_within}
use Rattle.shader_json_reader.proofs.AnswerLemmas.{passed_on}
use Rattle.shader_json_declarations.proofs.KeyLemmas.{pair_new}
use Rattle.shader_json_declarations.proofs.ListLemmas.{array_view}
use Rattle.shader_json_declarations.proofs.special_types.RecordedRead.read.Goals as goal

pub loop-index-preserved : goal.loop-index-preserved
loop-index-preserved c =
    let pairs = c.deref-pair-items.result.now in
    let i = c.loop-index.index in
    let pair = c.pair-item.result in
    let old = c.loop-index.types in
    let new = c.add.new.self in
    let read = c.add.result in
    let failed = c.in_ok-within.ensures.err in
    record {
      entries = unless_more IsEntry is_dropped pairs i pair old.stored new.stored c.loop-index-test.true c.pair-item.is
          c.loop-index.invariant.entries (was_within read c.add.ensures.stored failed);
      dropped = unless_more IsDroppedEntry (λ (j : Json). not (is_dropped j)) pairs i pair old.dropped.keys new.dropped.keys
          c.loop-index-test.true c.pair-item.is c.loop-index.invariant.dropped (was_within read c.add.ensures.dropped failed);
      keys = was_within read c.add.ensures.keys failed c.loop-index.invariant.keys;
      scalars = was_within read c.add.ensures.scalars failed c.loop-index.invariant.scalars;
    }

pub returns-in_err-within-clause-accepts : goal.returns-in_err-within-clause-accepts
returns-in_err-within-clause-accepts c = λ types h.
    let pairs = c.deref-pair-items.result.now in
    let is = array_view c.args.value.now c.in-Array.pairs pairs c.in-Array.is c.deref-pair-items.ensures.value in
    let so_far = c.loop-index.invariant in
    passed_on _ _ c.from_residual.ensures.1 (c.in_err-within.ensures.accepts (pair_new pairs c.loop-index.index c.pair-item.result
    c.loop-index-test.true c.pair-item.is c.loop-index.types.stored c.loop-index.types.dropped.keys so_far.entries so_far.dropped
    c.add.ensures.accepts _ types.0 is h))

pub returns : goal.returns
returns c =
    let pairs = c.deref-pair-items.result.now in
    let is : value_view c.args.value.now ≡ array (items_view pairs) =
    array_view c.args.value.now c.in-Array.pairs pairs c.in-Array.is c.deref-pair-items.ensures.value in
    let end : length pairs ≤ c.loop-index.index = omega arith in
    record {
      reads = all_recorded (value_view c.args.value.now) pairs c.loop-index.index c.loop-index.types.stored c.loop-index.types.dropped.keys
          is end c.loop-index.invariant.entries c.loop-index.invariant.dropped c.loop-index.invariant.keys c.loop-index.invariant.scalars;
      accepts = λ types h. tt;
    }
