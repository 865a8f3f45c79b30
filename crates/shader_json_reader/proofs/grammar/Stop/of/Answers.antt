use Rattle.std.proofs.Common.{◌-◌, ◌∙◌, ap, arith, length, slice_get, sym, List}
use Rattle.shader_json_reader.specs.declared.grammar.Bracket.{Bracket}
use Rattle.shader_json_reader.proofs.GrammarLemmas.{goes_on, stop_at_end, stops_there}
use Rattle.shader_json_reader.proofs.grammar.Stop.of.Goals as goal

pub returns-in-Stops : goal.returns-in-Stops
returns-in-Stops c =
    let l = c.loop-byte in
    let inside = c.copied.ensures
    ∙ (c.last.ensures.value ∙ ap (λ (bs : List Bracket). slice_get bs (length bs - 1)) c.as_slice.ensures.value) in
    sym (stops_there c.args.text.now l.byte-index l.at l.expected l.brackets.items _ _ _ _ c.in-Stops.stop c.loop-byte-test.true inside
    c.after-done.ensures c.in-Stops.is c.in_ok-next.ensures)
    ∙ l.invariant.0

pub loop-byte-preserved : goal.loop-byte-preserved
loop-byte-preserved c =
    let l = c.loop-byte in
    let inside = c.copied.ensures
    ∙ (c.last.ensures.value ∙ ap (λ (bs : List Bracket). slice_get bs (length bs - 1)) c.as_slice.ensures.value) in (
      sym (goes_on c.args.text.now l.byte-index l.at l.expected l.brackets.items _ _ _ _ c.in-Goes.next c.loop-byte-test.true inside
          c.after-done.ensures c.in-Goes.is c.in_ok-next.ensures)
          ∙ l.invariant.0,
      omega (arith, l.invariant.1),
    )

pub returns : goal.returns
returns c =
    let l = c.loop-byte in
    sym (stop_at_end c.args.text.now l.byte-index l.at l.expected l.brackets.items (omega arith)) ∙ l.invariant.0
