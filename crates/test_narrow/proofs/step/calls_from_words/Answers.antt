use Rattle.std.proofs.Common.{◌∙◌, sym}
use Rattle.test_narrow.proofs.Supplies.{empty_taken, fit_more, none_fit, one_taken}
use Rattle.test_narrow.proofs.step.calls_from_words.Goals as goal

pub loop-word-init : goal.loop-word-init
loop-word-init c = record {
  flat = c.requires;
  fit = rw c.new-calls.ensures.items (none_fit c.args.types.now);
  taken = rw c.new-calls.ensures.items (empty_taken c.args.types.now c.args.words c.into_iter-word-iterator.result
      (sym c.into_iter-word-iterator.ensures.into_iter_gives));
}

pub loop-word-preserved : goal.loop-word-preserved
loop-word-preserved c =
    let before = c.loop-word.types in
    let after = c.to_call.new.types in
    let retained = c.in_ok-to_call.ensures.retained in
    let built = c.loop-word.calls.items in
    let call = c.in_ok-to_call.field-0 in
    let found = sym c.from_word.ensures ∙ c.in-Some-from_word.is in
    record {
      flat = c.in_ok-to_call.ensures.flat;
      fit = rw c.in_ok-push.ensures.items
          (fit_more before after built call retained c.loop-word.invariant.fit c.in_ok-to_call.ensures.fits);
      taken = rw c.in_ok-push.ensures.items (one_taken before after c.args.words c.loop-word.word-iterator c.next.new.self
          c.in-Some.word.now built c.in-Some-from_word.step call
          retained c.in-Some.ensures.steps found c.in_ok-to_call.ensures.call c.loop-word.invariant.taken);
    }
