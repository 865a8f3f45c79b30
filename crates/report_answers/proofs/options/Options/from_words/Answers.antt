use Rattle.std.proofs.Common.{◌≡◌, ◌∙◌, ◌+◌, arith, drop, sym, Ok}
use Rattle.std.specs.String.{string_bytes}
use Rattle.shader_analysis_spec.proofs.ListLemmas.{drop_item}
use Rattle.report_answers.proofs.OptionLemmas.{next_word}
use Rattle.report_answers.specs.Options.{with_word}
use Rattle.report_answers.proofs.options.Options.from_words.Goals as goal

pub loop-word-preserved : goal.loop-word-preserved
loop-word-preserved c =
    let words = c.args.words.now in
    let at = c.loop-word.word-index in
    let word = c.word-item.result in
    let bytes = c.as_bytes.ensures.value in
    let asked = c.with_word.ensures in
    let told = c.in_ok-options.was in
    let gives : with_word c.loop-word.options c.loop-word.index (string_bytes word) ≡ Ok c.in_ok-options.options = cc in
    let within = c.loop-word.invariant.within in
    record {
      within = omega arith;
      left = sym (next_word c.loop-word.options c.in_ok-options.options c.loop-word.index word (drop (at + 1) words) (drop at words)
          (drop_item words at word c.loop-word-test.true c.word-item.is) gives) ∙ c.loop-word.invariant.left;
    }
