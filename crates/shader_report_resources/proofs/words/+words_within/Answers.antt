use Rattle.std.proofs.Common.{◌≡◌, ◌∙◌, ◌-◌, [], ap, arith, sym, suc, List, ℕ}
use Rattle.std.specs.String.{string_bytes}
use Rattle.std.proofs.lemmas.Result.{IfOk-weaker}
use Rattle.shader_report_resources.specs.Words.{told_words, words_within}
use Rattle.shader_report_resources.proofs.WordLemmas.{within_alone, within_over}
use Rattle.shader_report_resources.proofs.words.+words_within.Goals as goal

pub returns-in_ok-words-in-Some : goal.returns-in_ok-words-in-Some
returns-in_ok-words-in-Some t c =
    let m = c.args.module.now in
    let levels = c.args.levels in
    let ty = c.args.ty in
    let zero = c.if-levels-eq0.false in
    let more : levels ≡ suc (levels - 1) = omega (arith, zero) in
    IfOk-weaker c.told_words.result (λ text. string_bytes text ≡ told_words m c.as_str.result.now ty)
    (λ text. string_bytes text ≡ words_within m levels ty)
    (λ text told. told ∙ ap (λ (b : List ℕ). told_words m b ty) (c.as_str.ensures.value ∙ c.in_ok-words-in-Some.ensures)
    ∙ sym (within_over m levels (levels - 1) ty c.in-Some.base more (sym c.base_at.ensures ∙ c.in-Some.is))) c.told_words.ensures

pub returns-in-None : goal.returns-in-None
returns-in-None t c =
    let m = c.args.module.now in
    let levels = c.args.levels in
    let ty = c.args.ty in
    let zero = c.if-levels-eq0.false in
    let more : levels ≡ suc (levels - 1) = omega (arith, zero) in
    IfOk-weaker c.told_words-in-None.result (λ text. string_bytes text ≡ told_words m [] ty)
    (λ text. string_bytes text ≡ words_within m levels ty)
    (λ text told. told ∙ sym (within_alone m levels (levels - 1) ty more (sym c.base_at.ensures ∙ c.in-None.is)))
    c.told_words-in-None.ensures
