use Rattle.std.proofs.Common.{◌≡◌, ◌∙◌, ◌-◌, ℕ, List, ap, arith, drop, length, length-drop, take}
use Rattle.std.proofs.lemmas.List.{drop_min, take_all, take_min}
use Rattle.report_input.proofs.spans.bytes_of.Goals as goal

pub returns : goal.returns
returns c =
    let text : List ℕ = c.args.input.now in
    let at = c.min-begin.result in
    let begin = c.args.span.begin in
    let most = c.args.span.end - begin in
    let rest : List ℕ = take (length text - at) (drop at text) in
    let same : rest ≡ drop begin text = take_all (length text - at) (drop at text) (omega (arith, length-drop at text))
    ∙ (ap (λ (n : ℕ). drop n text) c.min-begin.ensures ∙ drop_min begin text) in
    ap (λ (n : ℕ). take n rest) c.min-length.ensures ∙ (take_min c.saturating_sub.result rest
    ∙ (ap (λ (n : ℕ). take n rest) c.saturating_sub.ensures ∙ ap (λ (v : List ℕ). take most v) same))
