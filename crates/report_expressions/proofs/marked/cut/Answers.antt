use Rattle.std.proofs.Common.{◌≡◌, ◌+◌, arith, length, string_bytes}
use Rattle.std.proofs.lemmas.Str.{IsUtf8-string_bytes}
use Rattle.std.specs.Str.{chars}
use Rattle.report_expressions.proofs.TextLemmas.{length-cut_to}
use Rattle.report_expressions.proofs.marked.cut.Goals as goal
use Rattle.report_expressions.proofs.marked.cut.Goals.{then-marked-kept, else-marked-kept}

pub returns-clause-columns : goal.returns-clause-columns
returns-clause-columns c =
    let e : length (chars (string_bytes c.push_str.new.self)) ≡ c.saturating_sub-kept.result + 3 =
    length-cut_to (string_bytes c.args.marked.now.text) c.as_str.result.now (string_bytes c.in_ok-text.text)
    (string_bytes c.push_str.new.self) c.args.columns c.saturating_sub-kept.result (IsUtf8-string_bytes c.args.marked.now.text)
    (IsUtf8-string_bytes c.in_ok-text.text) c.as_str.ensures.value c.in_ok-text.ensures c.saturating_sub-kept.ensures c.requires.long
    c.in_ok-push_str.ensures.bytes in
    let kept = c.saturating_sub-kept.ensures in
    omega (arith, e, kept)

pub returns-clause-mark : goal.returns-clause-mark
returns-clause-mark c =
    let e : length (chars (string_bytes c.push_str.new.self)) ≡ c.saturating_sub-kept.result + 3 =
    length-cut_to (string_bytes c.args.marked.now.text) c.as_str.result.now (string_bytes c.in_ok-text.text)
    (string_bytes c.push_str.new.self) c.args.columns c.saturating_sub-kept.result (IsUtf8-string_bytes c.args.marked.now.text)
    (IsUtf8-string_bytes c.in_ok-text.text) c.as_str.ensures.value c.in_ok-text.ensures c.saturating_sub-kept.ensures c.requires.long
    c.in_ok-push_str.ensures.bytes in
    elim c.if-marked-kept.branch [
      | then-marked-kept w ↦ record { order = omega (arith, e); inside = omega (arith, e) }
      | else-marked-kept w ↦ record { order = omega (arith, e); inside = omega (arith, e) }
    ]
