use Rattle.std.proofs.Common.{◌≡◌, ◌∙◌, ◌+◌, ap, arith, length, string_bytes, sym}
use Rattle.std.proofs.lemmas.Str.{IsUtf8-string_bytes}
use Rattle.std.specs.Str.{chars}
use Rattle.report_expressions.proofs.TextLemmas.{are_texts_more, length-chars-append}
use Rattle.report_expressions.proofs.marked.joined.Goals as goal
use Rattle.report_expressions.proofs.marked.joined.Goals.{then-piece+then-has_mark, then-piece+else-has_mark, else-piece}

pub loop-piece-preserved : goal.loop-piece-preserved
loop-piece-preserved c =
    let text = string_bytes c.loop-piece.text in
    let same = c.as_str-in-loop-piece.result.now in
    let joined = c.in_ok-push_str.ensures.bytes in
    let longer : length (chars (string_bytes c.push_str.new.self)) ≡ length (chars text) + length (chars same) =
    ap (λ t. length (chars t)) joined ∙ length-chars-append text same (IsUtf8-string_bytes c.loop-piece.text) in
    let alike : length (chars c.as_str.result.now) ≡ length (chars same) =
    ap (λ t. length (chars t)) (c.as_str.ensures.value ∙ sym c.as_str-in-loop-piece.ensures.value) in
    let columns = c.columns_of.ensures in
    let next = c.saturating_add-next.ensures in
    let before = c.loop-piece.invariant in (
      are_texts_more c.args.source.now c.args.pieces.now c.loop-piece.piece-index _ text (string_bytes c.in_ok-word.word) same
          (string_bytes c.push_str.new.self) c.loop-piece-test.true before.0
          c.in_ok-word.ensures c.as_str-in-loop-piece.ensures.value joined,
      elim c.if-piece.branch [
        | then-piece+then-has_mark w ↦ omega (arith, before.1, before.2, before.3, before.4, longer, alike, columns, next)
        | then-piece+else-has_mark w ↦ omega (arith, before.1, before.2, before.3, before.4, longer, alike, columns, next)
        | else-piece w ↦ omega (arith, before.1, before.2, before.3, before.4, longer, alike, columns, next)
      ],
      elim c.if-piece.branch [
        | then-piece+then-has_mark w ↦ omega (arith, before.1, before.2, before.3, before.4, longer, alike, columns, next)
        | then-piece+else-has_mark w ↦ omega (arith, before.1, before.2, before.3, before.4, longer, alike, columns, next)
        | else-piece w ↦ omega (arith, before.1, before.2, before.3, before.4, longer, alike, columns, next)
      ],
      omega (arith, before.3, before.4, longer, alike, columns, next),
      omega (arith, next),
    )
