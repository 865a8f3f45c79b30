use Rattle.std.proofs.Common.{◌≡◌, ◌∙◌, ap, sym, arith, ◌+◌, ◌<◌, [], ◌∷◌, ◌++◌, length, take}
use Rattle.std.proofs.lemmas.List.{take_more}
use Rattle.shader_ir.specs.BodyOf.{body_of}
use Rattle.shader_ir.proofs.CopyLemmas.{next_statement}
use Rattle.shader_ir.proofs.statement.+copy.Goals as goal

-- the next statement moves to those copied
pub Block::copy-loop-statement-preserved : goal.Block::copy-loop-statement-preserved
Block::copy-loop-statement-preserved t c =
    let items = c.deref-statement-items.result.now in
    let index = c.loop-statement.statement-index in
    let statement = c.statement-item.result in
    let done = c.loop-statement.statements.items in
    let copy = c.in_ok-copy.field-0 in
    let inside : index < length items = omega arith in
    let more : take (index + 1) items ≡ take index items ++ statement ∷ [] =
    take_more items index statement inside ∙ ap (λ last. take index items ++ last ∷ []) (sym c.statement-item.is) in
    let pushed : c.push.new.self.items ≡ done ++ copy ∷ [] = c.in_ok-push.ensures.items in
    let next : body_of (done ++ copy ∷ []) ≡ body_of (take index items ++ statement ∷ []) =
    next_statement done (take index items) copy statement c.loop-statement.invariant c.in_ok-copy.ensures.copy in
    (λ i. body_of (pushed i)) ∙ next ∙ sym (λ i. body_of (more i))
