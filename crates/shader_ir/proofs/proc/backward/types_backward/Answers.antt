use Rattle.std.proofs.Common.{◌≡◌, ◌↔◌, sym, subst}
use Rattle.std.specs.List.{enumerate_from}
use Rattle.shader_ir.specs.TypeTree.{IsBackward}
use Rattle.shader_ir.proofs.TypeTreeLemmas.{AreBackward, listed}
use Rattle.shader_ir.proofs.proc.backward.types_backward.Goals as goal

pub loop-handle-init : goal.loop-handle-init
loop-handle-init c =
    let types = c.args.types.now in
    let whole : c.into_iter-handle-iterator.result ≡ enumerate_from 0 types = cc in
    (tt, tt, subst (λ entries. AreBackward entries ↔ IsBackward types) (sym whole) (listed types))
