use Rattle.std.proofs.Common.{◌≡◌, ◌*◌, ◌<◌, ◌^◌, subst}
use Rattle.shader_ir.proofs.PowerLemmas.{product_alignment}
use Rattle.shader_ir.proofs.proc.alignment.AlignmentMul.mul.Goals as goal

pub invariant_of-result : goal.invariant_of-result
invariant_of-result c =
    let left = c.self.view_is in
    let right = c.rhs.view_is in
    let same : c.args.self * c.args.rhs ≡ c.self.inside.bytes * c.rhs.inside.bytes = cc in
    product_alignment c.self.inside.bytes c.rhs.inside.bytes (subst (λ n. n < 2 ^ 32) same c.requires) c.self.invariant c.rhs.invariant
