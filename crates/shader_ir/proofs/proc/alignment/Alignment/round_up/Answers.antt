use Rattle.shader_ir.proofs.PowerLemmas.{next_multiple}
use Rattle.shader_ir.proofs.proc.alignment.Alignment.round_up.Goals as goal

pub returns-in_default-clause-multiple : goal.returns-in_default-clause-multiple
returns-in_default-clause-multiple c =
    let multiple = next_multiple c.args.n c.self.inside.bytes (c.self.invariant.0) in let view = c.self.view_is in cc
