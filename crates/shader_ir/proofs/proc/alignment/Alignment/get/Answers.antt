use Rattle.std.proofs.Common.{rules}
use Rattle.shader_ir.proofs.PowerLemmas.{alignment_power, alignment_small}
use Rattle.shader_ir.proofs.proc.alignment.Alignment.get.Goals as goal

pub returns-clause-power : goal.returns-clause-power
returns-clause-power c = alignment_power c.self.inside.bytes c.self.invariant

pub returns-clause-small : goal.returns-clause-small
returns-clause-small c = alignment_small c.self.inside.bytes (search rules) c.self.invariant
