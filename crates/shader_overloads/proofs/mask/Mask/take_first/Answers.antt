use Rattle.std.proofs.Common.{arith}
use Rattle.shader_overloads.proofs.PositionLemmas.{taken_low, taken_middle, taken_high}
use Rattle.shader_overloads.proofs.mask.Mask.take_first.Goals as goal

pub returns-then-self-ne0-clause-first : goal.returns-then-self-ne0-clause-first
returns-then-self-ne0-clause-first c = taken_low c.args.self.now (omega arith) (omega arith)

pub returns-then-self-ne0-2-clause-first : goal.returns-then-self-ne0-2-clause-first
returns-then-self-ne0-2-clause-first c = taken_middle c.args.self.now (omega arith) (omega arith) (omega arith)

pub returns-then-self-ne0-3-clause-first : goal.returns-then-self-ne0-3-clause-first
returns-then-self-ne0-3-clause-first c = taken_high c.args.self.now (omega arith) (omega arith) (omega arith) (omega arith)
