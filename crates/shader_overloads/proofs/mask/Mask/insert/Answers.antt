use Rattle.shader_overloads.proofs.PositionLemmas.{insert_low, insert_middle, insert_high}
use Rattle.shader_overloads.proofs.mask.Mask.insert.Goals as goal

pub returns-then-position-lt64 : goal.returns-then-position-lt64
returns-then-position-lt64 c k = insert_low c.args.self.now c.args.position k c.if-position-lt64.true

pub returns-then-position-lt128 : goal.returns-then-position-lt128
returns-then-position-lt128 c k = insert_middle c.args.self.now c.args.position k c.if-position-lt64.false c.if-position-lt128.true

pub returns-else-position-lt128 : goal.returns-else-position-lt128
returns-else-position-lt128 c k = insert_high c.args.self.now c.args.position k c.if-position-lt128.false c.requires
