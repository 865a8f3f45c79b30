use Rattle.std.proofs.Common.{arith}
use Rattle.shader_overloads.proofs.GroupLemmas.{across_low, across_middle, in_high, in_low, in_middle}
use Rattle.shader_overloads.proofs.mask.Mask.group.Goals as goal

pub returns-then-group-lt5 : goal.returns-then-group-lt5
returns-then-group-lt5 c k h = in_low c.args.members k c.args.group c.if-group-lt5.true

pub returns-then-group-eq5 : goal.returns-then-group-eq5
returns-then-group-eq5 c k h = rw c.if-group-eq5.true (across_low c.args.members k)

pub returns-then-group-lt10 : goal.returns-then-group-lt10
returns-then-group-lt10 c k h = in_middle c.args.members k c.args.group (omega (arith, c.if-group-lt5.false, c.if-group-eq5.false))
    c.if-group-lt10.true

pub returns-then-group-eq10 : goal.returns-then-group-eq10
returns-then-group-eq10 c k h = rw c.if-group-eq10.true (across_middle c.args.members k)

pub returns-else-group-eq10 : goal.returns-else-group-eq10
returns-else-group-eq10 c k h = in_high c.args.members k c.args.group
    (omega (arith, c.if-group-lt10.false, c.if-group-eq10.false)) c.requires
