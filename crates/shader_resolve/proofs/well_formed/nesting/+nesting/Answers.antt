use Rattle.std.proofs.Common.{arith}
use Rattle.std.proofs.lemmas.Bool.Decides.{nat_tests}
use Rattle.shader_resolve.proofs.NestingLemmas.{depth_positive}
use Rattle.shader_resolve.proofs.well_formed.nesting.+nesting.Goals as goal

pub block_nests_within-returns-in_default : goal.block_nests_within-returns-in_default
block_nests_within-returns-in_default t c =
    let positive = depth_positive c.args.block.now in
    grind (arith, nat_tests, positive, c.checked_sub.ensures, c.in_default.is, c.in_default.not-Some)
