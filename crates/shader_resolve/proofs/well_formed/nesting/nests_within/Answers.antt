use Rattle.std.proofs.Common.{rules}
use Rattle.shader_resolve.proofs.NestingLemmas.{nesting-decides}
use Rattle.shader_resolve.proofs.well_formed.nesting.nests_within.Goals as goal

pub returns-then-functions_nest_within : goal.returns-then-functions_nest_within
returns-then-functions_nest_within c = nesting-decides c.args.levels c.args.«module».now c.entry_points_nest_within.result (search rules)

pub returns-else-functions_nest_within : goal.returns-else-functions_nest_within
returns-else-functions_nest_within c = nesting-decides c.args.levels c.args.«module».now c.functions_nest_within.result (search rules)
