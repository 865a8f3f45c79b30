use Rattle.std.proofs.Common.{◌≡◌, ◌++◌, drop}
use Rattle.shader_ir.specs.BodyOf.{body_of, cases_of}
use Rattle.report_places.specs.Outlines.{ways_in_block, ways_in_cases, ways_of}
use Rattle.report_places.proofs.outline.+outlining.Given as goal

abbrev pub invariant-add_block-loop-index : goal.invariant-add_block-loop-index
invariant-add_block-loop-index l =
    ways_of l.rows.items ++ ways_in_block l.above l.index (body_of (drop l.index l.statement-items))
    ≡ ways_of l.fn.rows.items ++ ways_in_block l.above 0 l.block

abbrev pub invariant-add_within-loop-number : goal.invariant-add_within-loop-number
invariant-add_within-loop-number l =
    ways_of l.rows.items ++ ways_in_cases l.way l.number (cases_of (drop l.number l.case-items))
    ≡ ways_of l.initial.rows.items ++ ways_in_cases l.way 0 (cases_of l.case-items)
