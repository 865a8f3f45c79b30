use Rattle.std.proofs.Common.{◌≡◌, drop}
use Rattle.shader_ir.specs.BodyOf.{body_of, cases_of}
use Rattle.shader_uniformity.specs.Positions.{block_end, cases_end}
use Rattle.report_places.specs.Paths.{way_in_block, way_in_cases}
use Rattle.report_places.proofs.paths.+searching.Given as goal

abbrev pub invariant-in_block-loop-index : goal.invariant-in_block-loop-index
invariant-in_block-loop-index l = record {
  way : way_in_block l.index l.position l.wanted (body_of (drop l.index l.statement-items))
      ≡ way_in_block 0 l.start l.wanted l.block;
  end : block_end l.position (body_of (drop l.index l.statement-items)) ≡ block_end l.start l.block;
}

abbrev pub invariant-in_cases-loop-number : goal.invariant-in_cases-loop-number
invariant-in_cases-loop-number l = record {
  way : way_in_cases l.number l.start l.wanted (cases_of (drop l.number l.cases))
      ≡ way_in_cases 0 l.first l.wanted (cases_of l.cases);
  end : cases_end l.start (cases_of (drop l.number l.cases)) ≡ cases_end l.first (cases_of l.cases);
}
