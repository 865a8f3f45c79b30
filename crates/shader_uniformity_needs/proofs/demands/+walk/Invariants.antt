use Rattle.std.proofs.Common.{◌≡◌, ◌++◌, drop}
use Rattle.shader_ir.specs.BodyOf.{body_of, cases_of}
use Rattle.shader_uniformity.specs.Positions.{block_end, cases_end}
use Rattle.shader_uniformity_needs.specs.Needs.{block_needs, cases_needs}
use Rattle.shader_uniformity_needs.specs.Passes.{block_passes, cases_passes}
use Rattle.shader_uniformity_needs.proofs.demands.+walk.Given as goal

abbrev pub invariant-add_block-loop-statement : goal.invariant-add_block-loop-statement
invariant-add_block-loop-statement l = record {
  needs : l.demands.needs.items ++ block_needs l.scope.expressions.now l.scope.severe l.position
      (body_of (drop l.statement-index l.statement-items))
      ≡ l.fn.demands.needs.items ++ block_needs l.scope.expressions.now l.scope.severe l.start l.block;
  passes : l.demands.passes.items ++ block_passes l.scope.functions.now l.scope.places.now l.position l.around
      (body_of (drop l.statement-index l.statement-items))
      ≡ l.fn.demands.passes.items ++ block_passes l.scope.functions.now l.scope.places.now l.start l.around l.block;
  end : block_end l.position (body_of (drop l.statement-index l.statement-items)) ≡ block_end l.start l.block;
}

abbrev pub invariant-add_cases-loop-case : goal.invariant-add_cases-loop-case
invariant-add_cases-loop-case l = record {
  needs : l.demands.needs.items ++ cases_needs l.scope.expressions.now l.scope.severe l.start (cases_of (drop l.case-index l.cases))
      ≡ l.fn.demands.needs.items ++ cases_needs l.scope.expressions.now l.scope.severe l.first (cases_of l.cases);
  passes : l.demands.passes.items ++ cases_passes l.scope.functions.now l.scope.places.now l.start l.around
      (cases_of (drop l.case-index l.cases))
      ≡ l.fn.demands.passes.items ++ cases_passes l.scope.functions.now l.scope.places.now l.first l.around (cases_of l.cases);
  end : cases_end l.start (cases_of (drop l.case-index l.cases)) ≡ cases_end l.first (cases_of l.cases);
}
