use Rattle.std.proofs.Common.{◌≡◌, ◌++◌, drop}
use Rattle.shader_ir.specs.BodyOf.{body_of, cases_of}
use Rattle.shader_uniformity.specs.Positions.{block_end, cases_end}
use Rattle.shader_uniformity_causes.specs.Origins.{block_origins, cases_origins}
use Rattle.shader_uniformity_causes.proofs.origins.+walk.Given as goal

abbrev pub invariant-add_block-loop-statement : goal.invariant-add_block-loop-statement
invariant-add_block-loop-statement l = record {
  origins : l.origins.items ++ block_origins l.scope.places.now l.scope.callees.now l.scope.rule.now l.position l.around
      (body_of (drop l.statement-index l.statement-items))
      ≡ l.fn.origins.items ++ block_origins l.scope.places.now l.scope.callees.now l.scope.rule.now l.start l.around l.block;
  end : block_end l.position (body_of (drop l.statement-index l.statement-items)) ≡ block_end l.start l.block;
}

abbrev pub invariant-add_cases-loop-case : goal.invariant-add_cases-loop-case
invariant-add_cases-loop-case l = record {
  origins : l.origins.items ++ cases_origins l.scope.places.now l.scope.callees.now l.scope.rule.now l.start l.around
      (cases_of (drop l.case-index l.cases))
      ≡ l.fn.origins.items ++ cases_origins l.scope.places.now l.scope.callees.now l.scope.rule.now l.first l.around (cases_of l.cases);
  end : cases_end l.start (cases_of (drop l.case-index l.cases)) ≡ cases_end l.first (cases_of l.cases);
}
