use Rattle.std.proofs.Common.{◌≡◌, ◌+◌, ◌++◌, None, drop}
use Rattle.shader_ir.specs.BodyOf.{body_of, cases_of}
use Rattle.shader_uniformity.specs.Apart.{block_rules, cases_rules}
use Rattle.shader_uniformity.specs.Positions.{block_end, cases_end}
use Rattle.shader_uniformity.proofs.walk.+walk.Given as goal

abbrev pub invariant-add_block-loop-statement : goal.invariant-add_block-loop-statement
invariant-add_block-loop-statement l = record {
  rules : l.rules.items ++ block_rules l.scope.expressions.now l.scope.places.now l.scope.callees.now l.scope.severe
      l.start l.position l.around (body_of (drop l.statement-index l.statement-items))
      ≡ l.fn.rules.items ++ block_rules l.scope.expressions.now l.scope.places.now l.scope.callees.now l.scope.severe
      l.start l.start l.around l.block;
  end : block_end l.position (body_of (drop l.statement-index l.statement-items)) ≡ block_end l.start l.block;
}

abbrev pub invariant-add_cases-loop-case : goal.invariant-add_cases-loop-case
invariant-add_cases-loop-case l = record {
  rules : l.rules.items ++ cases_rules l.scope.expressions.now l.scope.places.now l.scope.callees.now l.scope.severe
      l.position l.selector l.fallen l.start l.around (cases_of (drop l.case-index l.cases))
      ≡ l.fn.rules.items ++ cases_rules l.scope.expressions.now l.scope.places.now l.scope.callees.now l.scope.severe
      l.position l.selector None l.first l.around (cases_of l.cases);
  end : cases_end l.start (cases_of (drop l.case-index l.cases)) ≡ cases_end l.first (cases_of l.cases);
  together : l.together ≡ l.position + 1;
}
