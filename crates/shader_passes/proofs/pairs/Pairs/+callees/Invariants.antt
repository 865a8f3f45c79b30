use Rattle.std.proofs.Common.{◌≡◌, ◌∷◌, ◌++◌, drop, fold}
use Rattle.std.specs.List.{flat_map}
use Rattle.shader_ir.specs.BodyOf.{body_of, cases_of, step_of}
use Rattle.shader_ir.specs.Occurs.{case_statements, statements, statements_within}
use Rattle.shader_passes.specs.RecordedPairs.{AreLent, HaveArguments, SameMembers, pairs_of, callee_pairs}
use Rattle.shader_passes.specs.MissingResource.{call_missed}
use Rattle.shader_passes.proofs.pairs.Pairs.+callees.Given as goal

abbrev pub invariant-add_block-loop-statement : goal.invariant-add_block-loop-statement
invariant-add_block-loop-statement l = record {
  members : SameMembers (flat_map (callee_pairs l.infos l.function) (statements (body_of (drop l.statement-index l.statement-items)))
      ++ pairs_of l.self)
      (flat_map (callee_pairs l.infos l.function) (statements l.block) ++ pairs_of l.fn.self);
  missing_resource : fold (call_missed l.infos l.function) l.self.missing_resource
      (statements (body_of (drop l.statement-index l.statement-items)))
      ≡ fold (call_missed l.infos l.function) l.fn.self.missing_resource (statements l.block);
  with_arguments : HaveArguments l.fn.self.sampling.now.keys → HaveArguments l.self.sampling.now.keys;
  lent : AreLent l.fn.self l.self;
}

abbrev pub invariant-add_statement-loop-case : goal.invariant-add_statement-loop-case
invariant-add_statement-loop-case l = record {
  members : SameMembers (flat_map (callee_pairs l.infos l.function) (case_statements (cases_of (drop l.case-index l.case-items)))
      ++ pairs_of l.self)
      (flat_map (callee_pairs l.infos l.function) (step_of l.fn.statement ∷ statements_within (step_of l.fn.statement))
      ++ pairs_of l.fn.self);
  missing_resource : fold (call_missed l.infos l.function) l.self.missing_resource
      (case_statements (cases_of (drop l.case-index l.case-items)))
      ≡ fold (call_missed l.infos l.function) l.fn.self.missing_resource
      (step_of l.fn.statement ∷ statements_within (step_of l.fn.statement));
  with_arguments : HaveArguments l.fn.self.sampling.now.keys → HaveArguments l.self.sampling.now.keys;
  lent : AreLent l.fn.self l.self;
}
