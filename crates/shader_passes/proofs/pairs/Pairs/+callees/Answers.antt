use Rattle.std.proofs.Common.{◌≡◌, ◌∷◌, ◌++◌, ◌∙◌, ◌+◌, ap, drop}
use Rattle.shader_ir.specs.BodyOf.{body_of, cases_of, step_of}
use Rattle.shader_ir.specs.Occurs.{case_statements, statements, statements_within}
use Rattle.shader_passes.specs.RecordedPairs.{callee_pairs, pairs_of}
use Rattle.shader_passes.specs.MissingResource.{call_missed}
use Rattle.shader_analysis_spec.proofs.ListLemmas.{drop_item}
use Rattle.shader_passes.proofs.PairLemmas.{fold_left, lent_on, pairs_left}
use Rattle.shader_passes.proofs.pairs.Pairs.+callees.Goals as goal

pub add_block-loop-statement-preserved : goal.add_block-loop-statement-preserved
add_block-loop-statement-preserved t c =
    let infos = c.args.infos.now in
    let f = c.args.function.now in
    let items = c.deref-statement-items.result.now in
    let i = c.loop-statement.statement-index in
    let step = step_of c.statement-item.result in
    let all = statements (body_of (drop i items)) in
    let first = step ∷ statements_within step in
    let rest = statements (body_of (drop (i + 1) items)) in
    let split : all ≡ first ++ rest = ap (λ d. statements (body_of d))
    (drop_item items i c.statement-item.result c.loop-statement-test.true c.statement-item.is) in
    let added = c.in_ok-add_statement.ensures in
    record {
      members = pairs_left all first rest split (callee_pairs infos f) (pairs_of c.loop-statement.self) (pairs_of c.add_statement.new.self)
          _ added.members c.loop-statement.invariant.members;
      missing_resource = fold_left all first rest split (call_missed infos f) c.loop-statement.self.missing_resource
          c.add_statement.new.self.missing_resource added.missing_resource ∙ c.loop-statement.invariant.missing_resource;
      with_arguments = λ before. added.with_arguments (c.loop-statement.invariant.with_arguments before);
      lent = lent_on c.args.self.now c.loop-statement.self c.add_statement.new.self c.loop-statement.invariant.lent added.lent;
    }

pub add_statement-loop-case-preserved : goal.add_statement-loop-case-preserved
add_statement-loop-case-preserved t c =
    let infos = c.args.infos.now in
    let f = c.args.function.now in
    let items = c.deref-case-items.result.now in
    let i = c.loop-case.case-index in
    let all = case_statements (cases_of (drop i items)) in
    let first = statements c.case-item.result.body in
    let rest = case_statements (cases_of (drop (i + 1) items)) in
    let split : all ≡ first ++ rest = ap (λ d. case_statements (cases_of d))
    (drop_item items i c.case-item.result c.loop-case-test.true c.case-item.is) in
    let added = c.in_ok-add_block-in-Switch.ensures in
    record {
      members = pairs_left all first rest split (callee_pairs infos f) (pairs_of c.loop-case.self)
          (pairs_of c.add_block-in-loop-case.new.self) _ added.members c.loop-case.invariant.members;
      missing_resource = fold_left all first rest split (call_missed infos f) c.loop-case.self.missing_resource
          c.add_block-in-loop-case.new.self.missing_resource added.missing_resource ∙ c.loop-case.invariant.missing_resource;
      with_arguments = λ before. added.with_arguments (c.loop-case.invariant.with_arguments before);
      lent = lent_on c.args.self.now c.loop-case.self c.add_block-in-loop-case.new.self c.loop-case.invariant.lent added.lent;
    }
