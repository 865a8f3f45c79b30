use Rattle.std.proofs.Common.{◌≡◌, ◌||◌, drop, fold, length}
use Rattle.std.specs.List.{list_any}
use Rattle.std.specs.Option.{option_or}
use Rattle.shader_ir.specs.BodyOf.{body_of, cases_of}
use Rattle.shader_ir.specs.Occurs.{case_statements, statements}
use Rattle.shader_passes.specs.Calling.{is_call}
use Rattle.shader_passes.specs.CalleeUses.{result_origin_after, with_needs_of}
use Rattle.shader_passes.specs.Counting.{state_of, with_state}
use Rattle.shader_passes.specs.Ends.{either, is_killing, block_ends, cases_end, block_fault, cases_fault}
use Rattle.shader_passes.specs.Facts.{origin_at}
use Rattle.shader_passes.specs.Walking.{facts_by, step_state}
use Rattle.shader_passes.proofs.walk.statements.Walk.+walk.Given as goal

abbrev pub invariant-walk_block-loop-statement : goal.invariant-walk_block-loop-statement
invariant-walk_block-loop-statement l =
    let facts = facts_by l.fn.counting in
    let roots = l.fn.counting.roots in
    let left = body_of (drop l.statement-index l.statement-items) in
    record {
      ends : either l.exits (block_ends (origin_at facts) (is_killing l.infos) l.flow left)
          ≡ block_ends (origin_at facts) (is_killing l.infos) l.disruptor l.block;
      first : option_or l.self.first (block_fault (origin_at facts) (is_killing l.infos) facts l.flow left)
          ≡ option_or l.fn.self.first (block_fault (origin_at facts) (is_killing l.infos) facts l.disruptor l.block);
      origin : fold (result_origin_after l.infos facts) l.self.origin (statements left)
          ≡ fold (result_origin_after l.infos facts) l.fn.self.origin (statements l.block);
      needs : fold (with_needs_of l.infos facts) l.self.requirements.0 (statements left)
          ≡ fold (with_needs_of l.infos facts) l.fn.self.requirements.0 (statements l.block);
      calls : (l.self.calls || list_any is_call (statements left)) ≡ (l.fn.self.calls || list_any is_call (statements l.block));
      counted : with_state l.counting (fold (step_state l.infos roots.now) (state_of l.counting) (statements left))
          ≡ with_state l.fn.counting (fold (step_state l.infos roots.now) (state_of l.fn.counting) (statements l.block));
      facts' : facts_by l.counting ≡ facts;
      long : length l.counting.records.now ≡ length l.counting.roots.now;
      roots' : l.counting.roots ≡ roots;
    }

abbrev pub invariant-walk_cases-loop-case : goal.invariant-walk_cases-loop-case
invariant-walk_cases-loop-case l =
    let facts = facts_by l.fn.counting in
    let roots = l.fn.counting.roots in
    let left = cases_of (drop l.case-index l.cases) in
    record {
      ends : either l.exits (cases_end (origin_at facts) (is_killing l.infos) l.branch l.entered left)
          ≡ cases_end (origin_at facts) (is_killing l.infos) l.branch l.branch (cases_of l.cases);
      first : option_or l.self.first (cases_fault (origin_at facts) (is_killing l.infos) facts l.branch l.entered left)
          ≡ option_or l.fn.self.first (cases_fault (origin_at facts) (is_killing l.infos) facts l.branch l.branch (cases_of l.cases));
      origin : fold (result_origin_after l.infos facts) l.self.origin (case_statements left)
          ≡ fold (result_origin_after l.infos facts) l.fn.self.origin (case_statements (cases_of l.cases));
      needs : fold (with_needs_of l.infos facts) l.self.requirements.0 (case_statements left)
          ≡ fold (with_needs_of l.infos facts) l.fn.self.requirements.0 (case_statements (cases_of l.cases));
      calls : (l.self.calls || list_any is_call (case_statements left))
          ≡ (l.fn.self.calls || list_any is_call (case_statements (cases_of l.cases)));
      counted : with_state l.counting (fold (step_state l.infos roots.now) (state_of l.counting) (case_statements left))
          ≡ with_state l.fn.counting (fold (step_state l.infos roots.now) (state_of l.fn.counting)
          (case_statements (cases_of l.cases)));
      facts' : facts_by l.counting ≡ facts;
      long : length l.counting.records.now ≡ length l.counting.roots.now;
      roots' : l.counting.roots ≡ roots;
    }
