use Rattle.shader_overloads.specs.Masks.{has_position}
use Rattle.shader_overloads.proofs.ListCountLemmas.{AtMost, best_first, least_done, least_next}
use Rattle.shader_overloads.proofs.TableLemmas.{inside_itself, still_inside, taken_within}
use Rattle.shader_overloads.proofs.list.least_count.Goals as goal

pub loop-number-init : goal.loop-number-init
loop-number-init c = record {
  best = best_first AtMost (has_position c.args.mask) c.args.rules.now c.first_member.result.now c.len-least.result c.first_member.ensures
      c.len-least.ensures;
  inside = inside_itself c.args.mask;
}

pub rule_at-requires : goal.rule_at-requires
rule_at-requires c = taken_within c.args.mask c.loop-number.left c.take_first.new.self c.in-Some.number _ c.requires.within
    c.loop-number.invariant.inside c.in-Some.ensures.first

pub loop-number-preserved : goal.loop-number-preserved
loop-number-preserved c = record {
  best = rw (c.min-least.ensures, c.len.ensures)
      (least_next (has_position c.args.mask) (has_position c.loop-number.left) (has_position c.take_first.new.self) c.args.rules.now
      c.in-Some.number
      c.loop-number.least c.rule_at.result.now c.rule_at.ensures
      (c.loop-number.invariant.inside c.in-Some.number c.in-Some.ensures.first.first.here) c.in-Some.ensures.first.others
      c.loop-number.invariant.best);
  inside = still_inside c.args.mask c.loop-number.left c.take_first.new.self c.in-Some.number c.loop-number.invariant.inside
      c.in-Some.ensures.first;
}

pub returns : goal.returns
returns c = least_done (has_position c.args.mask) (has_position c.loop-number.left) c.args.rules.now c.loop-number.least
    c.in_default.ensures.none
    c.loop-number.invariant.best
