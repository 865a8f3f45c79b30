use Rattle.std.proofs.Common.{◌∙◌, ap, length, sym}
use Rattle.std.proofs.lemmas.Option.{same_Some}
use Rattle.shader_overloads.specs.Remaining.{list_accepts}
use Rattle.shader_overloads.proofs.TableLemmas.{decided_all, decided_in, decided_none, decided_out, inside_itself}
use Rattle.shader_overloads.proofs.TableLemmas.{put_within, still_inside, taken_fits, taken_within}
use Rattle.shader_overloads.proofs.list.accepted_of.Goals as goal

pub loop-number-init : goal.loop-number-init
loop-number-init c = record {
  decided = decided_none (list_accepts c.args.types.now c.args.i c.args.ty.now) c.args.mask
      c.args.rules.now c.empty-retained.result c.empty-retained.ensures;
  inside = inside_itself c.args.mask;
  within = λ k past. c.empty-retained.ensures k;
}

pub rule_at-requires : goal.rule_at-requires
rule_at-requires c = taken_within c.args.mask c.loop-number.left c.take_first.new.self c.in-Some.number
    (length c.args.rules.now) c.requires.within c.loop-number.invariant.inside c.in-Some.ensures.first

pub accepts_argument-requires-clause-fits : goal.accepts_argument-requires-clause-fits
accepts_argument-requires-clause-fits c = taken_fits c.args.types.now c.args.mask c.loop-number.left c.take_first.new.self
    c.args.rules.now c.in-Some.number c.requires.fits c.loop-number.invariant.inside
    c.in-Some.ensures.first c.rule_at.result.now c.rule_at.ensures

pub loop-number-preserved-then-accepts_argument : goal.loop-number-preserved-then-accepts_argument
loop-number-preserved-then-accepts_argument c = record {
  decided = decided_in (list_accepts c.args.types.now c.args.i c.args.ty.now) c.args.mask
      c.args.rules.now c.loop-number.left c.take_first.new.self c.loop-number.retained c.insert.new.self
      c.in-Some.number
      (λ rule at. sym (c.accepts_argument.ensures ∙ ap (list_accepts c.args.types.now c.args.i c.args.ty.now) (same_Some _ _ (sym c.rule_at.ensures ∙ at)))
      ∙ c.if-accepts_argument.true) c.loop-number.invariant.inside c.in-Some.ensures.first c.insert.ensures
      c.loop-number.invariant.decided;
  inside = still_inside c.args.mask c.loop-number.left c.take_first.new.self c.in-Some.number c.loop-number.invariant.inside
      c.in-Some.ensures.first;
  within = put_within c.loop-number.retained c.insert.new.self c.in-Some.number (length c.args.rules.now)
      (taken_within c.args.mask c.loop-number.left c.take_first.new.self c.in-Some.number
      (length c.args.rules.now)
      c.requires.within c.loop-number.invariant.inside c.in-Some.ensures.first) c.insert.ensures c.loop-number.invariant.within;
}

pub loop-number-preserved : goal.loop-number-preserved
loop-number-preserved c = record {
  decided = decided_out (list_accepts c.args.types.now c.args.i c.args.ty.now) c.args.mask
      c.args.rules.now c.loop-number.left c.take_first.new.self c.loop-number.retained c.in-Some.number
      (λ rule at. sym (c.accepts_argument.ensures ∙ ap (list_accepts c.args.types.now c.args.i c.args.ty.now) (same_Some _ _ (sym c.rule_at.ensures ∙ at))) ∙ c.if-accepts_argument.false) c.in-Some.ensures.first c.loop-number.invariant.decided;
  inside = still_inside c.args.mask c.loop-number.left c.take_first.new.self c.in-Some.number c.loop-number.invariant.inside
      c.in-Some.ensures.first;
  within = c.loop-number.invariant.within;
}

pub returns-clause-rules : goal.returns-clause-rules
returns-clause-rules c = decided_all (list_accepts c.args.types.now c.args.i c.args.ty.now) c.args.mask
    c.args.rules.now c.loop-number.left c.loop-number.retained c.in_default.ensures.none
    c.loop-number.invariant.decided

pub returns-clause-within : goal.returns-clause-within
returns-clause-within c = c.loop-number.invariant.within
