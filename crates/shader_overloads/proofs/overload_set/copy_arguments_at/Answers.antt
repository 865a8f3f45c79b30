use Rattle.std.proofs.Common.{◌∙◌, ◌++◌, ap, sym, slice_get}
use Rattle.std.specs.Option.{option_to_list}
use Rattle.shader_overloads.proofs.ArgumentLemmas.{filter_map_more}
use Rattle.shader_overloads.proofs.overload_set.copy_arguments_at.Goals as goal

pub loop-rule-preserved : goal.loop-rule-preserved
loop-rule-preserved c =
    c.in_ok-push_argument.ensures
    ∙ ap (λ items. items ++ option_to_list (slice_get c.rule-item.result.arguments c.args.i)) c.loop-rule.invariant
    ∙ sym (filter_map_more (λ rule. slice_get rule.arguments c.args.i) c.args.rules.now c.loop-rule.rule-index c.rule-item.result
    c.loop-rule-test.true c.rule-item.is)
