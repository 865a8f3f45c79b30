use Rattle.std.proofs.Common.{◌∙◌, sym}
use Rattle.shader_overloads.proofs.ArgumentLemmas.{none_past_greatest, some_below_greatest}
use Rattle.shader_overloads.proofs.overload_set.OverloadSet.allowed_args.Goals as goal

pub returns-then-i-max_arguments-clause-arguments : goal.returns-then-i-max_arguments-clause-arguments
returns-then-i-max_arguments-clause-arguments g c =
    c.new-then-i-max_arguments.ensures.items ∙ sym (none_past_greatest c.args.i c.max_arguments.result _ c.max_arguments.ensures
    c.if-i-max_arguments.true)

pub returns-in_err-rules-clause-none : goal.returns-in_err-rules-clause-none
returns-in_err-rules-clause-none g c none = absurd (some_below_greatest c.args.i c.max_arguments.result _ c.max_arguments.ensures
    c.if-i-max_arguments.false none)

pub returns-clause-none : goal.returns-clause-none
returns-clause-none g c none = absurd (some_below_greatest c.args.i c.max_arguments.result _ c.max_arguments.ensures
    c.if-i-max_arguments.false none)
