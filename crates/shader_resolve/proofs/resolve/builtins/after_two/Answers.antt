use Rattle.std.proofs.Common.{◌∙◌, ap}
use Rattle.std.specs.List.{filter}
use Rattle.shader_overloads.specs.AnySet.{rules_in}
use Rattle.shader_overloads.specs.Builtins.{acceptance_of, rules_of}
use Rattle.shader_resolve.proofs.BuiltinLemmas.{after_two-is}
use Rattle.shader_resolve.proofs.resolve.builtins.after_two.Goals as goal

pub returns : goal.returns
returns c =
    let types = c.args.types.now in
    let second = c.args.second.now in
    let accepting = acceptance_of c.args.fun in
    c.in_ok-left.ensures.rules
    ∙ ap (λ found. filter (found types 1 second) (rules_in c.in_ok-some.some)) c.in_ok-some.ensures.kind
    ∙ ap (λ rules. filter (accepting types 1 second) rules) c.in_ok-some.ensures.rules
    ∙ after_two-is accepting types c.args.first.now (rules_of c.args.fun) second
