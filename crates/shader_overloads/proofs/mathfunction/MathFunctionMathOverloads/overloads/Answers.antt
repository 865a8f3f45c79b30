use Rattle.std.proofs.Common.{◌∙◌, sym, subst}
use Rattle.shader_overloads.specs.Remaining.{RulesFit}
use Rattle.shader_overloads.proofs.BuiltinLemmas.{rules_fit, some_rules}
use Rattle.shader_overloads.proofs.mathfunction.MathFunctionMathOverloads.overloads.Goals as goal

pub returns-in-Some-clause-fits : goal.returns-in-Some-clause-fits
returns-in-Some-clause-fits c types = subst (RulesFit types)
    (sym (some_rules c.args.self _ c.in-Some.set (sym c.in-Some.is ∙ c.regular_set.ensures))) (rules_fit types c.args.self)

pub returns-in_ok-set-in-None-clause-fits : goal.returns-in_ok-set-in-None-clause-fits
returns-in_ok-set-in-None-clause-fits c types = subst (RulesFit types) (sym c.in_ok-set-in-None.ensures) (rules_fit types c.args.self)
