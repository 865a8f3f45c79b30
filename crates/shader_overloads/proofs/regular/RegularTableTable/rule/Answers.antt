use Rattle.std.proofs.Common.{◌≡◌, ◌∙◌, ◌<◌, ap, arith, Some}
use Rattle.shader_overloads.specs.Rules.{rule_for}
use Rattle.shader_overloads.proofs.RegularLemmas.{length-all_rules, ok_is, number_components}
use Rattle.shader_overloads.proofs.regular.RegularTableTable.rule.Goals as goal

pub size_at-size-requires : goal.size_at-size-requires
size_at-size-requires c = omega (arith, c.requires, length-all_rules c.args.self.now)

pub returns : goal.returns
returns c =
    let within : c.args.number < 156 = omega (arith, c.requires, length-all_rules c.args.self.now) in
    let parts = number_components c.args.self.now c.args.number within in
    let size : parts.size.element ≡ c.size_at-size.result = cc (parts.size.is, c.size_at-size.ensures) in
    let scalar : parts.scalar.element ≡ c.scalar_at-scalar.result = cc (parts.scalar.is, c.scalar_at-scalar.ensures) in
    ok_is c.build_rule.result _ _
    (parts.is ∙ ap (λ s. Some (rule_for c.args.self.now.arity c.args.self.now.conclude s parts.scalar.element)) size
    ∙ ap (λ v. Some (rule_for c.args.self.now.arity c.args.self.now.conclude c.size_at-size.result v)) scalar)
    c.build_rule.ensures
