use Rattle.std.proofs.Common.{rules, refl}
use Rattle.shader_ir.proofs.PowerLemmas.{power_test, test_alignment, test_power}
use Rattle.shader_ir.proofs.proc.alignment.Alignment.new.Goals as goal

pub invariant_of-result : goal.invariant_of-result
invariant_of-result c = test_alignment c.args.n (search rules) (search rules)

pub returns-then-is_power_of_two-clause-power : goal.returns-then-is_power_of_two-clause-power
returns-then-is_power_of_two-clause-power c = (λ _. power_test c.args.n (search rules), λ _. refl)

pub returns-else-is_power_of_two-clause-power : goal.returns-else-is_power_of_two-clause-power
returns-else-is_power_of_two-clause-power c =
    (λ e. absurd (cc), λ power. let test = test_power c.args.n power in search rules)
