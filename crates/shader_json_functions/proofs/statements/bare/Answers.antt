use Rattle.shader_ir.specs.Body.{Leaf}
use Rattle.shader_ir.specs.Body as s
use Rattle.shader_json_functions.proofs.statements.bare.Goals as goal

pub returns-in_default-clause-accepts : goal.returns-in_default-clause-accepts
returns-in_default-clause-accepts c (Leaf s.Break) u = absurd (c.in_default.not-Break u.0)
returns-in_default-clause-accepts c (Leaf s.Continue) u = absurd (c.in_default.not-Continue u.0)
returns-in_default-clause-accepts c (Leaf s.Kill) u = absurd (c.in_default.not-Kill u.0)
returns-in_default-clause-accepts c (Leaf x) u = absurd u.1
returns-in_default-clause-accepts c x u = absurd u.1
