use Rattle.std.proofs.Common.{codes, refl}
use Rattle.shader_ir.specs.Body as s
use Rattle.shader_json_reader.proofs.AnswerLemmas.{of_members, passed_on}
use Rattle.shader_json_reader.proofs.ShapeLemmas.{apart}
use Rattle.shader_json_functions.proofs.DeterminedSimple.{label_simple}
use Rattle.shader_json_functions.proofs.statements.leave.Goals as goal

pub returns-in_err-optional-clause-accepts : goal.returns-in_err-optional-clause-accepts
returns-in_err-optional-clause-accepts c (s.Return value) u =
    let f = of_members _ _ _ c.in_ok-fields.ensures.reads u.1 in
    passed_on _ _ c.from_residual-in_err-optional.ensures.1 (c.in_err-optional.ensures.accepts value f)
returns-in_err-optional-clause-accepts c x u = apart (codes "Return") (label_simple x) refl u.0
