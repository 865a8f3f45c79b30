use Rattle.std.proofs.Common.{codes, refl}
use Rattle.shader_ir.specs.Body as s
use Rattle.shader_json_reader.proofs.AnswerLemmas.{of_members, passed_on}
use Rattle.shader_json_reader.proofs.ShapeLemmas.{apart}
use Rattle.shader_json_functions.proofs.DeterminedSimple.{label_simple}
use Rattle.shader_json_functions.proofs.statements.call.Goals as goal

pub returns-in_err-function-clause-accepts : goal.returns-in_err-function-clause-accepts
returns-in_err-function-clause-accepts c (s.Call function arguments result) u =
    let f = of_members _ _ _ c.in_ok-fields.ensures.reads u.1 in
    passed_on _ _ c.from_residual-in_err-function.ensures.1 (c.in_err-function.ensures.accepts (function, arguments) (f.0, f.1))
returns-in_err-function-clause-accepts c x u = apart (codes "Call") (label_simple x) refl u.0

pub returns-in_err-optional-clause-accepts : goal.returns-in_err-optional-clause-accepts
returns-in_err-optional-clause-accepts c (s.Call function arguments result) u =
    let f = of_members _ _ _ c.in_ok-fields.ensures.reads u.1 in
    passed_on _ _ c.from_residual-in_err-optional.ensures.1 (c.in_err-optional.ensures.accepts result f.2)
returns-in_err-optional-clause-accepts c x u = apart (codes "Call") (label_simple x) refl u.0
