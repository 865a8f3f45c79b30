use Rattle.std.proofs.Common.{codes, refl}
use Rattle.shader_ir.specs.Body as s
use Rattle.shader_json_reader.proofs.AnswerLemmas.{of_members, passed_on}
use Rattle.shader_json_reader.proofs.ShapeLemmas.{apart}
use Rattle.shader_json_functions.proofs.DeterminedSimple.{label_simple}
use Rattle.shader_json_functions.proofs.statements.atomic.Goals as goal

pub returns-in_err-result-clause-accepts : goal.returns-in_err-result-clause-accepts
returns-in_err-result-clause-accepts c (s.Atomic pointer fun value result) u =
    let f = of_members _ _ _ c.in_ok-fields.ensures.reads u.1 in
    passed_on _ _ c.from_residual-in_err-result.ensures.1
    (c.in_err-result.ensures.accepts (record { 0 = result }, record { 0 = fun }) (f.3, f.1))
returns-in_err-result-clause-accepts c x u = apart (codes "Atomic") (label_simple x) refl u.0

pub returns-in_err-pointer-clause-accepts : goal.returns-in_err-pointer-clause-accepts
returns-in_err-pointer-clause-accepts c (s.Atomic pointer fun value result) u =
    let f = of_members _ _ _ c.in_ok-fields.ensures.reads u.1 in
    passed_on _ _ c.from_residual-in_err-pointer.ensures.1 (c.in_err-pointer.ensures.accepts (pointer, value) (f.0, f.2))
returns-in_err-pointer-clause-accepts c x u = apart (codes "Atomic") (label_simple x) refl u.0
