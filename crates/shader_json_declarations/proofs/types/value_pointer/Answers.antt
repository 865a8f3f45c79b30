use Rattle.shader_json_reader.proofs.AnswerLemmas.{of_members, passed_on}
use Rattle.shader_json_declarations.proofs.InnerLemmas.{of_value_pointer}
use Rattle.shader_json_declarations.proofs.types.value_pointer.Goals as goal

pub returns-in_err-size-clause-accepts : goal.returns-in_err-size-clause-accepts
returns-in_err-size-clause-accepts c = λ x u.
    passed_on _ _ c.from_residual-in_err-size.ensures.1 (of_value_pointer _ x (λ p h.
    let f = of_members _ _ _ c.in_ok-fields.ensures.reads h in
    c.in_err-size.ensures.accepts p.0 f.0) u)

pub returns-in_err-scalar-clause-accepts : goal.returns-in_err-scalar-clause-accepts
returns-in_err-scalar-clause-accepts c = λ x u.
    passed_on _ _ c.from_residual-in_err-scalar.ensures.1 (of_value_pointer _ x (λ p h.
    let f = of_members _ _ _ c.in_ok-fields.ensures.reads h in
    c.in_err-scalar.ensures.accepts (p.1, p.2) (f.1, f.2)) u)
