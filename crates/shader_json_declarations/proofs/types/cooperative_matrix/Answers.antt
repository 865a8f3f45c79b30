use Rattle.shader_json_reader.proofs.AnswerLemmas.{of_members, passed_on}
use Rattle.shader_json_declarations.proofs.InnerLemmas.{of_cooperative_matrix}
use Rattle.shader_json_declarations.proofs.types.cooperative_matrix.Goals as goal

pub returns-in_err-columns-clause-accepts : goal.returns-in_err-columns-clause-accepts
returns-in_err-columns-clause-accepts c = λ x u.
    passed_on _ _ c.from_residual-in_err-columns.ensures.1 (of_cooperative_matrix _ x (λ p h.
    let f = of_members _ _ _ c.in_ok-fields.ensures.reads h in
    c.in_err-columns.ensures.accepts (p.0, p.1, p.2) (f.0, f.1, f.2)) u)

pub returns-in_err-needed-clause-accepts : goal.returns-in_err-needed-clause-accepts
returns-in_err-needed-clause-accepts c = λ x u.
    passed_on _ _ c.from_residual-in_err-needed.ensures.1 (of_cooperative_matrix _ x (λ p h.
    let f = of_members _ _ _ c.in_ok-fields.ensures.reads h in
    c.in_err-needed.ensures.accepts p.3 f.3) u)
