use Rattle.shader_json_reader.proofs.AnswerLemmas.{of_members, passed_on}
use Rattle.shader_json_declarations.proofs.special_types.SpecialTypesRead.read.Goals as goal

pub returns-in_err-ray_intersection-clause-accepts : goal.returns-in_err-ray_intersection-clause-accepts
returns-in_err-ray_intersection-clause-accepts c = λ x h.
    let f = of_members _ _ _ c.in_ok-fields.ensures.reads h in
    passed_on _ _ c.from_residual-in_err-ray_intersection.ensures.1 (c.in_err-ray_intersection.ensures.accepts x.ray_intersection f.0)

pub returns-in_err-ray_vertex_return-clause-accepts : goal.returns-in_err-ray_vertex_return-clause-accepts
returns-in_err-ray_vertex_return-clause-accepts c = λ x h.
    let f = of_members _ _ _ c.in_ok-fields.ensures.reads h in
    passed_on _ _ c.from_residual-in_err-ray_vertex_return.ensures.1 (c.in_err-ray_vertex_return.ensures.accepts x.ray_vertex_return f.1)

pub returns-in_err-predeclared_types-clause-accepts : goal.returns-in_err-predeclared_types-clause-accepts
returns-in_err-predeclared_types-clause-accepts c = λ x h.
    let f = of_members _ _ _ c.in_ok-fields.ensures.reads h in
    passed_on _ _ c.from_residual-in_err-predeclared_types.ensures.1
    (c.in_err-predeclared_types.ensures.accepts (record { 0 = x.predeclared_types }) f.2)
