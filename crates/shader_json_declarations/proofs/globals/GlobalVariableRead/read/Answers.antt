use Rattle.shader_json_reader.proofs.AnswerLemmas.{of_members, passed_on}
use Rattle.shader_json_declarations.proofs.globals.GlobalVariableRead.read.Goals as goal

pub returns-in_err-name-clause-accepts : goal.returns-in_err-name-clause-accepts
returns-in_err-name-clause-accepts c = λ x h.
    let f = of_members _ _ _ c.in_ok-fields.ensures.reads h in
    passed_on _ _ c.from_residual-in_err-name.ensures.1 (c.in_err-name.ensures.accepts x.name f.0)

pub returns-in_err-space-clause-accepts : goal.returns-in_err-space-clause-accepts
returns-in_err-space-clause-accepts c = λ x h.
    let f = of_members _ _ _ c.in_ok-fields.ensures.reads h in
    passed_on _ _ c.from_residual-in_err-space.ensures.1 (c.in_err-space.ensures.accepts (x.space, x.ty) (f.1, f.2))

pub returns-in_err-check_optional-clause-accepts : goal.returns-in_err-check_optional-clause-accepts
returns-in_err-check_optional-clause-accepts c = λ x h.
    let f = of_members _ _ _ c.in_ok-fields.ensures.reads h in
    passed_on _ _ c.from_residual-in_err-check_optional.ensures.1 (c.in_err-check_optional.ensures.accepts f.4)

pub returns-in_err-optional-clause-accepts : goal.returns-in_err-optional-clause-accepts
returns-in_err-optional-clause-accepts c = λ x h.
    let f = of_members _ _ _ c.in_ok-fields.ensures.reads h in
    passed_on _ _ c.from_residual-in_err-optional.ensures.1 (c.in_err-optional.ensures.accepts x.init f.3)
