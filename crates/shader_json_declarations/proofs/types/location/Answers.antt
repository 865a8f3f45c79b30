use Rattle.shader_json_reader.proofs.AnswerLemmas.{of_members, passed_on}
use Rattle.shader_json_declarations.proofs.types.location.Goals as goal

pub returns-in_err-location-clause-accepts : goal.returns-in_err-location-clause-accepts
returns-in_err-location-clause-accepts c = λ x h.
    let f = of_members _ _ _ c.in_ok-fields.ensures.reads h in
    passed_on _ _ c.from_residual-in_err-location.ensures.1 (c.in_err-location.ensures.accepts x f.0)

pub returns-in_err-check_optional-clause-accepts : goal.returns-in_err-check_optional-clause-accepts
returns-in_err-check_optional-clause-accepts c = λ x h.
    let f = of_members _ _ _ c.in_ok-fields.ensures.reads h in
    passed_on _ _ c.from_residual-in_err-check_optional.ensures.1 (c.in_err-check_optional.ensures.accepts f.1)

pub returns-in_err-check_optional-2-clause-accepts : goal.returns-in_err-check_optional-2-clause-accepts
returns-in_err-check_optional-2-clause-accepts c = λ x h.
    let f = of_members _ _ _ c.in_ok-fields.ensures.reads h in
    passed_on _ _ c.from_residual-in_err-check_optional-2.ensures.1 (c.in_err-check_optional-2.ensures.accepts f.2)

pub returns-in_err-check_optional-3-clause-accepts : goal.returns-in_err-check_optional-3-clause-accepts
returns-in_err-check_optional-3-clause-accepts c = λ x h.
    let f = of_members _ _ _ c.in_ok-fields.ensures.reads h in
    passed_on _ _ c.from_residual-in_err-check_optional-3.ensures.1 (c.in_err-check_optional-3.ensures.accepts f.3)
