use Rattle.shader_json_reader.proofs.AnswerLemmas.{of_members, passed_on}
use Rattle.shader_json_declarations.proofs.globals.ConstantRead.read.Goals as goal

pub returns-in_err-name-clause-accepts : goal.returns-in_err-name-clause-accepts
returns-in_err-name-clause-accepts c = λ x h.
    let f = of_members _ _ _ c.in_ok-fields.ensures.reads h in
    passed_on _ _ c.from_residual-in_err-name.ensures.1 (c.in_err-name.ensures.accepts x.name f.0)

pub returns-in_err-ty-clause-accepts : goal.returns-in_err-ty-clause-accepts
returns-in_err-ty-clause-accepts c = λ x h.
    let f = of_members _ _ _ c.in_ok-fields.ensures.reads h in
    passed_on _ _ c.from_residual-in_err-ty.ensures.1 (c.in_err-ty.ensures.accepts (x.ty, x.init) (f.1, f.2))
