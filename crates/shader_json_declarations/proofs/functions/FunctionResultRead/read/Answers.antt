use Rattle.shader_json_reader.proofs.AnswerLemmas.{of_members, passed_on}
use Rattle.shader_json_declarations.proofs.functions.FunctionResultRead.read.Goals as goal

pub returns-in_err-needed-clause-accepts : goal.returns-in_err-needed-clause-accepts
returns-in_err-needed-clause-accepts c = λ x h.
    let f = of_members _ _ _ c.in_ok-fields.ensures.reads h in
    passed_on _ _ c.from_residual-in_err-needed.ensures.1 (c.in_err-needed.ensures.accepts x.ty f.0)

pub returns-in_err-optional-clause-accepts : goal.returns-in_err-optional-clause-accepts
returns-in_err-optional-clause-accepts c = λ x h.
    let f = of_members _ _ _ c.in_ok-fields.ensures.reads h in
    passed_on _ _ c.from_residual-in_err-optional.ensures.1 (c.in_err-optional.ensures.accepts x.binding f.1)
