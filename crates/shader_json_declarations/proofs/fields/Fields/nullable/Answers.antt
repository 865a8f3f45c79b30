use Rattle.shader_json_declarations.proofs.FieldLemmas.{with_one}
use Rattle.shader_json_declarations.proofs.fields.Fields.nullable.Goals as goal

pub returns-in-Err-clause-accepts : goal.returns-in-Err-clause-accepts
returns-in-Err-clause-accepts g c = λ x h.
    c.seen-in-Err.ensures.accepts (with_one (λ j. g.T.Read.reads j x) _ c.in-Err.ensures.accepts h)
