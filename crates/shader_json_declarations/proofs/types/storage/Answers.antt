use Rattle.std.proofs.Common.{Some, subst}
use Rattle.json.specs.Value.{value_view}
use Rattle.shader_json_reader.proofs.AnswerLemmas.{passed_on}
use Rattle.shader_json_declarations.proofs.PayloadLemmas.{of_storage_space}
use Rattle.shader_json_declarations.specs.Types.{IsSpaceOf}
use Rattle.shader_json_declarations.proofs.types.storage.Goals as goal

pub returns-in_err-field-in-Storage-clause-accepts : goal.returns-in_err-field-in-Storage-clause-accepts
returns-in_err-field-in-Storage-clause-accepts c = λ x u.
    let k = value_view c.args.payload.value.now in
    passed_on _ _ c.from_residual.ensures.1 (of_storage_space k x c.in_err-field-in-Storage.ensures.accepts
    (subst (λ name. IsSpaceOf name (Some k) x) c.in-Storage.is u))
