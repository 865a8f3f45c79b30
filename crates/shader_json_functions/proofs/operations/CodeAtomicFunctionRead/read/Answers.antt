use Rattle.std.proofs.Common.{codes, rules}
use Rattle.json.specs.Value.{value_view}
use Rattle.shader_json_reader.proofs.AnswerLemmas.{in_arm, of_members, passed_on}
use Rattle.shader_json_functions.specs.Operations.{IsAtomicOf}
use Rattle.shader_json_functions.proofs.OperationLemmas.{of_exchange}
use Rattle.shader_json_functions.proofs.operations.CodeAtomicFunctionRead.read.Goals as goal

pub returns-in_err-optional-in-Exchange-Some-clause-accepts : goal.returns-in_err-optional-in-Exchange-Some-clause-accepts
returns-in_err-optional-in-Exchange-Some-clause-accepts c = λ x h.
    let found = in_arm (λ name payload. IsAtomicOf name payload x.0) (value_view c.args.value.now) c.in_ok-name.field-0.name.now (codes "Exchange") (λ d. value_view d.value.now) c.in_ok-name.field-0.payload c.in-Exchange-Some.payload c.in_ok-name.ensures.reads
    (search rules) (search rules) h in
    of_exchange _ (λ compare u. passed_on _ _ c.from_residual-in_err-optional-in-Exchange-Some.ensures.1
    (c.in_err-optional-in-Exchange-Some.ensures.accepts compare
    (of_members _ _ _ c.in_ok-fields-in-Exchange-Some.ensures.reads u))) x.0 found
