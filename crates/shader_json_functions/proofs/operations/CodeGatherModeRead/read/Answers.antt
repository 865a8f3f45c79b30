use Rattle.std.proofs.Common.{codes, rules}
use Rattle.json.specs.Value.{value_view}
use Rattle.shader_json_reader.proofs.AnswerLemmas.{in_arm, passed_on}
use Rattle.shader_json_functions.specs.Operations.{IsModeOf}
use Rattle.shader_json_functions.proofs.OperationLemmas.{of_swap}
use Rattle.shader_json_functions.proofs.operations.CodeGatherModeRead.read.Goals as goal

pub returns-in_err-read-in-QuadSwap-Some-clause-accepts : goal.returns-in_err-read-in-QuadSwap-Some-clause-accepts
returns-in_err-read-in-QuadSwap-Some-clause-accepts c = λ x h.
    let found = in_arm (λ name payload. IsModeOf name payload x.0) (value_view c.args.value.now) c.in_ok-name.field-0.name.now (codes "QuadSwap") (λ d. value_view d.value.now) c.in_ok-name.field-0.payload c.in-QuadSwap-Some.payload c.in_ok-name.ensures.reads
    (search rules) (search rules) h in
    of_swap _ (λ direction u. passed_on _ _ c.from_residual-in_err-read-in-QuadSwap-Some.ensures.1
    (c.in_err-read-in-QuadSwap-Some.ensures.accepts (record { 0 = direction }) u)) x.0 found
