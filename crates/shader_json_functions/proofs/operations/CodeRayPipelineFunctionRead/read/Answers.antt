use Rattle.std.proofs.Common.{codes, rules}
use Rattle.json.specs.Value.{value_view}
use Rattle.shader_json_reader.proofs.AnswerLemmas.{in_arm, passed_on}
use Rattle.shader_json_functions.specs.Operations.{IsPipelineFunctionOf}
use Rattle.shader_json_functions.proofs.OperationLemmas.{of_trace}
use Rattle.shader_json_functions.proofs.operations.CodeRayPipelineFunctionRead.read.Goals as goal

pub returns-in_err-acceleration_structure-in-TraceRay-Some-clause-accepts : goal.returns-in_err-acceleration_structure-in-TraceRay-Some-clause-accepts
returns-in_err-acceleration_structure-in-TraceRay-Some-clause-accepts c = λ x h.
    let found = in_arm (λ name payload. IsPipelineFunctionOf name payload x.0) (value_view c.args.value.now) c.in_ok-name.field-0.name.now (codes "TraceRay") (λ d. value_view d.value.now) c.in_ok-name.field-0.payload c.in-TraceRay-Some.payload c.in_ok-name.ensures.reads
    (search rules) (search rules) h in
    of_trace _ (λ p u. passed_on _ _ c.from_residual-in_err-acceleration_structure-in-TraceRay-Some.ensures.1
    (c.in_err-acceleration_structure-in-TraceRay-Some.ensures.accepts p u)) x.0 found
