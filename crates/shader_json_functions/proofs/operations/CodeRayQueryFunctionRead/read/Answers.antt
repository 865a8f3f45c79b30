use Rattle.std.proofs.Common.{codes, rules}
use Rattle.json.specs.Value.{value_view}
use Rattle.shader_json_reader.proofs.AnswerLemmas.{in_arm, passed_on}
use Rattle.shader_json_functions.specs.Operations.{IsQueryFunctionOf}
use Rattle.shader_json_functions.proofs.OperationLemmas.{of_generate, of_initialize, of_proceed}
use Rattle.shader_json_functions.proofs.operations.CodeRayQueryFunctionRead.read.Goals as goal

pub returns-in_err-acceleration_structure-in-Initialize-Some-clause-accepts : goal.returns-in_err-acceleration_structure-in-Initialize-Some-clause-accepts
returns-in_err-acceleration_structure-in-Initialize-Some-clause-accepts c = λ x h.
    let found = in_arm (λ name payload. IsQueryFunctionOf name payload x.0) (value_view c.args.value.now) c.in_ok-name.field-0.name.now (codes "Initialize") (λ d. value_view d.value.now) c.in_ok-name.field-0.payload c.in-Initialize-Some.payload c.in_ok-name.ensures.reads
    (search rules) (search rules) h in
    of_initialize _ (λ p u. passed_on _ _ c.from_residual-in_err-acceleration_structure-in-Initialize-Some.ensures.1
    (c.in_err-acceleration_structure-in-Initialize-Some.ensures.accepts p u)) x.0 found

pub returns-in_err-field-in-Proceed-Some-clause-accepts : goal.returns-in_err-field-in-Proceed-Some-clause-accepts
returns-in_err-field-in-Proceed-Some-clause-accepts c = λ x h.
    let found = in_arm (λ name payload. IsQueryFunctionOf name payload x.0) (value_view c.args.value.now) c.in_ok-name.field-0.name.now (codes "Proceed") (λ d. value_view d.value.now) c.in_ok-name.field-0.payload c.in-Proceed-Some.payload c.in_ok-name.ensures.reads
    (search rules) (search rules) h in
    of_proceed _ (λ result u. passed_on _ _ c.from_residual-in_err-field-in-Proceed-Some.ensures.1
    (c.in_err-field-in-Proceed-Some.ensures.accepts result u)) x.0 found

pub returns-in_err-field-in-GenerateIntersection-Some-clause-accepts : goal.returns-in_err-field-in-GenerateIntersection-Some-clause-accepts
returns-in_err-field-in-GenerateIntersection-Some-clause-accepts c = λ x h.
    let found = in_arm (λ name payload. IsQueryFunctionOf name payload x.0) (value_view c.args.value.now) c.in_ok-name.field-0.name.now (codes "GenerateIntersection") (λ d. value_view d.value.now) c.in_ok-name.field-0.payload c.in-GenerateIntersection-Some.payload c.in_ok-name.ensures.reads
    (search rules) (search rules) h in
    of_generate _ (λ hit_t u. passed_on _ _ c.from_residual-in_err-field-in-GenerateIntersection-Some.ensures.1
    (c.in_err-field-in-GenerateIntersection-Some.ensures.accepts hit_t u)) x.0 found
