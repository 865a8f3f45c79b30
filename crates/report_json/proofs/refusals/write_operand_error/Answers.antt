use Rattle.report_json.proofs.FormLemmas.{of_form}
use Rattle.report_json.specs.Refusals.{operand_error_tokens}
use Rattle.report_json.proofs.refusals.write_operand_error.Goals as goal

pub returns-in-InvalidScalar : goal.returns-in-InvalidScalar
unfolding operand_error_tokens
returns-in-InvalidScalar c = of_form _ _ _ operand_error_tokens c.args.error.now _ c.in-InvalidScalar.is c.write_variant.ensures

pub returns-in-InvalidVector : goal.returns-in-InvalidVector
unfolding operand_error_tokens
returns-in-InvalidVector c = of_form _ _ _ operand_error_tokens c.args.error.now _ c.in-InvalidVector.is c.write_variant-in-InvalidVector.ensures

pub returns-in-InvalidPointer : goal.returns-in-InvalidPointer
unfolding operand_error_tokens
returns-in-InvalidPointer c = of_form _ _ _ operand_error_tokens c.args.error.now _ c.in-InvalidPointer.is c.write_variant-in-InvalidPointer.ensures
