use Rattle.report_json.specs.Types.{matrix_tokens}
use Rattle.report_json.proofs.FormLemmas.{of_form}
use Rattle.report_json.proofs.types.write_matrix.Goals as goal

pub returns-in-Matrix : goal.returns-in-Matrix
unfolding matrix_tokens
returns-in-Matrix c = of_form _ _ _ matrix_tokens c.args.inner.now _ c.in-Matrix.is c.write_fields.ensures

pub returns-in-CooperativeMatrix : goal.returns-in-CooperativeMatrix
unfolding matrix_tokens
returns-in-CooperativeMatrix c = of_form _ _ _ matrix_tokens c.args.inner.now _ c.in-CooperativeMatrix.is c.write_fields-in-CooperativeMatrix.ensures
