use Rattle.report_json.proofs.FormLemmas.{of_form}
use Rattle.report_json.specs.Refusals.{access_error_tokens}
use Rattle.report_json.proofs.refusals.write_access_error.Goals as goal

pub returns-in-InvalidAccess : goal.returns-in-InvalidAccess
unfolding access_error_tokens
returns-in-InvalidAccess c = of_form _ _ _ access_error_tokens c.args.error.now _ c.in-InvalidAccess.is c.write_fields-in-InvalidAccess.ensures

pub returns-in-InvalidSubAccess : goal.returns-in-InvalidSubAccess
unfolding access_error_tokens
returns-in-InvalidSubAccess c = of_form _ _ _ access_error_tokens c.args.error.now _ c.in-InvalidSubAccess.is c.write_fields-in-InvalidSubAccess.ensures
