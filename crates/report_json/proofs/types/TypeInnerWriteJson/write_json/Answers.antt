use Rattle.report_json.specs.Types.{inner_tokens}
use Rattle.report_json.proofs.FormLemmas.{of_form}
use Rattle.report_json.proofs.types.TypeInnerWriteJson.write_json.Goals as goal

pub returns-in-Vector : goal.returns-in-Vector
unfolding inner_tokens
returns-in-Vector c = of_form _ _ _ inner_tokens c.args.self.now _ c.in-Vector.is c.write_fields.ensures
