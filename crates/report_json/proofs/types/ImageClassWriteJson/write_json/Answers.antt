use Rattle.report_json.specs.Types.{class_tokens}
use Rattle.report_json.proofs.FormLemmas.{of_form}
use Rattle.report_json.proofs.types.ImageClassWriteJson.write_json.Goals as goal

pub returns-in-Sampled : goal.returns-in-Sampled
unfolding class_tokens
returns-in-Sampled c = of_form _ _ _ class_tokens c.args.self.now _ c.in-Sampled.is c.write_fields.ensures
