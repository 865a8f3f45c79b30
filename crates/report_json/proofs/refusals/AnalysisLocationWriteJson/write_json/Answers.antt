use Rattle.report_json.proofs.FormLemmas.{of_form}
use Rattle.report_json.specs.Refusals.{location_tokens}
use Rattle.report_json.proofs.refusals.AnalysisLocationWriteJson.write_json.Goals as goal

pub returns-in-ConstExpression : goal.returns-in-ConstExpression
unfolding location_tokens
returns-in-ConstExpression c = of_form _ _ _ location_tokens c.args.self.now _ c.in-ConstExpression.is c.write_variant.ensures

pub returns-in-EntryPoint : goal.returns-in-EntryPoint
unfolding location_tokens
returns-in-EntryPoint c = of_form _ _ _ location_tokens c.args.self.now _ c.in-EntryPoint.is c.write_variant-in-EntryPoint.ensures
