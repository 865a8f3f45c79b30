use Rattle.report_json.proofs.FormLemmas.{of_form}
use Rattle.report_places.specs.Tokens.{body_tokens}
use Rattle.report_places.proofs.body_place.BodyPlaceWriteJson.write_json.Goals as goal

pub returns-in-ConstExpression : goal.returns-in-ConstExpression
unfolding body_tokens
returns-in-ConstExpression c = of_form _ _ _ body_tokens c.args.self.now _ c.in-ConstExpression.is c.write_variant.ensures

pub returns-in-EntryPoint : goal.returns-in-EntryPoint
unfolding body_tokens
returns-in-EntryPoint c = of_form _ _ _ body_tokens c.args.self.now _ c.in-EntryPoint.is c.write_variant-in-EntryPoint.ensures
