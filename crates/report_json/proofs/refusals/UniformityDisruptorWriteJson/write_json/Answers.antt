use Rattle.report_json.proofs.FormLemmas.{of_form}
use Rattle.report_json.specs.Refusals.{disruptor_tokens}
use Rattle.report_json.proofs.refusals.UniformityDisruptorWriteJson.write_json.Goals as goal

pub returns-in-Expression : goal.returns-in-Expression
unfolding disruptor_tokens
returns-in-Expression c = of_form _ _ _ disruptor_tokens c.args.self.now _ c.in-Expression.is c.write_variant.ensures
