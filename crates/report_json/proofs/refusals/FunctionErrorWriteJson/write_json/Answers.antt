use Rattle.std.proofs.Common.{refl}
use Rattle.report_json.proofs.FormLemmas.{of_form, of_word}
use Rattle.report_json.specs.Refusals.{cause_tokens}
use Rattle.report_json.proofs.refusals.FunctionErrorWriteJson.write_json.Goals as goal

pub returns-in-Expression : goal.returns-in-Expression
unfolding cause_tokens
returns-in-Expression c = of_form _ _ _ cause_tokens c.args.self.now _ c.in-Expression.is c.write_fields.ensures

pub returns-in-CountFull : goal.returns-in-CountFull
unfolding cause_tokens
returns-in-CountFull c = of_form _ _ _ cause_tokens c.args.self.now _ c.in-CountFull.is c.write_variant-in-CountFull.ensures

pub returns-in-OutOfMemory : goal.returns-in-OutOfMemory
unfolding cause_tokens
returns-in-OutOfMemory c = of_word _ _ _ cause_tokens c.args.self.now _ _ c.in-OutOfMemory.is refl c.string.ensures
