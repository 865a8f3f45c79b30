use Rattle.std.proofs.Common.{refl}
use Rattle.report_json.proofs.FormLemmas.{of_form, of_word}
use Rattle.report_json.specs.Refusals.{expression_error_tokens}
use Rattle.report_json.proofs.refusals.ExpressionErrorWriteJson.write_json.Goals as goal

pub returns-in-Resolve : goal.returns-in-Resolve
unfolding expression_error_tokens
returns-in-Resolve c = of_form _ _ _ expression_error_tokens c.args.self.now _ c.in-Resolve.is c.write_variant.ensures

pub returns-in-MissingCapabilities : goal.returns-in-MissingCapabilities
unfolding expression_error_tokens
returns-in-MissingCapabilities c = of_form _ _ _ expression_error_tokens c.args.self.now _ c.in-MissingCapabilities.is c.write_variant-in-MissingCapabilities.ensures

pub returns-in-ExpectedGlobalOrArgument : goal.returns-in-ExpectedGlobalOrArgument
unfolding expression_error_tokens
returns-in-ExpectedGlobalOrArgument c = of_word _ _ _ expression_error_tokens c.args.self.now _ _ c.in-ExpectedGlobalOrArgument.is refl c.string.ensures

pub returns-in-BindingArrayElement : goal.returns-in-BindingArrayElement
unfolding expression_error_tokens
returns-in-BindingArrayElement c = of_word _ _ _ expression_error_tokens c.args.self.now _ _ c.in-BindingArrayElement.is refl c.string-in-BindingArrayElement.ensures
