use Rattle.std.proofs.Common.{refl}
use Rattle.report_json.proofs.FormLemmas.{of_form, of_word}
use Rattle.report_json.specs.Refusals.{resolve_error_tokens}
use Rattle.report_json.proofs.refusals.ResolveErrorWriteJson.write_json.Goals as goal

pub returns-in-IncompatibleOperands : goal.returns-in-IncompatibleOperands
unfolding resolve_error_tokens
returns-in-IncompatibleOperands c = of_form _ _ _ resolve_error_tokens c.args.self.now _ c.in-IncompatibleOperands.is c.write_variant.ensures

pub returns-in-BuiltinArgumentsInvalid : goal.returns-in-BuiltinArgumentsInvalid
unfolding resolve_error_tokens
returns-in-BuiltinArgumentsInvalid c = of_form _ _ _ resolve_error_tokens c.args.self.now _ c.in-BuiltinArgumentsInvalid.is c.write_variant-in-BuiltinArgumentsInvalid.ensures

pub returns-in-MissingSpecialType : goal.returns-in-MissingSpecialType
unfolding resolve_error_tokens
returns-in-MissingSpecialType c = of_word _ _ _ resolve_error_tokens c.args.self.now _ _ c.in-MissingSpecialType.is refl c.string-in-MissingSpecialType.ensures

pub returns-in-OutOfMemory : goal.returns-in-OutOfMemory
unfolding resolve_error_tokens
returns-in-OutOfMemory c = of_word _ _ _ resolve_error_tokens c.args.self.now _ _ c.in-OutOfMemory.is refl c.string-in-OutOfMemory.ensures
