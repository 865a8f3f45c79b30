-- Refusals of modules as JSON.
use Rattle.std.specs.Prelude.{ℕ, List, [], ◌∷◌, ◌++◌, codes}
use Rattle.std.specs.String.{string_bytes}
use Rattle.json.specs.Token.{Token, boolean, key, null}
use Rattle.shader_info.specs.declared.error.AnalysisError.{AnalysisError}
use Rattle.shader_info.specs.declared.error.AnalysisLocation.{AnalysisLocation}
use Rattle.shader_info.specs.declared.error.AnalysisLocation.TheVariants as locations
use Rattle.shader_info.specs.declared.error.ExpressionError.{ExpressionError}
use Rattle.shader_info.specs.declared.error.ExpressionError.TheVariants as expression
use Rattle.shader_info.specs.declared.error.FunctionError.{FunctionError}
use Rattle.shader_info.specs.declared.error.FunctionError.TheVariants as cause
use Rattle.shader_info.specs.declared.error.UniformityDisruptor.{UniformityDisruptor}
use Rattle.shader_info.specs.declared.error.UniformityDisruptor.TheVariants as disruptor
use Rattle.shader_info.specs.declared.flags.UniformityRequirements.{UniformityRequirements}
use Rattle.shader_resolve.specs.declared.error.ResolveError.{ResolveError}
use Rattle.shader_resolve.specs.declared.error.ResolveError.TheVariants as error
use Rattle.shader_resolve.specs.declared.well_formed.ModuleFault.{ModuleFault}
use Rattle.shader_resolve.specs.declared.well_formed.ModuleFault.TheVariants as fault
use Rattle.report_json.specs.Flags.{capabilities_text, requirements_text}
use Rattle.report_json.specs.Tokens.{array, fields, number_tokens, object, text_tokens, variant}

abbrev pub fault_name : ModuleFault → List ℕ
fault_name fault.HandleOutOfRange = codes "HandleOutOfRange"
fault_name fault.TypeNotEarlier = codes "TypeNotEarlier"
fault_name fault.OperandNotEarlier = codes "OperandNotEarlier"
fault_name fault.CalleeNotEarlier = codes "CalleeNotEarlier"
fault_name fault.ArgumentCount = codes "ArgumentCount"
fault_name fault.FilterNotEarlier = codes "FilterNotEarlier"
fault_name fault.ValuePointerArgument = codes "ValuePointerArgument"
fault_name fault.EmitRange = codes "EmitRange"

-- an error of an access, and null for any other
unfoldable pub access_error_tokens : ResolveError → List Token
access_error_tokens (error.OutOfBoundsIndex expr index) =
    fields (codes "OutOfBoundsIndex") (key (codes "expr") ∷ (number_tokens expr ++ key (codes "index") ∷ number_tokens index))
access_error_tokens (error.InvalidAccess expr indexed) =
    fields (codes "InvalidAccess") (key (codes "expr") ∷ (number_tokens expr ++ key (codes "indexed") ∷ boolean indexed ∷ []))
access_error_tokens (error.InvalidSubAccess ty indexed) =
    fields (codes "InvalidSubAccess") (key (codes "ty") ∷ (number_tokens ty ++ key (codes "indexed") ∷ boolean indexed ∷ []))
access_error_tokens _ = null ∷ []

-- an error of an operand as a whole, or one of an access
unfoldable pub operand_error_tokens : ResolveError → List Token
operand_error_tokens (error.InvalidScalar expr) = variant (codes "InvalidScalar") (number_tokens expr)
operand_error_tokens (error.InvalidVector expr) = variant (codes "InvalidVector") (number_tokens expr)
operand_error_tokens (error.InvalidPointer expr) = variant (codes "InvalidPointer") (number_tokens expr)
operand_error_tokens (error.InvalidImage expr) = variant (codes "InvalidImage") (number_tokens expr)
operand_error_tokens failure = access_error_tokens failure

unfoldable pub resolve_error_tokens : ResolveError → List Token
resolve_error_tokens (error.FunctionNotDefined name) =
    fields (codes "FunctionNotDefined") (key (codes "name") ∷ text_tokens (string_bytes name))
resolve_error_tokens error.FunctionReturnsVoid = text_tokens (codes "FunctionReturnsVoid")
resolve_error_tokens (error.IncompatibleOperands name) = variant (codes "IncompatibleOperands") (text_tokens (string_bytes name))
resolve_error_tokens (error.FunctionArgumentNotFound index) = variant (codes "FunctionArgumentNotFound") (number_tokens index)
resolve_error_tokens error.MissingSpecialType = text_tokens (codes "MissingSpecialType")
resolve_error_tokens (error.BuiltinArgumentsInvalid name) = variant (codes "BuiltinArgumentsInvalid") (text_tokens (string_bytes name))
resolve_error_tokens error.OutOfMemory = text_tokens (codes "OutOfMemory")
resolve_error_tokens failure = operand_error_tokens failure

unfoldable pub expression_error_tokens : ExpressionError → List Token
expression_error_tokens (expression.Resolve failure) = variant (codes "ResolveError") (resolve_error_tokens failure)
expression_error_tokens (expression.MissingCapabilities wanted) =
    variant (codes "MissingCapabilities") (text_tokens (capabilities_text wanted))
expression_error_tokens expression.ExpectedGlobalOrArgument = text_tokens (codes "ExpectedGlobalOrArgument")
expression_error_tokens expression.BindingArrayElement = text_tokens (codes "BindingArrayElement")

unfoldable pub disruptor_tokens : UniformityDisruptor → List Token
disruptor_tokens (disruptor.Expression handle) = variant (codes "Expression") (number_tokens handle)
disruptor_tokens disruptor.Return = text_tokens (codes "Return")
disruptor_tokens disruptor.Discard = text_tokens (codes "Discard")

abbrev pub divergence_tokens : UniformityRequirements → ℕ → UniformityDisruptor → List Token
divergence_tokens requirements handle flow_disruptor =
    array (text_tokens (requirements_text requirements) ++ (number_tokens handle ++ disruptor_tokens flow_disruptor))

unfoldable pub cause_tokens : FunctionError → List Token
cause_tokens (cause.Expression handle source) =
    fields (codes "Expression") (key (codes "handle") ∷ (number_tokens handle ++ key (codes "error") ∷ expression_error_tokens source))
cause_tokens (cause.NonUniformControlFlow requirements handle flow_disruptor) =
    variant (codes "NonUniformControlFlow") (divergence_tokens requirements handle flow_disruptor)
cause_tokens (cause.CountFull handle) = variant (codes "CountFull") (number_tokens handle)
cause_tokens cause.OutOfMemory = text_tokens (codes "OutOfMemory")

unfoldable pub location_tokens : AnalysisLocation → List Token
location_tokens (locations.ConstExpression handle) = variant (codes "ConstExpression") (number_tokens handle)
location_tokens (locations.Function handle) = variant (codes "Function") (number_tokens handle)
location_tokens (locations.EntryPoint index) = variant (codes "EntryPoint") (number_tokens index)

unfoldable pub refusal_tokens : AnalysisError → List Token
refusal_tokens refusal =
    object (key (codes "place") ∷ (location_tokens refusal.place
    ++ key (codes "cause") ∷ cause_tokens refusal.cause))
