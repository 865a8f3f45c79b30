-- What is written of types, layouts, infos and refusals spells values.
use Rattle.std.proofs.Common.{ℕ, Bool, List, suc}
use Rattle.shader_info.specs.declared.error.AnalysisError.{AnalysisError}
use Rattle.shader_info.specs.declared.error.AnalysisLocation.{AnalysisLocation}
use Rattle.shader_info.specs.declared.error.AnalysisLocation.TheVariants as locations
use Rattle.shader_info.specs.declared.error.ExpressionError.{ExpressionError}
use Rattle.shader_info.specs.declared.error.ExpressionError.TheVariants as expression
use Rattle.shader_info.specs.declared.error.FunctionError.{FunctionError}
use Rattle.shader_info.specs.declared.error.FunctionError.TheVariants as cause
use Rattle.shader_info.specs.declared.error.UniformityDisruptor.{UniformityDisruptor}
use Rattle.shader_info.specs.declared.error.UniformityDisruptor.TheVariants as disruptor
use Rattle.shader_info.specs.declared.flags.GlobalUse.{GlobalUse}
use Rattle.shader_info.specs.declared.info.ExpressionInfo.{ExpressionInfo}
use Rattle.shader_info.specs.declared.info.FunctionInfo.{FunctionInfo}
use Rattle.shader_info.specs.declared.info.Uniformity.{Uniformity}
use Rattle.shader_ir.specs.declared.image.ImageClass.{ImageClass}
use Rattle.shader_ir.specs.declared.image.ImageClass.TheVariants as classes
use Rattle.shader_ir.specs.declared.proc.layouter.LayoutError.{LayoutError}
use Rattle.shader_ir.specs.declared.proc.layouter.LayoutErrorInner.{LayoutErrorInner}
use Rattle.shader_ir.specs.declared.proc.layouter.LayoutErrorInner.TheVariants as layouts
use Rattle.shader_ir.specs.declared.proc.layouter.TypeLayout.{TypeLayout}
use Rattle.shader_ir.specs.declared.proc.type_resolution.TypeResolution.{TypeResolution}
use Rattle.shader_ir.specs.declared.proc.type_resolution.TypeResolution.TheVariants as resolutions
use Rattle.shader_ir.specs.declared.scalar.Scalar.{Scalar}
use Rattle.shader_ir.specs.declared.types.AddressSpace.{AddressSpace}
use Rattle.shader_ir.specs.declared.types.AddressSpace.TheVariants as spaces
use Rattle.shader_ir.specs.declared.types.ArraySize.{ArraySize}
use Rattle.shader_ir.specs.declared.types.ArraySize.TheVariants as counts
use Rattle.shader_ir.specs.declared.types.TypeInner.{TypeInner}
use Rattle.shader_ir.specs.declared.types.TypeInner.TheVariants as types
use Rattle.shader_resolve.specs.declared.error.ResolveError.{ResolveError}
use Rattle.shader_resolve.specs.declared.error.ResolveError.TheVariants as error
use Rattle.report_json.proofs.SpellingLemmas.{each_item, one_item, one_member, spell_array, spell_boolean, spell_fields}
use Rattle.report_json.proofs.SpellingLemmas.{spell_null, spell_number, spell_object, spell_optional, spell_text, spell_variant}
use Rattle.report_json.proofs.SpellingLemmas.{then_items, then_member}
use Rattle.report_json.specs.Functions.{function_tokens, pair_tokens, sampling_tokens}
use Rattle.report_json.specs.Infos as infos
use Rattle.report_json.specs.Infos.{expression_tokens, uniformity_tokens}
use Rattle.report_json.specs.Layouts.{layout_cause_tokens, layout_error_tokens, layout_tokens}
use Rattle.report_json.specs.Refusals.{access_error_tokens, cause_tokens, disruptor_tokens, expression_error_tokens}
use Rattle.report_json.specs.Refusals.{location_tokens, operand_error_tokens, refusal_tokens, resolve_error_tokens}
use Rattle.report_json.specs.Types.{class_tokens, count_tokens, inner_tokens, matrix_tokens, pointer_tokens, resolution_tokens}
use Rattle.report_json.specs.Types.{resource_tokens, scalar_tokens, space_tokens}
use Rattle.report_json.specs.Values.{SpellValue}

-- ---- types

pub scalar_value : {most : ℕ} (scalar : Scalar) → SpellValue (suc most) (scalar_tokens scalar)
unfolding scalar_tokens
scalar_value scalar = spell_object (then_member spell_text (one_member spell_number))

space_value : {most : ℕ} (space : AddressSpace) → SpellValue (suc (suc most)) (space_tokens space)
unfolding space_tokens
space_value spaces.Function = spell_text
space_value spaces.Private = spell_text
space_value spaces.WorkGroup = spell_text
space_value spaces.Uniform = spell_text
space_value (spaces.Storage access) = spell_fields (one_member spell_text)
space_value spaces.Handle = spell_text
space_value spaces.Immediate = spell_text
space_value spaces.TaskPayload = spell_text
space_value spaces.RayPayload = spell_text
space_value spaces.IncomingRayPayload = spell_text

count_value : {most : ℕ} (count : ArraySize) → SpellValue (suc most) (count_tokens count)
unfolding count_tokens
count_value (counts.Constant count) = spell_variant spell_number
count_value (counts.Pending handle) = spell_variant spell_number
count_value counts.Dynamic = spell_text

class_value : {most : ℕ} (class : ImageClass) → SpellValue (suc (suc most)) (class_tokens class)
unfolding class_tokens
class_value (classes.Sampled kind multi) = spell_fields (then_member spell_text (one_member spell_boolean))
class_value (classes.Depth multi) = spell_fields (one_member spell_boolean)
class_value (classes.Storage format access) = spell_fields (then_member spell_text (one_member spell_text))
class_value classes.External = spell_text

resource_type_value : {most : ℕ} (inner : TypeInner) → SpellValue (suc (suc (suc (suc most)))) (resource_tokens inner)
unfolding resource_tokens
resource_type_value (types.Image dim arrayed class) =
    spell_fields (then_member spell_text (then_member spell_boolean (one_member (class_value class))))
resource_type_value (types.Sampler comparison) = spell_fields (one_member spell_boolean)
resource_type_value (types.AccelerationStructure vertex_return) = spell_fields (one_member spell_boolean)
resource_type_value (types.RayQuery vertex_return) = spell_fields (one_member spell_boolean)
resource_type_value _ = spell_null

pointer_value : {most : ℕ} (inner : TypeInner) → SpellValue (suc (suc (suc (suc most)))) (pointer_tokens inner)
unfolding pointer_tokens
pointer_value (types.Pointer base space) = spell_fields (then_member spell_number (one_member (space_value space)))
pointer_value (types.ValuePointer size scalar space) =
    spell_fields (then_member (spell_optional _ size (λ size. spell_text))
    (then_member (scalar_value scalar) (one_member (space_value space))))
pointer_value (types.Array base size stride) =
    spell_fields (then_member spell_number (then_member (count_value size) (one_member spell_number)))
pointer_value (types.BindingArray base size) = spell_fields (then_member spell_number (one_member (count_value size)))
pointer_value inner = resource_type_value inner

matrix_value : {most : ℕ} (inner : TypeInner) → SpellValue (suc (suc (suc (suc most)))) (matrix_tokens inner)
unfolding matrix_tokens
matrix_value (types.Matrix columns rows scalar) =
    spell_fields (then_member spell_text (then_member spell_text (one_member (scalar_value scalar))))
matrix_value (types.CooperativeMatrix columns rows scalar role) =
    spell_fields (then_member spell_text (then_member spell_text (then_member (scalar_value scalar) (one_member spell_text))))
matrix_value inner = pointer_value inner

pub inner_value : {most : ℕ} (inner : TypeInner) → SpellValue (suc (suc (suc (suc most)))) (inner_tokens inner)
unfolding inner_tokens
inner_value (types.Scalar scalar) = spell_variant (scalar_value scalar)
inner_value (types.Vector size scalar) = spell_fields (then_member spell_text (one_member (scalar_value scalar)))
inner_value (types.Atomic scalar) = spell_variant (scalar_value scalar)
inner_value inner = matrix_value inner

-- ---- layouts

pub layout_value : {most : ℕ} (layout : TypeLayout) → SpellValue (suc most) (layout_tokens layout)
unfolding layout_tokens
layout_value layout = spell_object (then_member spell_number (one_member spell_number))

layout_cause_value : {most : ℕ} (inner : LayoutErrorInner) → SpellValue (suc (suc most)) (layout_cause_tokens inner)
unfolding layout_cause_tokens
layout_cause_value (layouts.InvalidArrayElementType element) = spell_variant spell_number
layout_cause_value (layouts.InvalidStructMemberType member ty) =
    spell_variant (spell_array (then_items (one_item spell_number) (one_item spell_number)))
layout_cause_value layouts.NonPowerOfTwoWidth = spell_text
layout_cause_value layouts.TooLarge = spell_text

pub layout_error_value : {most : ℕ} (error : LayoutError) → SpellValue (suc (suc (suc most))) (layout_error_tokens error)
unfolding layout_error_tokens
layout_error_value error = spell_object (then_member spell_number (one_member (layout_cause_value error.inner)))

-- ---- refusals

access_error_value : {most : ℕ} (failure : ResolveError) → SpellValue (suc (suc most)) (access_error_tokens failure)
unfolding access_error_tokens
access_error_value (error.OutOfBoundsIndex expr index) = spell_fields (then_member spell_number (one_member spell_number))
access_error_value (error.InvalidAccess expr indexed) = spell_fields (then_member spell_number (one_member spell_boolean))
access_error_value (error.InvalidSubAccess ty indexed) = spell_fields (then_member spell_number (one_member spell_boolean))
access_error_value _ = spell_null

operand_error_value : {most : ℕ} (failure : ResolveError) → SpellValue (suc (suc most)) (operand_error_tokens failure)
unfolding operand_error_tokens
operand_error_value (error.InvalidScalar expr) = spell_variant spell_number
operand_error_value (error.InvalidVector expr) = spell_variant spell_number
operand_error_value (error.InvalidPointer expr) = spell_variant spell_number
operand_error_value (error.InvalidImage expr) = spell_variant spell_number
operand_error_value failure = access_error_value failure

resolve_error_value : {most : ℕ} (failure : ResolveError) → SpellValue (suc (suc most)) (resolve_error_tokens failure)
unfolding resolve_error_tokens
resolve_error_value (error.FunctionNotDefined name) = spell_fields (one_member spell_text)
resolve_error_value error.FunctionReturnsVoid = spell_text
resolve_error_value (error.IncompatibleOperands name) = spell_variant spell_text
resolve_error_value (error.FunctionArgumentNotFound index) = spell_variant spell_number
resolve_error_value error.MissingSpecialType = spell_text
resolve_error_value (error.BuiltinArgumentsInvalid name) = spell_variant spell_text
resolve_error_value error.OutOfMemory = spell_text
resolve_error_value failure = operand_error_value failure

expression_error_value : {most : ℕ} (failure : ExpressionError) → SpellValue (suc (suc (suc most))) (expression_error_tokens failure)
unfolding expression_error_tokens
expression_error_value (expression.Resolve failure) = spell_variant (resolve_error_value failure)
expression_error_value (expression.MissingCapabilities wanted) = spell_variant spell_text
expression_error_value expression.ExpectedGlobalOrArgument = spell_text
expression_error_value expression.BindingArrayElement = spell_text

disruptor_value : {most : ℕ} (of : UniformityDisruptor) → SpellValue (suc most) (disruptor_tokens of)
unfolding disruptor_tokens
disruptor_value (disruptor.Expression handle) = spell_variant spell_number
disruptor_value disruptor.Return = spell_text
disruptor_value disruptor.Discard = spell_text

location_value : {most : ℕ} (location : AnalysisLocation) → SpellValue (suc most) (location_tokens location)
unfolding location_tokens
location_value (locations.ConstExpression handle) = spell_variant spell_number
location_value (locations.Function handle) = spell_variant spell_number
location_value (locations.EntryPoint index) = spell_variant spell_number

-- ---- refusals of modules

cause_value : {most : ℕ} (failure : FunctionError) → SpellValue (suc (suc (suc (suc (suc most))))) (cause_tokens failure)
unfolding cause_tokens
cause_value (cause.Expression handle source) = spell_fields (then_member spell_number (one_member (expression_error_value source)))
cause_value (cause.NonUniformControlFlow requirements handle flow_disruptor) =
    spell_variant (spell_array (then_items (one_item spell_text) (then_items (one_item spell_number)
    (one_item (disruptor_value flow_disruptor)))))
cause_value (cause.CountFull handle) = spell_variant spell_number
cause_value cause.OutOfMemory = spell_text

pub refusal_value : (refusal : AnalysisError) → SpellValue 6 (refusal_tokens refusal)
unfolding refusal_tokens
refusal_value refusal = spell_object (then_member (location_value refusal.place) (one_member (cause_value refusal.cause)))

-- ---- infos

pub resolution_value : (resolution : TypeResolution) → SpellValue 5 (resolution_tokens resolution)
unfolding resolution_tokens
resolution_value (resolutions.Handle handle) = spell_variant spell_number
resolution_value (resolutions.Value inner) = spell_variant (inner_value inner)

uniformity_value : {most : ℕ} (uniformity : Uniformity) → SpellValue (suc most) (uniformity_tokens uniformity)
unfolding uniformity_tokens
uniformity_value uniformity =
    spell_object (then_member (spell_optional _ uniformity.non_uniform_result (λ n. spell_number)) (one_member spell_text))

resource_value : {most : ℕ} (resource : Bool × ℕ) → SpellValue (suc most) (infos.resource_tokens resource)
unfolding infos.resource_tokens
resource_value resource = spell_variant spell_number

pair_value : {most : ℕ} (pair : ℕ × ℕ) → SpellValue (suc most) (pair_tokens pair)
unfolding pair_tokens
pair_value pair = spell_object (then_member spell_number (one_member spell_number))

sampling_value : {most : ℕ} (pair : (Bool × ℕ) × (Bool × ℕ)) → SpellValue (suc (suc most)) (sampling_tokens pair)
unfolding sampling_tokens
sampling_value pair = spell_object (then_member (resource_value pair.0) (one_member (resource_value pair.1)))

expression_value : (info : ExpressionInfo) → SpellValue 6 (expression_tokens info)
unfolding expression_tokens
expression_value info =
    spell_object (then_member (uniformity_value info.uniformity) (then_member spell_number (one_member (resolution_value info.ty))))

pub function_value : (info : FunctionInfo) (pairs : List (ℕ × ℕ)) (sampling : List ((Bool × ℕ) × (Bool × ℕ))) →
    SpellValue 8 (function_tokens info pairs sampling)
unfolding function_tokens
function_value info pairs sampling =
    spell_object (then_member spell_text (then_member (uniformity_value info.uniformity) (then_member spell_boolean
    (then_member (spell_array (each_item pair_value pairs))
    (then_member (spell_array (each_item (λ (uses : GlobalUse). spell_text) info.global_uses))
    (then_member (spell_array (each_item expression_value info.expressions))
    (then_member (spell_array (each_item sampling_value sampling)) (one_member spell_boolean))))))))
