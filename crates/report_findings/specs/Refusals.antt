-- Diagnostics of types without a layout, and of what the analysis refuses.
use Rattle.std.specs.Prelude.{◌≡◌, ℕ, Option, Some, None, codes, if◌then◌else◌}
use Rattle.std.specs.Option.{option_map}
use Rattle.report_json.specs.Flags.{is_set}
use Rattle.shader_info.specs.declared.error.AnalysisError.{AnalysisError}
use Rattle.shader_info.specs.declared.error.AnalysisLocation.{AnalysisLocation}
use Rattle.shader_info.specs.declared.error.AnalysisLocation.TheVariants as place
use Rattle.shader_info.specs.declared.error.ExpressionError.{ExpressionError}
use Rattle.shader_info.specs.declared.error.ExpressionError.TheVariants as expression
use Rattle.shader_info.specs.declared.error.FunctionError.{FunctionError}
use Rattle.shader_info.specs.declared.error.FunctionError.TheVariants as cause
use Rattle.shader_info.specs.declared.flags.Capabilities.{Capabilities}
use Rattle.shader_info.specs.declared.flags.UniformityRequirements.{UniformityRequirements}
use Rattle.shader_ir.specs.declared.module.Module.{Module}
use Rattle.shader_ir.specs.declared.proc.layouter.LayoutError.{LayoutError}
use Rattle.shader_ir.specs.declared.proc.layouter.LayoutErrorInner.{LayoutErrorInner}
use Rattle.shader_ir.specs.declared.proc.layouter.LayoutErrorInner.TheVariants.{InvalidArrayElementType, InvalidStructMemberType}
use Rattle.shader_ir.specs.declared.proc.layouter.LayoutErrorInner.TheVariants as layout
use Rattle.shader_resolve.specs.declared.error.ResolveError.{ResolveError}
use Rattle.shader_resolve.specs.declared.error.ResolveError.TheVariants as error
use Rattle.report_places.specs.Pointers.{item_pointer}
use Rattle.report_places.specs.declared.body_place.BodyPlace.{BodyPlace}
use Rattle.report_places.specs.declared.body_place.BodyPlace.TheVariants as body
use Rattle.report_diagnostics.specs.Diagnostics.{IsError}
use Rattle.report_diagnostics.specs.Locations.{within_module}
use Rattle.report_findings.specs.Sites.{expression_location}
use Rattle.report_diagnostics.specs.declared.body_codes.FlowCode.{FlowCode}
use Rattle.report_diagnostics.specs.declared.body_codes.FlowCode.TheVariants as flow
use Rattle.report_diagnostics.specs.declared.body_codes.ResourceCode.{ResourceCode}
use Rattle.report_diagnostics.specs.declared.body_codes.ResourceCode.TheVariants as resource
use Rattle.report_diagnostics.specs.declared.body_codes.TypeCode.{TypeCode}
use Rattle.report_diagnostics.specs.declared.body_codes.TypeCode.TheVariants as types
use Rattle.report_diagnostics.specs.declared.codes.Code.{Code}
use Rattle.report_diagnostics.specs.declared.codes.Code.TheVariants as of
use Rattle.report_diagnostics.specs.declared.diagnostic.Diagnostic.{Diagnostic}
use Rattle.report_diagnostics.specs.declared.location.Location.{Location}
use Rattle.report_diagnostics.specs.declared.module_codes.LayoutCode.TheVariants.{OddWidth, TooLarge}
use Rattle.report_diagnostics.specs.declared.module_codes.ModuleCode.TheVariants.{TypeNotEarlier}

-- a type without a layout. The first two are no errors of well-formed modules
abbrev pub layout_code_of : LayoutErrorInner → Code
layout_code_of (InvalidArrayElementType element) = of.Module TypeNotEarlier
layout_code_of (InvalidStructMemberType member ty) = of.Module TypeNotEarlier
layout_code_of layout.NonPowerOfTwoWidth = of.Layout OddWidth
layout_code_of layout.TooLarge = of.Layout TooLarge

abbrev pub layout_location : ℕ → Location
layout_location ty = within_module None None None None (Some ty) (item_pointer (codes "types") ty)

abbrev pub IsLayoutDiagnostic : LayoutError → Diagnostic → Type 0
IsLayoutDiagnostic error diagnostic = IsError (layout_code_of error.inner) (layout_location error.ty) diagnostic

-- an expression without a type; an allocation failure has no code
abbrev pub resolve_code : ResolveError → Option TypeCode
resolve_code (error.OutOfBoundsIndex expr index) = Some types.IndexPastTheEnd
resolve_code (error.InvalidAccess expr indexed) = Some types.NotIndexable
resolve_code (error.InvalidSubAccess ty indexed) = Some types.PointeeNotIndexable
resolve_code (error.InvalidScalar expr) = Some types.NotAScalar
resolve_code (error.InvalidVector expr) = Some types.NotAVector
resolve_code (error.InvalidPointer expr) = Some types.NotAPointer
resolve_code (error.InvalidImage expr) = Some types.NotAnImage
resolve_code (error.IncompatibleOperands name) = Some types.WrongOperands
resolve_code (error.BuiltinArgumentsInvalid name) = Some types.NoOverload
resolve_code (error.FunctionNotDefined name) = Some types.NoOverload
resolve_code (error.FunctionArgumentNotFound index) = Some types.NoSuchArgument
resolve_code error.FunctionReturnsVoid = Some types.NoResult
resolve_code error.MissingSpecialType = Some types.NoResultType
resolve_code error.OutOfMemory = None

-- 2: the capability to index arrays of storage textures
abbrev pub capability_code : Capabilities → ResourceCode
capability_code missing =
    if is_set missing.0 2 then resource.NonUniformStorageTextureIndex else resource.NonUniformTextureIndex

abbrev pub expression_code : ExpressionError → Option Code
expression_code (expression.Resolve failure) = option_map of.Type (resolve_code failure)
expression_code (expression.MissingCapabilities missing) = Some (of.Resource (capability_code missing))
expression_code expression.ExpectedGlobalOrArgument = Some (of.Resource resource.NotAResource)
expression_code expression.BindingArrayElement = Some (of.Resource resource.NotBindable)

-- by the first of the requirements: 2 is a derivative, 4 an implicit level, 8 an operation on a cooperative matrix
abbrev pub requirement_code : UniformityRequirements → FlowCode
requirement_code requirements =
    if is_set requirements.0 2 then flow.Derivative
    else if is_set requirements.0 4 then flow.ImplicitLevel
    else if is_set requirements.0 8 then flow.CooperativeOperation
    else flow.Barrier

abbrev pub cause_code : FunctionError → Option Code
cause_code (cause.Expression handle source) = expression_code source
cause_code (cause.NonUniformControlFlow requirements handle disruptor) = Some (of.Flow (requirement_code requirements))
cause_code (cause.CountFull handle) = Some of.TooManyUses
cause_code cause.OutOfMemory = None

abbrev pub cause_expression : FunctionError → Option ℕ
cause_expression (cause.Expression handle source) = Some handle
cause_expression (cause.NonUniformControlFlow requirements handle disruptor) = Some handle
cause_expression (cause.CountFull handle) = Some handle
cause_expression cause.OutOfMemory = None

abbrev pub place_of : AnalysisLocation → BodyPlace
place_of (place.ConstExpression handle) = body.ConstExpression handle
place_of (place.Function handle) = body.Function handle
place_of (place.EntryPoint index) = body.EntryPoint index

-- an error of the refusal's code, at the refused expression
pub record IsRefusalDiagnostic (m : Module) (refusal : AnalysisError) (diagnostic : Diagnostic) : Type 0 where
  pub refused : ℕ
  pub expression : cause_expression refusal.cause ≡ Some refused
  pub kind : Code
  pub code : cause_code refusal.cause ≡ Some kind
  pub error : IsError kind (expression_location m (place_of refusal.place) refused) diagnostic
