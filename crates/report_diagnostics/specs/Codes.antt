-- The codes of diagnostics and their names.
use Rattle.std.specs.Prelude.{ℕ, List, codes}
use Rattle.report_diagnostics.specs.declared.module_codes.InputCode.{InputCode}
use Rattle.report_diagnostics.specs.declared.module_codes.InputCode.TheVariants as input
use Rattle.report_diagnostics.specs.declared.module_codes.ModuleCode.{ModuleCode}
use Rattle.report_diagnostics.specs.declared.module_codes.ModuleCode.TheVariants as modules
use Rattle.report_diagnostics.specs.declared.body_codes.TypeCode.{TypeCode}
use Rattle.report_diagnostics.specs.declared.body_codes.TypeCode.TheVariants as types
use Rattle.report_diagnostics.specs.declared.module_codes.LayoutCode.{LayoutCode}
use Rattle.report_diagnostics.specs.declared.module_codes.LayoutCode.TheVariants as layout
use Rattle.report_diagnostics.specs.declared.body_codes.ResourceCode.{ResourceCode}
use Rattle.report_diagnostics.specs.declared.body_codes.ResourceCode.TheVariants as resource
use Rattle.report_diagnostics.specs.declared.body_codes.FlowCode.{FlowCode}
use Rattle.report_diagnostics.specs.declared.body_codes.FlowCode.TheVariants as flow
use Rattle.report_diagnostics.specs.declared.codes.Code.{Code}
use Rattle.report_diagnostics.specs.declared.codes.Code.TheVariants as of

abbrev pub input_code : InputCode → List ℕ
input_code input.EmptyInput = codes "I001"
input_code input.NotUtf8 = codes "I002"
input_code input.NotAModule = codes "I003"
input_code input.InvalidJson = codes "I004"
input_code input.NestsTooDeep = codes "I005"
input_code input.TooLong = codes "I006"
input_code input.MissingField = codes "I011"
input_code input.RepeatedField = codes "I012"
input_code input.WrongValue = codes "I013"
input_code input.UnknownName = codes "I014"
input_code input.RepeatedType = codes "I015"
input_code input.Unsupported = codes "I016"

abbrev pub input_name : InputCode → List ℕ
input_name input.EmptyInput = codes "empty-input"
input_name input.NotUtf8 = codes "not-utf8"
input_name input.NotAModule = codes "not-a-module"
input_name input.InvalidJson = codes "invalid-json"
input_name input.NestsTooDeep = codes "nests-too-deep"
input_name input.TooLong = codes "too-long"
input_name input.MissingField = codes "missing-field"
input_name input.RepeatedField = codes "repeated-field"
input_name input.WrongValue = codes "wrong-value"
input_name input.UnknownName = codes "unknown-name"
input_name input.RepeatedType = codes "repeated-type"
input_name input.Unsupported = codes "unsupported"

abbrev pub module_code : ModuleCode → List ℕ
module_code modules.IndexOutOfRange = codes "M001"
module_code modules.EmitOutOfRange = codes "M002"
module_code modules.TypeNotEarlier = codes "M003"
module_code modules.OperandNotEarlier = codes "M004"
module_code modules.FilterNotEarlier = codes "M005"
module_code modules.CalleeNotEarlier = codes "M006"
module_code modules.ArgumentCount = codes "M007"
module_code modules.ValuePointerArgument = codes "M008"

abbrev pub module_name : ModuleCode → List ℕ
module_name modules.IndexOutOfRange = codes "index-out-of-range"
module_name modules.EmitOutOfRange = codes "emit-out-of-range"
module_name modules.TypeNotEarlier = codes "type-not-earlier"
module_name modules.OperandNotEarlier = codes "operand-not-earlier"
module_name modules.FilterNotEarlier = codes "filter-not-earlier"
module_name modules.CalleeNotEarlier = codes "callee-not-earlier"
module_name modules.ArgumentCount = codes "argument-count"
module_name modules.ValuePointerArgument = codes "value-pointer-argument"

abbrev pub type_code : TypeCode → List ℕ
type_code types.IndexPastTheEnd = codes "T001"
type_code types.NotIndexable = codes "T002"
type_code types.PointeeNotIndexable = codes "T003"
type_code types.NotAScalar = codes "T004"
type_code types.NotAVector = codes "T005"
type_code types.NotAPointer = codes "T006"
type_code types.NotAnImage = codes "T007"
type_code types.WrongOperands = codes "T008"
type_code types.NoOverload = codes "T009"
type_code types.NoSuchArgument = codes "T010"
type_code types.NoResult = codes "T011"
type_code types.NoResultType = codes "T012"

abbrev pub type_name : TypeCode → List ℕ
type_name types.IndexPastTheEnd = codes "index-past-the-end"
type_name types.NotIndexable = codes "not-indexable"
type_name types.PointeeNotIndexable = codes "pointee-not-indexable"
type_name types.NotAScalar = codes "not-a-scalar"
type_name types.NotAVector = codes "not-a-vector"
type_name types.NotAPointer = codes "not-a-pointer"
type_name types.NotAnImage = codes "not-an-image"
type_name types.WrongOperands = codes "wrong-operands"
type_name types.NoOverload = codes "no-overload"
type_name types.NoSuchArgument = codes "no-such-argument"
type_name types.NoResult = codes "no-result"
type_name types.NoResultType = codes "no-result-type"

abbrev pub layout_code : LayoutCode → List ℕ
layout_code layout.OddWidth = codes "L001"
layout_code layout.TooLarge = codes "L002"

abbrev pub layout_name : LayoutCode → List ℕ
layout_name layout.OddWidth = codes "odd-width"
layout_name layout.TooLarge = codes "too-large"

abbrev pub resource_code : ResourceCode → List ℕ
resource_code resource.NonUniformTextureIndex = codes "R001"
resource_code resource.NonUniformStorageTextureIndex = codes "R002"
resource_code resource.NotAResource = codes "R003"
resource_code resource.NotBindable = codes "R004"

abbrev pub resource_name : ResourceCode → List ℕ
resource_name resource.NonUniformTextureIndex = codes "non-uniform-texture-index"
resource_name resource.NonUniformStorageTextureIndex = codes "non-uniform-storage-texture-index"
resource_name resource.NotAResource = codes "not-a-resource"
resource_name resource.NotBindable = codes "not-bindable"

abbrev pub flow_code : FlowCode → List ℕ
flow_code flow.Derivative = codes "U101"
flow_code flow.ImplicitLevel = codes "U102"
flow_code flow.Barrier = codes "U103"
flow_code flow.MemoryBarrier = codes "U104"
flow_code flow.UniformLoad = codes "U105"
flow_code flow.CooperativeOperation = codes "U106"

abbrev pub flow_name : FlowCode → List ℕ
flow_name flow.Derivative = codes "derivative-in-divergent-flow"
flow_name flow.ImplicitLevel = codes "implicit-level-in-divergent-flow"
flow_name flow.Barrier = codes "barrier-in-divergent-flow"
flow_name flow.MemoryBarrier = codes "memory-barrier-in-divergent-flow"
flow_name flow.UniformLoad = codes "uniform-load-in-divergent-flow"
flow_name flow.CooperativeOperation = codes "cooperative-operation-in-divergent-flow"

abbrev pub code_text : Code → List ℕ
code_text (of.Input code) = input_code code
code_text (of.Module code) = module_code code
code_text (of.Type code) = type_code code
code_text (of.Layout code) = layout_code code
code_text (of.Resource code) = resource_code code
code_text (of.Flow code) = flow_code code
code_text of.TooManyUses = codes "C001"

abbrev pub name_text : Code → List ℕ
name_text (of.Input code) = input_name code
name_text (of.Module code) = module_name code
name_text (of.Type code) = type_name code
name_text (of.Layout code) = layout_name code
name_text (of.Resource code) = resource_name code
name_text (of.Flow code) = flow_name code
name_text of.TooManyUses = codes "too-many-uses"
