-- The sample modules.
use Rattle.std.specs.Prelude.{ℕ, Bool, true, false, List, [], ◌∷◌, codes, map, Some, None, pos}
use Rattle.shader_ir.specs.Body.{Body, End, Then, Step, Leaf, If, Switch, NoCase, Case, Emit, Return, Store, Call}
use Rattle.shader_ir.specs.Scalars.{scalar}
use Rattle.shader_ir.specs.declared.expression.Expression.{Expression}
use Rattle.shader_ir.specs.declared.expression.Expression.TheVariants as form
use Rattle.shader_ir.specs.declared.expression.SampleLevel.TheVariants as level
use Rattle.shader_ir.specs.declared.function.Function.{Function}
use Rattle.shader_ir.specs.declared.function.FunctionArgument.{FunctionArgument}
use Rattle.shader_ir.specs.declared.image.ImageClass.TheVariants as class
use Rattle.shader_ir.specs.declared.image.ImageDimension.TheVariants as dimension
use Rattle.shader_ir.specs.declared.literal.Literal.TheVariants as literal
use Rattle.shader_ir.specs.declared.«module».DiagnosticFilterNode.{DiagnosticFilterNode}
use Rattle.shader_ir.specs.declared.«module».DiagnosticRule.TheVariants as rule
use Rattle.shader_ir.specs.declared.«module».GlobalVariable.{GlobalVariable}
use Rattle.shader_ir.specs.declared.«module».Module.{Module}
use Rattle.shader_ir.specs.declared.«module».Severity.TheVariants as severity
use Rattle.shader_ir.specs.declared.operators.BinaryOperator.TheVariants as operator
use Rattle.shader_ir.specs.declared.operators.DerivativeAxis.TheVariants as axis
use Rattle.shader_ir.specs.declared.operators.DerivativeControl.TheVariants as control
use Rattle.shader_ir.specs.declared.scalar.CooperativeRole.TheVariants as role
use Rattle.shader_ir.specs.declared.scalar.CooperativeSize.TheVariants as cooperative
use Rattle.shader_ir.specs.declared.scalar.ScalarKind.TheVariants as kinds
use Rattle.shader_ir.specs.declared.scalar.VectorSize.TheVariants as size
use Rattle.shader_ir.specs.declared.statement.SwitchValue.TheVariants as value
use Rattle.shader_ir.specs.declared.types.AddressSpace.{AddressSpace}
use Rattle.shader_ir.specs.declared.types.AddressSpace.TheVariants as space
use Rattle.shader_ir.specs.declared.types.TypeInner.{TypeInner}
use Rattle.shader_ir.specs.declared.types.TypeInner.TheVariants as type
use Rattle.shader_samples.specs.Modules.{function_with, module_with}
use Rattle.shader_samples.specs.Types.{unnamed}
use Rattle.shader_samples.specs.declared.sample.Sample.{Sample}
use Rattle.shader_samples.specs.declared.sample.Sample.TheVariants as s

-- ---- parts of the samples

abbrev pub variable : AddressSpace → ℕ → GlobalVariable
variable space ty = record { name = None; space = space; ty = ty; init = None }

-- a global in a storage buffer that is read and written
abbrev pub storage : ℕ → GlobalVariable
storage ty = variable (space.Storage (record { 0 = 3 })) ty

abbrev pub resource : ℕ → GlobalVariable
resource ty = variable space.Handle ty

abbrev pub argument : ℕ → FunctionArgument
argument ty = record { name = None; ty = ty; binding = None }

abbrev pub number : ℕ → Expression
number value = form.Literal (literal.U32 value)

-- a body of one statement, and one of two
abbrev pub just : Step → Body
just step = Then step End

abbrev pub both : Step → Step → Body
both first second = Then first (just second)

-- ---- a global that is named, written, or both

abbrev pub over_a_counter : List Function → Module
over_a_counter functions = module_with (map unnamed (type.Scalar (scalar kinds.Uint 4) ∷ [])) (storage 0 ∷ []) functions

abbrev pub counter_named : List (ℕ × List ℕ)
counter_named = (0, codes "counter") ∷ []

-- the first function only names the global; the second calls it, and then writes the global
abbrev pub named_module : Module
named_module = over_a_counter (
    function_with [] None (form.GlobalVariable 0 ∷ []) counter_named End
    ∷ function_with [] None (form.GlobalVariable 0 ∷ number 1 ∷ []) [] (both (Leaf (Call 0 [] None)) (Leaf (Store 0 1)))
    ∷ [])

-- the global is named and written
abbrev pub stored_module : Module
stored_module = over_a_counter (function_with [] None (form.GlobalVariable 0 ∷ number 1 ∷ []) counter_named (just (Leaf (Store 0 1))) ∷ [])

-- ---- an image and a sampler that are passed on

abbrev pub image : TypeInner
image = type.Image dimension.D2 false (class.Sampled kinds.Float false)

abbrev pub sampling_types : List TypeInner
sampling_types = image ∷ type.Sampler false ∷ type.Vector size.Bi (scalar kinds.Float 4) ∷ type.Vector size.Quad (scalar kinds.Float 4) ∷ []

abbrev pub sample_of : Expression
sample_of = form.ImageSample 0 1 None false 2 None None level.Zero None

-- samples its first argument with its second, and returns the result
abbrev pub taking_both : Function
taking_both = function_with (argument 0 ∷ argument 1 ∷ []) (Some (record { ty = 3; binding = None }))
    (form.FunctionArgument 0 ∷ form.FunctionArgument 1 ∷ form.ZeroValue 2 ∷ sample_of ∷ []) []
    (both (Leaf (Emit 3 4)) (Leaf (Return (Some 3))))

-- calls `taking_both` with its argument and the global sampler
abbrev pub taking_the_image : Function
taking_the_image = function_with (argument 0 ∷ []) None (form.FunctionArgument 0 ∷ form.GlobalVariable 1 ∷ []) []
    (just (Leaf (Call 0 (0 ∷ 1 ∷ []) None)))

-- calls `taking_the_image` twice with the global image
abbrev pub calling_twice : Function
calling_twice = function_with [] None (form.GlobalVariable 0 ∷ []) [] (both (Leaf (Call 1 (0 ∷ []) None)) (Leaf (Call 1 (0 ∷ []) None)))

abbrev pub sampling_module : Module
sampling_module = module_with (map unnamed sampling_types) (resource 0 ∷ resource 1 ∷ [])
    (taking_both ∷ taking_the_image ∷ calling_twice ∷ [])

-- ---- a matrix that a whole subgroup has to load

abbrev pub matrix_load : Expression
matrix_load = form.CooperativeLoad cooperative.Eight cooperative.Eight role.A (record { pointer = 2; stride = 3; row_major = false })

abbrev pub matrix_expressions : List Expression
matrix_expressions = form.FunctionArgument 0 ∷ form.Literal (literal.I32 (pos 0)) ∷ form.GlobalVariable 0 ∷ number 8 ∷ matrix_load ∷ []

abbrev pub with_matrix : Body → Function
with_matrix body = function_with (argument 1 ∷ []) None matrix_expressions [] body

abbrev pub over_a_float : List Function → Module
over_a_float functions = module_with (map unnamed (type.Scalar (scalar kinds.Float 4) ∷ type.Scalar (scalar kinds.Bool 1) ∷ []))
    (storage 0 ∷ []) functions

-- some invocations return in the first case, which may fall into the second, where the matrix is loaded
abbrev pub switching : Bool → Function
switching falls = with_matrix (just (Switch 1
    (Case (value.I32 (pos 0)) (just (If 0 (just (Leaf (Return None))) End)) falls
    (Case value.Default (just (Leaf (Emit 4 5))) false NoCase))))

-- diagnostics of derivatives outside uniform flow are turned off
abbrev pub off : List DiagnosticFilterNode
off = record { severity = severity.Off; rule = rule.DerivativeUniformity; parent = None } ∷ []

abbrev pub filtered : Function → Function
filtered f = record f { diagnostic_filter_leaf = Some 0 }

abbrev pub exit_module : Bool → Module
exit_module falls = over_a_float (switching falls ∷ [])

abbrev pub exit_off_module : Module
exit_off_module = record (over_a_float (filtered (switching true) ∷ [])) { diagnostic_filters = off }

-- ---- an operand that is used five times

abbrev pub counts_module : Module
counts_module = module_with (map unnamed (type.Vector size.Tri (scalar kinds.Uint 4) ∷ [])) [] (
    function_with [] None (number 7 ∷ form.Binary operator.Add 0 0 ∷ form.Compose 0 (0 ∷ 0 ∷ 0 ∷ []) ∷ []) [] End ∷ [])

-- ---- a derivative in a branch

abbrev pub derivative_of_first : Expression
derivative_of_first = form.Derivative axis.X control.None 0

abbrev pub derivative_expressions : List Expression
derivative_expressions =
    number 0 ∷ derivative_of_first ∷ form.GlobalVariable 0 ∷ form.GlobalVariable 1 ∷ form.ArrayLength 3 ∷ form.AccessIndex 2 1 ∷ []

abbrev pub over_two_vectors : Function → Module
over_two_vectors f = module_with (map unnamed (type.Vector size.Bi (scalar kinds.Float 4) ∷ []))
    (resource 0 ∷ variable space.Uniform 0 ∷ []) (f ∷ [])

abbrev pub with_derivatives : Body → Function
with_derivatives body = function_with [] None derivative_expressions [] body

abbrev pub storing : Body
storing = both (Leaf (Emit 0 2)) (Leaf (Store 0 1))

-- a branch on a uniform condition, and one on a condition that varies
abbrev pub on_shared : Body
on_shared = both (Leaf (Emit 2 4)) (If 3 End storing)

abbrev pub on_varying : Body
on_varying = both (Leaf (Emit 2 4)) (If 2 storing End)

abbrev pub derivative_off_module : Module
derivative_off_module = record (over_two_vectors (filtered (with_derivatives on_varying))) { diagnostic_filters = off }

-- ---- by name

abbrev pub sample_module : Sample → Module
sample_module s.Named = named_module
sample_module s.Stored = stored_module
sample_module s.Sampling = sampling_module
sample_module s.Exit = exit_module true
sample_module s.NoFall = exit_module false
sample_module s.ExitOff = exit_off_module
sample_module s.Counts = counts_module
sample_module s.DerivativeUniform = over_two_vectors (with_derivatives on_shared)
sample_module s.Derivative = over_two_vectors (with_derivatives on_varying)
sample_module s.DerivativeOff = derivative_off_module
