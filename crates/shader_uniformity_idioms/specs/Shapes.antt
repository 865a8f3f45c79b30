-- One module, in whose entry point the examples stand, with the functions that they call and what is known of these.
use Rattle.std.specs.Prelude.{ℕ, ◌+◌, Bool, true, false, List, [], ◌∷◌, Option, Some, None}
use Rattle.shader_ir.specs.Body.{Body, End, Then, Step, Leaf, If, Switch, Loop, NoCase, Case, Emit, Break, Continue}
use Rattle.shader_ir.specs.Body.{Return, Kill, ControlBarrier, MemoryBarrier, Store, Atomic, WorkGroupUniformLoad, Call, RayQuery}
use Rattle.shader_ir.specs.Body.{RayPipeline, SubgroupBallot, SubgroupGather, SubgroupCollectiveOperation, CooperativeStore}
use Rattle.shader_ir.specs.declared.binding.Binding.{Binding}
use Rattle.shader_ir.specs.declared.binding.Binding.TheVariants as binding
use Rattle.shader_ir.specs.declared.binding.BuiltIn.TheVariants as built_in
use Rattle.shader_ir.specs.declared.expression.CooperativeData.{CooperativeData}
use Rattle.shader_ir.specs.declared.expression.Expression.{Expression}
use Rattle.shader_ir.specs.declared.expression.Expression.TheVariants as form
use Rattle.shader_ir.specs.declared.expression.SampleLevel.{SampleLevel}
use Rattle.shader_ir.specs.declared.expression.SampleLevel.TheVariants as level
use Rattle.shader_ir.specs.declared.function.Function.{Function}
use Rattle.shader_ir.specs.declared.function.FunctionArgument.{FunctionArgument}
use Rattle.shader_ir.specs.declared.flags.StorageAccess.{StorageAccess}
use Rattle.shader_ir.specs.declared.image.ImageClass.TheVariants as class
use Rattle.shader_ir.specs.declared.image.ImageDimension.TheVariants as dimension
use Rattle.shader_ir.specs.declared.image.StorageFormat.TheVariants as texels
use Rattle.shader_ir.specs.declared.«module».DiagnosticFilterNode.{DiagnosticFilterNode}
use Rattle.shader_ir.specs.declared.«module».DiagnosticRule.TheVariants as rule
use Rattle.shader_ir.specs.declared.«module».GlobalVariable.{GlobalVariable}
use Rattle.shader_ir.specs.declared.«module».Module.{Module}
use Rattle.shader_ir.specs.declared.«module».Severity.TheVariants as severity
use Rattle.shader_ir.specs.declared.operators.BinaryOperator.TheVariants as operator
use Rattle.shader_ir.specs.declared.operators.DerivativeAxis.TheVariants as axis
use Rattle.shader_ir.specs.declared.operators.DerivativeControl.TheVariants as control
use Rattle.shader_ir.specs.declared.scalar.CooperativeRole.TheVariants as role
use Rattle.shader_ir.specs.declared.scalar.CooperativeSize.TheVariants as cooperative
use Rattle.shader_ir.specs.declared.scalar.ScalarKind.TheVariants as kinds
use Rattle.shader_ir.specs.declared.statement.AtomicFunction.TheVariants as atomic
use Rattle.shader_ir.specs.declared.statement.CollectiveOperation.TheVariants as collective
use Rattle.shader_ir.specs.declared.statement.GatherMode.TheVariants as gather
use Rattle.shader_ir.specs.declared.statement.RayPipelineFunction.TheVariants.{TraceRay}
use Rattle.shader_ir.specs.declared.statement.RayQueryFunction.{RayQueryFunction}
use Rattle.shader_ir.specs.declared.statement.SubgroupOperation.TheVariants as subgroup
use Rattle.shader_ir.specs.declared.statement.SwitchValue.TheVariants as value
use Rattle.shader_ir.specs.declared.types.AddressSpace.{AddressSpace}
use Rattle.shader_ir.specs.declared.types.AddressSpace.TheVariants as space
use Rattle.shader_ir.specs.declared.types.ArraySize.TheVariants as size
use Rattle.shader_ir.specs.declared.types.«Type».{«Type»}
use Rattle.shader_ir.specs.declared.types.TypeInner.{TypeInner}
use Rattle.shader_ir.specs.declared.types.TypeInner.TheVariants as type
use Rattle.shader_uniformity.specs.Marks.{leads}
use Rattle.shader_uniformity.specs.declared.facts.Fact.TheVariants as fact
use Rattle.shader_uniformity.specs.declared.facts.Rule.{Rule}

-- ---- the expressions of each function, by their numbers

-- the first argument. Of the entry point it differs, and of a function it is what is passed
abbrev pub first : ℕ
first = 0

-- the second one. Of the entry point it is the index of the work group
abbrev pub second : ℕ
second = 1

abbrev pub texture : ℕ
texture = 2

-- memory of the work group
abbrev pub shared : ℕ
shared = 3

-- a uniform buffer
abbrev pub settings : ℕ
settings = 4

-- a local variable, and what is loaded from it, from the memory and from the buffer
abbrev pub variable : ℕ
variable = 5

abbrev pub local : ℕ
local = 6

abbrev pub loaded : ℕ
loaded = 7

abbrev pub setting : ℕ
setting = 8

-- a sample whose level is computed from neighbours, and one at level 0
abbrev pub sample : ℕ
sample = 9

abbrev pub sample_at_level : ℕ
sample_at_level = 10

-- the derivative of the second argument
abbrev pub slope : ℕ
slope = 11

-- the sum of both arguments, and of the second one and the setting
abbrev pub sum : ℕ
sum = 12

abbrev pub fixed_sum : ℕ
fixed_sum = 13

-- the results of a call, of a uniform load and of an atomic
abbrev pub result : ℕ
result = 14

abbrev pub given : ℕ
given = 15

abbrev pub previous : ℕ
previous = 16

-- how much the memory holds
abbrev pub extent : ℕ
extent = 17

-- the part of the local variable at an index that differs, at one that doesn't, and a place of the memory that differs
abbrev pub some_part : ℕ
some_part = 18

abbrev pub one_part : ℕ
one_part = 19

abbrev pub some_place : ℕ
some_place = 20

-- a sample at a level with a bias
abbrev pub biased_sample : ℕ
biased_sample = 21

-- an image whose texels are written, an array of such images, storage buffers that are written and that aren't, immediate data, and a
-- private variable
abbrev pub written_image : ℕ
written_image = 22

abbrev pub written_images : ℕ
written_images = 23

abbrev pub written_buffer : ℕ
written_buffer = 24

abbrev pub read_buffer : ℕ
read_buffer = 25

abbrev pub immediate : ℕ
immediate = 26

abbrev pub private : ℕ
private = 27

-- a texel of the written image, of the texture, and of one of the array; values of the buffers, the immediate data, the private variable
abbrev pub written_texel : ℕ
written_texel = 28

abbrev pub texel : ℕ
texel = 29

abbrev pub one_image : ℕ
one_image = 30

abbrev pub texel_of_one : ℕ
texel_of_one = 31

abbrev pub from_written : ℕ
from_written = 32

abbrev pub from_read : ℕ
from_read = 33

abbrev pub from_immediate : ℕ
from_immediate = 34

abbrev pub from_private : ℕ
from_private = 35

-- a member of the uniform buffer and one of the memory, and their values
abbrev pub setting_member : ℕ
setting_member = 36

abbrev pub from_settings : ℕ
from_settings = 37

abbrev pub shared_member : ℕ
shared_member = 38

abbrev pub from_shared : ℕ
from_shared = 39

-- what a ray query in the local variable found, and a matrix of a subgroup, loaded from it and computed
abbrev pub vertices : ℕ
vertices = 40

abbrev pub intersection : ℕ
intersection = 41

abbrev pub matrix : ℕ
matrix = 42

abbrev pub product : ℕ
product = 43

-- what the first argument points to
abbrev pub pointed : ℕ
pointed = 44

-- another local variable, and its value
abbrev pub other_variable : ℕ
other_variable = 45

abbrev pub other_local : ℕ
other_local = 46

abbrev pub tile_in : (pointer : ℕ) → CooperativeData
tile_in pointer = record { pointer = pointer; stride = second; row_major = false }

abbrev pub sampled_at : SampleLevel → (coordinate : ℕ) → Expression
sampled_at level coordinate = form.ImageSample texture texture None false coordinate None None level None

abbrev pub expressions : List Expression
expressions =
    form.FunctionArgument 0 ∷ form.FunctionArgument 1 ∷ form.GlobalVariable 0 ∷ form.GlobalVariable 1 ∷ form.GlobalVariable 2
    ∷ form.LocalVariable 0 ∷ form.Load variable ∷ form.Load shared ∷ form.Load settings ∷ sampled_at level.Auto first
    ∷ sampled_at level.Zero second ∷ form.Derivative axis.X control.None second ∷ form.Binary operator.Add first second
    ∷ form.Binary operator.Add second setting ∷ form.CallResult 0 ∷ form.WorkGroupUniformLoadResult 0 ∷ form.AtomicResult 0 false
    ∷ form.ArrayLength shared ∷ form.Access variable first ∷ form.Access variable second ∷ form.Access shared first
    ∷ sampled_at (level.Bias second) second ∷ form.GlobalVariable 3 ∷ form.GlobalVariable 4 ∷ form.GlobalVariable 5 ∷ form.GlobalVariable 6
    ∷ form.GlobalVariable 7 ∷ form.GlobalVariable 8 ∷ form.ImageLoad written_image second None None None
    ∷ form.ImageLoad texture second None None None ∷ form.Access written_images second ∷ form.ImageLoad one_image second None None None
    ∷ form.Load written_buffer ∷ form.Load read_buffer ∷ form.Load immediate ∷ form.Load private ∷ form.AccessIndex settings 0
    ∷ form.Load setting_member ∷ form.AccessIndex shared 0 ∷ form.Load shared_member ∷ form.RayQueryVertexPositions variable true
    ∷ form.RayQueryGetIntersection variable true
    ∷ form.CooperativeLoad cooperative.Eight cooperative.Eight role.A (tile_in variable)
    ∷ form.CooperativeMultiplyAdd second second second ∷ form.Load first ∷ form.LocalVariable 1 ∷ form.Load other_variable ∷ []

-- ---- statements

abbrev pub block : List Step → Body
block [] = End
block (step ∷ steps) = Then step (block steps)

-- where a condition holds, and nothing otherwise
abbrev pub when : ℕ → List Step → Step
when condition steps = If condition (block steps) End

-- rounds without an end
abbrev pub rounds : List Step → Step
rounds steps = Loop (block steps) End None

abbrev pub emit : ℕ → Step
emit expression = Leaf (Emit expression (expression + 1))

abbrev pub store : (pointer value : ℕ) → Step
store pointer value = Leaf (Store pointer value)

abbrev pub barrier : Step
barrier = Leaf (ControlBarrier (record { 0 = 2 }))

abbrev pub memory_barrier : Step
memory_barrier = Leaf (MemoryBarrier (record { 0 = 2 }))

abbrev pub add_to : (pointer value : ℕ) → Step
add_to pointer value = Leaf (Atomic pointer atomic.Add value previous)

abbrev pub load_for_all : ℕ → Step
load_for_all pointer = Leaf (WorkGroupUniformLoad pointer given)

abbrev pub leave : Step
leave = Leaf (Return None)

abbrev pub stop : Step
stop = Leaf Break

abbrev pub go_on : Step
go_on = Leaf Continue

abbrev pub discard : Step
discard = Leaf Kill

abbrev pub call : (function first second : ℕ) → Step
call function first second = Leaf (Call function (first ∷ second ∷ []) (Some result))

-- a switch of two cases, of which the first one may fall through
abbrev pub switch : (selector : ℕ) → List Step → Bool → List Step → Step
switch selector one falls other =
    Switch selector (Case (value.U32 0) (block one) falls (Case value.Default (block other) false NoCase))

-- one of three cases, of which the first two fall through and the second one is empty
abbrev pub switch_of_three : (one other : List Step) → Step
switch_of_three one other =
    Switch second (Case (value.U32 0) (block one) true (Case (value.U32 1) End true (Case value.Default (block other) false NoCase)))

-- steps of a ray query, and a ray whose answer is stored
abbrev pub query_step : RayQueryFunction → Step
query_step function = Leaf (RayQuery variable function)

abbrev pub trace_ray : Step
trace_ray = Leaf (RayPipeline (TraceRay second second variable))

-- what a subgroup computes together
abbrev pub balloted : Step
balloted = Leaf (SubgroupBallot previous None)

abbrev pub gathered : Step
gathered = Leaf (SubgroupGather gather.BroadcastFirst second previous)

abbrev pub reduced : Step
reduced = Leaf (SubgroupCollectiveOperation subgroup.All collective.Reduce second previous)

abbrev pub store_matrix : (pointer value : ℕ) → Step
store_matrix pointer value = Leaf (CooperativeStore value (tile_in pointer))

-- ---- the module

abbrev pub bound_to : Option Binding → FunctionArgument
bound_to to = record { name = None; ty = 0; binding = to }

abbrev pub function_of : List FunctionArgument → Option ℕ → Body → Function
function_of arguments filter body = record {
  name = None;
  arguments = arguments;
  result = None;
  local_variables = [];
  expressions = expressions;
  named_expressions = [];
  body = body;
  diagnostic_filter_leaf = filter;
}

abbrev pub helper : List Step → Function
helper steps = function_of (bound_to None ∷ bound_to None ∷ []) None (block steps)

-- an entry point with a body, under a diagnostic filter or none
abbrev pub point_under : Option ℕ → List Step → Function
point_under filter steps =
    function_of (bound_to None ∷ bound_to (Some (binding.BuiltIn built_in.WorkGroupId)) ∷ []) filter (block steps)

abbrev pub point : List Step → Function
point steps = point_under None steps

abbrev pub global : AddressSpace → ℕ → GlobalVariable
global space ty = record { name = None; space = space; ty = ty; init = None }

abbrev pub unnamed : TypeInner → «Type»
unnamed inner = record { name = None; inner = inner }

-- what may be read of memory, and what may be read and written
abbrev pub reading : StorageAccess
reading = record { 0 = 1 }

abbrev pub writing : StorageAccess
writing = record { 0 = 3 }

-- the functions: one returns a derivative, one returns early, one stores by its first argument, one samples where its second one holds,
-- one returns what its first argument points to, one has a fault whoever calls it, and one stores what its first argument points to by its
-- second one
abbrev pub derives : ℕ
derives = 0

abbrev pub returns_early : ℕ
returns_early = 1

abbrev pub stores : ℕ
stores = 2

abbrev pub samples : ℕ
samples = 3

abbrev pub reads : ℕ
reads = 4

abbrev pub fails : ℕ
fails = 5

abbrev pub copies : ℕ
copies = 6

abbrev pub helpers : List Function
helpers =
    helper (emit slope ∷ Leaf (Return (Some slope)) ∷ [])
    ∷ helper (when first (Leaf (Return (Some texture)) ∷ []) ∷ Leaf (Return (Some settings)) ∷ [])
    ∷ helper (store first second ∷ []) ∷ helper (when second (emit sample ∷ []) ∷ [])
    ∷ helper (emit pointed ∷ Leaf (Return (Some pointed)) ∷ []) ∷ helper (emit slope ∷ when slope (barrier ∷ []) ∷ [])
    ∷ helper (emit pointed ∷ store second pointed ∷ []) ∷ []

-- filters in one another: one that lifts what a derivative needs, of another rule, and one that keeps it
abbrev pub lifting : Option ℕ → DiagnosticFilterNode
lifting parent = record { severity = severity.Off; rule = rule.DerivativeUniformity; parent = parent }

abbrev pub other : Option ℕ → DiagnosticFilterNode
other parent = record { severity = severity.Off; rule = rule.Other; parent = parent }

abbrev pub keeping : Option ℕ → DiagnosticFilterNode
keeping parent = record { severity = severity.Error; rule = rule.DerivativeUniformity; parent = parent }

abbrev pub shaders : Module
shaders = record {
  types =
      unnamed (type.Scalar (record { kind = kinds.Float; width = 4 }))
      ∷ unnamed (type.Image dimension.D2 false (class.Sampled kinds.Float false))
      ∷ unnamed (type.Image dimension.D2 false (class.Storage texels.R32Float writing)) ∷ unnamed (type.BindingArray 2 size.Dynamic) ∷ [];
  special_types = record { ray_intersection = None; ray_vertex_return = None; predeclared_types = [] };
  constants = [];
  overrides = [];
  global_variables =
      global space.Handle 1 ∷ global space.WorkGroup 0 ∷ global space.Uniform 0 ∷ global space.Handle 2 ∷ global space.Handle 3
      ∷ global (space.Storage writing) 0 ∷ global (space.Storage reading) 0 ∷ global space.Immediate 0 ∷ global space.Private 0 ∷ [];
  global_expressions = [];
  functions = helpers;
  entry_points = [];
  diagnostic_filters = lifting None ∷ other (Some 0) ∷ other None ∷ keeping (Some 0) ∷ [];
}

-- what each argument points to is left as it was, where nothing is stored
abbrev pub kept : ℕ → Rule
kept argument = leads (fact.Behind argument) (fact.Left argument)

-- what is known of the functions
abbrev pub known : List (List Rule)
known =
    (leads fact.Always fact.Gives ∷ leads fact.Flow fact.Must ∷ leads fact.Flow fact.Gives ∷ kept 0
    ∷ leads (fact.Argument 1) fact.Gives ∷ kept 1 ∷ [])
    ∷ (leads fact.Flow fact.Gives ∷ leads (fact.Argument 0) fact.Gives ∷ kept 0 ∷ kept 1 ∷ [])
    ∷ (leads fact.Flow (fact.Left 0) ∷ leads (fact.Argument 0) (fact.Left 0) ∷ kept 0 ∷ leads (fact.Argument 1) (fact.Left 0) ∷ kept 1 ∷ [])
    ∷ (leads fact.Flow fact.Must ∷ kept 0 ∷ leads (fact.Argument 1) fact.Must ∷ kept 1 ∷ [])
    ∷ (leads fact.Flow fact.Gives ∷ leads (fact.Argument 0) fact.Gives ∷ leads (fact.Behind 0) fact.Gives ∷ kept 0 ∷ kept 1 ∷ [])
    ∷ (leads fact.Always fact.Must ∷ leads fact.Flow fact.Must ∷ kept 0 ∷ leads (fact.Argument 1) fact.Must ∷ kept 1 ∷ [])
    ∷ (leads fact.Flow (fact.Left 1) ∷ leads (fact.Argument 0) (fact.Left 1) ∷ kept 0 ∷ leads (fact.Behind 0) (fact.Left 1)
    ∷ leads (fact.Argument 1) (fact.Left 1) ∷ kept 1 ∷ []) ∷ []
