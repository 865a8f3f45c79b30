-- The operands of expressions and statements, with their labels.
use Rattle.std.specs.Prelude.{ℕ, List, [], ◌∷◌, Option, Some, None}
use Rattle.shader_ir.specs.Slots.{retained, read, read_optional, reads}
use Rattle.shader_ir.specs.Body.{Simple, Return, Store, ImageStore, Atomic, ImageAtomic, WorkGroupUniformLoad}
use Rattle.shader_ir.specs.Body.{Call, RayQuery, RayPipeline, SubgroupBallot, SubgroupGather, SubgroupCollectiveOperation}
use Rattle.shader_ir.specs.Body.{CooperativeStore, Step, Leaf, If, Switch, Loop}
use Rattle.shader_ir.specs.declared.proc.operands.Label.{Label}
use Rattle.shader_ir.specs.declared.proc.operands.Label.TheVariants.{Part, Write, ReadWrite, Query}
use Rattle.shader_ir.specs.declared.proc.operands.Label.TheVariants as label
use Rattle.shader_ir.specs.declared.expression.SampleLevel.{SampleLevel}
use Rattle.shader_ir.specs.declared.expression.SampleLevel.TheVariants.{Exact, Bias, Gradient}
use Rattle.shader_ir.specs.declared.expression.ImageQuery.TheVariants.{Size}
use Rattle.shader_ir.specs.declared.expression.ImageQuery as query
use Rattle.shader_ir.specs.declared.expression.Expression.{Expression}
use Rattle.shader_ir.specs.declared.expression.Expression.TheVariants.{Compose, Access, AccessIndex, Splat, Swizzle, Load, ImageSample}
use Rattle.shader_ir.specs.declared.expression.Expression.TheVariants.{ImageLoad, ImageQuery, Unary, Binary, Select, Derivative, Relational}
use Rattle.shader_ir.specs.declared.expression.Expression.TheVariants.{Math, As, ArrayLength, RayQueryVertexPositions}
use Rattle.shader_ir.specs.declared.expression.Expression.TheVariants.{RayQueryGetIntersection, CooperativeLoad, CooperativeMultiplyAdd}
use Rattle.shader_ir.specs.declared.statement.AtomicFunction.{AtomicFunction}
use Rattle.shader_ir.specs.declared.statement.AtomicFunction.TheVariants.{Exchange}
use Rattle.shader_ir.specs.declared.statement.GatherMode.{GatherMode}
use Rattle.shader_ir.specs.declared.statement.GatherMode.TheVariants.{Broadcast, Shuffle, ShuffleDown, ShuffleUp, ShuffleXor, QuadBroadcast}
use Rattle.shader_ir.specs.declared.statement.RayQueryFunction.{RayQueryFunction}
use Rattle.shader_ir.specs.declared.statement.RayQueryFunction.TheVariants.{Initialize, GenerateIntersection}
use Rattle.shader_ir.specs.declared.statement.RayPipelineFunction.TheVariants.{TraceRay}

-- the one handle of a level, or the first of a gradient
abbrev pub level_handle : SampleLevel → Option ℕ
level_handle (Exact expression) = Some expression
level_handle (Bias expression) = Some expression
level_handle (Gradient x y) = Some x
level_handle _ = None

-- the second handle of a gradient
abbrev pub gradient_y : SampleLevel → Option ℕ
gradient_y (Gradient x y) = Some y
gradient_y _ = None

-- the operands of a level, of which a gradient has two
abbrev pub level_operands : SampleLevel → List (Option (ℕ × Label))
level_operands level = read_optional (level_handle level) ∷ read_optional (gradient_y level) ∷ []

-- the level whose size is queried
abbrev pub query_level : query.ImageQuery → Option ℕ
query_level (Size level) = level
query_level _ = None

-- the value that an exchange compares with
abbrev pub exchange_compare : AtomicFunction → Option ℕ
exchange_compare (Exchange compare) = compare
exchange_compare _ = None

-- the handle of a gather mode
abbrev pub gather_index : GatherMode → Option ℕ
gather_index (Broadcast index) = Some index
gather_index (Shuffle index) = Some index
gather_index (ShuffleDown index) = Some index
gather_index (ShuffleUp index) = Some index
gather_index (ShuffleXor index) = Some index
gather_index (QuadBroadcast index) = Some index
gather_index _ = None

-- the operands of an expression
abbrev pub expression_operands : Expression → List (ℕ × Label)
expression_operands (Compose ty components) = reads components
expression_operands (Access base index) = retained (Some (base, Part) ∷ read index ∷ [])
expression_operands (AccessIndex base index) = retained (Some (base, Part) ∷ [])
expression_operands (Splat size value) = retained (read value ∷ [])
expression_operands (Swizzle size vector pattern) = retained (read vector ∷ [])
expression_operands (Load pointer) = retained (read pointer ∷ [])
expression_operands (ImageSample image sampler gather clamp_to_edge coordinate array_index offset level depth_ref) =
    retained (read image ∷ read sampler ∷ read coordinate ∷ read_optional array_index ∷ read_optional depth_ref ∷ read_optional offset
    ∷ level_operands level)
expression_operands (ImageLoad image coordinate array_index sample level) =
    retained (read image ∷ read coordinate ∷ read_optional array_index ∷ read_optional sample ∷ read_optional level ∷ [])
expression_operands (ImageQuery image query) = retained (Some (image, Query) ∷ read_optional (query_level query) ∷ [])
expression_operands (Unary op expr) = retained (read expr ∷ [])
expression_operands (Binary op left right) = retained (read left ∷ read right ∷ [])
expression_operands (Select condition accept reject) = retained (read condition ∷ read accept ∷ read reject ∷ [])
expression_operands (Derivative axis ctrl expr) = retained (read expr ∷ [])
expression_operands (Relational fun argument) = retained (read argument ∷ [])
expression_operands (Math fun arg arg1 arg2 arg3) = retained (read arg ∷ read_optional arg1 ∷ read_optional arg2 ∷ read_optional arg3 ∷ [])
expression_operands (As expr kind convert) = retained (read expr ∷ [])
expression_operands (ArrayLength array) = retained (Some (array, Query) ∷ [])
expression_operands (RayQueryVertexPositions query committed) = retained (read query ∷ [])
expression_operands (RayQueryGetIntersection query committed) = retained (read query ∷ [])
expression_operands (CooperativeLoad columns rows role tile) = retained (read tile.pointer ∷ read tile.stride ∷ [])
expression_operands (CooperativeMultiplyAdd a b c) = retained (read a ∷ read b ∷ read c ∷ [])
expression_operands _ = []

-- the operands of a ray query step, without the query itself
abbrev pub ray_query_operands : RayQueryFunction → List (Option (ℕ × Label))
ray_query_operands (Initialize acceleration_structure descriptor) = read acceleration_structure ∷ read descriptor ∷ []
ray_query_operands (GenerateIntersection hit_t) = read hit_t ∷ []
ray_query_operands _ = []

-- the operands of a statement that contains no block
abbrev pub simple_operands : Simple → List (ℕ × Label)
simple_operands (Return value) = retained (read_optional value ∷ [])
simple_operands (Store pointer value) = retained (Some (pointer, Write) ∷ read value ∷ [])
simple_operands (ImageStore image coordinate array_index value) =
    retained (Some (image, Write) ∷ read coordinate ∷ read_optional array_index ∷ read value ∷ [])
simple_operands (Atomic pointer fun value result) = retained
    (Some (pointer, ReadWrite) ∷ read value ∷ read_optional (exchange_compare fun) ∷ [])
simple_operands (ImageAtomic image coordinate array_index fun value) =
    retained (Some (image, label.Atomic) ∷ read coordinate ∷ read_optional array_index ∷ read value ∷ read_optional (exchange_compare fun) ∷
    [])
simple_operands (WorkGroupUniformLoad pointer result) = retained (read pointer ∷ [])
simple_operands (Call function arguments result) = reads arguments
simple_operands (RayQuery query fun) = retained (read query ∷ ray_query_operands fun)
simple_operands (RayPipeline (TraceRay acceleration_structure descriptor payload)) =
    retained (read acceleration_structure ∷ read descriptor ∷ read payload ∷ [])
simple_operands (SubgroupBallot result predicate) = retained (read_optional predicate ∷ [])
simple_operands (SubgroupGather mode argument result) = retained (read argument ∷ read_optional (gather_index mode) ∷ [])
simple_operands (SubgroupCollectiveOperation op collective_op argument result) = retained (read argument ∷ [])
simple_operands (CooperativeStore target tile) = retained (read target ∷ Some (tile.pointer, Write) ∷ read tile.stride ∷ [])
simple_operands _ = []

-- the operands of a statement, without those of the blocks inside
abbrev pub statement_operands : Step → List (ℕ × Label)
statement_operands (Leaf simple) = simple_operands simple
statement_operands (If condition accept reject) = retained (read condition ∷ [])
statement_operands (Switch selector cases) = retained (read selector ∷ [])
statement_operands (Loop body continuing break_if) = retained (read_optional break_if ∷ [])
statement_operands _ = []

-- the expression reads texels of an image
abbrev pub TakesTexels : Expression → Type 0
TakesTexels (ImageSample image sampler gather clamp_to_edge coordinate array_index offset level depth_ref) = Unit {0}
TakesTexels (ImageLoad image coordinate array_index sample level) = Unit {0}
TakesTexels _ = ⊥

-- the expression computes one value from several
abbrev pub IsArithmetic : Expression → Type 0
IsArithmetic (Binary op left right) = Unit {0}
IsArithmetic (Select condition accept reject) = Unit {0}
IsArithmetic (Math fun arg arg1 arg2 arg3) = Unit {0}
IsArithmetic _ = ⊥

-- the statement writes a texel
abbrev pub WritesTexel : Step → Type 0
WritesTexel (Leaf (ImageStore image coordinate array_index value)) = Unit {0}
WritesTexel (Leaf (ImageAtomic image coordinate array_index fun value)) = Unit {0}
WritesTexel _ = ⊥

-- the statement writes to memory
abbrev pub WritesMemory : Step → Type 0
WritesMemory (Leaf (Store pointer value)) = Unit {0}
WritesMemory (Leaf (Atomic pointer fun value result)) = Unit {0}
WritesMemory (Leaf (CooperativeStore target tile)) = Unit {0}
WritesMemory _ = ⊥
