-- Groups of the variants of expressions and statements.
use Rattle.shader_ir.specs.Body.{Step, Leaf}
use Rattle.shader_ir.specs.Body as data'
use Rattle.shader_ir.specs.declared.expression.Expression.{Expression}
use Rattle.shader_ir.specs.declared.expression.Expression.TheVariants.{Literal, Constant, Override, ZeroValue, Compose, FunctionArgument}
use Rattle.shader_ir.specs.declared.expression.Expression.TheVariants.{GlobalVariable, LocalVariable, Access, AccessIndex, Splat, Swizzle}
use Rattle.shader_ir.specs.declared.expression.Expression.TheVariants.{Load, ArrayLength, ImageSample, ImageLoad, ImageQuery, Unary, Binary}
use Rattle.shader_ir.specs.declared.expression.Expression.TheVariants.{Derivative, Relational, As, Select, Math, CallResult, AtomicResult}
use Rattle.shader_ir.specs.declared.expression.Expression.TheVariants.{WorkGroupUniformLoadResult, RayQueryVertexPositions}
use Rattle.shader_ir.specs.declared.expression.Expression.TheVariants.{RayQueryProceedResult, RayQueryGetIntersection, SubgroupBallotResult}
use Rattle.shader_ir.specs.declared.expression.Expression.TheVariants.{SubgroupOperationResult, CooperativeLoad, CooperativeMultiplyAdd}

-- the expression is a literal or names a declared item
abbrev pub NamesDeclared : Expression → Type 0
NamesDeclared (Literal literal) = Unit {0}
NamesDeclared (Constant constant) = Unit {0}
NamesDeclared (Override declared) = Unit {0}
NamesDeclared (ZeroValue ty) = Unit {0}
NamesDeclared (FunctionArgument index) = Unit {0}
NamesDeclared (GlobalVariable variable) = Unit {0}
NamesDeclared (LocalVariable variable) = Unit {0}
NamesDeclared _ = ⊥

-- the expression accesses or spreads components of a value
abbrev pub TakesPart : Expression → Type 0
TakesPart (Access base index) = Unit {0}
TakesPart (AccessIndex base index) = Unit {0}
TakesPart (Splat size value) = Unit {0}
TakesPart (Swizzle size vector pattern) = Unit {0}
TakesPart (Load pointer) = Unit {0}
TakesPart (ArrayLength array) = Unit {0}
TakesPart _ = ⊥

-- the expression samples an image
abbrev pub SamplesImage : Expression → Type 0
SamplesImage (ImageSample image sampler gather clamp_to_edge coordinate array_index offset level depth_ref) = Unit {0}
SamplesImage _ = ⊥

-- the expression reads an image without a sampler
abbrev pub ReadsImage : Expression → Type 0
ReadsImage (ImageLoad image coordinate array_index sample level) = Unit {0}
ReadsImage (ImageQuery image query) = Unit {0}
ReadsImage _ = ⊥

-- the expression applies an operator
abbrev pub AppliesOperator : Expression → Type 0
AppliesOperator (Unary op expr) = Unit {0}
AppliesOperator (Binary op left right) = Unit {0}
AppliesOperator (Derivative axis ctrl expr) = Unit {0}
AppliesOperator (Relational fun argument) = Unit {0}
AppliesOperator (As expr kind convert) = Unit {0}
AppliesOperator _ = ⊥

-- the expression selects or calls a built-in function
abbrev pub SelectsOrCalls : Expression → Type 0
SelectsOrCalls (Select condition accept reject) = Unit {0}
SelectsOrCalls (Math fun arg arg1 arg2 arg3) = Unit {0}
SelectsOrCalls _ = ⊥

-- the expression stands for the result of a statement or the state of a ray query
abbrev pub IsResult : Expression → Type 0
IsResult (CallResult function) = Unit {0}
IsResult (AtomicResult ty comparison) = Unit {0}
IsResult (WorkGroupUniformLoadResult ty) = Unit {0}
IsResult (RayQueryVertexPositions query committed) = Unit {0}
IsResult RayQueryProceedResult = Unit {0}
IsResult (RayQueryGetIntersection query committed) = Unit {0}
IsResult SubgroupBallotResult = Unit {0}
IsResult (SubgroupOperationResult ty) = Unit {0}
IsResult _ = ⊥

-- the expression yields a cooperative matrix
abbrev pub IsCooperative : Expression → Type 0
IsCooperative (CooperativeLoad columns rows role tile) = Unit {0}
IsCooperative (CooperativeMultiplyAdd a b c) = Unit {0}
IsCooperative _ = ⊥

-- the expression contains no list of components
abbrev pub HoldsNoList : Expression → Type 0
HoldsNoList (Compose ty components) = ⊥
HoldsNoList _ = Unit {0}

-- the statement controls the flow or emits expressions
abbrev pub SteersFlow : Step → Type 0
SteersFlow (Leaf (data'.Emit start end)) = Unit {0}
SteersFlow (Leaf data'.Break) = Unit {0}
SteersFlow (Leaf data'.Continue) = Unit {0}
SteersFlow (Leaf (data'.Return value)) = Unit {0}
SteersFlow (Leaf data'.Kill) = Unit {0}
SteersFlow (Leaf (data'.ControlBarrier flags)) = Unit {0}
SteersFlow (Leaf (data'.MemoryBarrier flags)) = Unit {0}
SteersFlow _ = ⊥

-- the statement accesses memory or works on a ray
abbrev pub AccessesMemory : Step → Type 0
AccessesMemory (Leaf (data'.Store pointer value)) = Unit {0}
AccessesMemory (Leaf (data'.Atomic pointer fun value result)) = Unit {0}
AccessesMemory (Leaf (data'.WorkGroupUniformLoad pointer result)) = Unit {0}
AccessesMemory (Leaf (data'.CooperativeStore target tile)) = Unit {0}
AccessesMemory (Leaf (data'.RayQuery query fun)) = Unit {0}
AccessesMemory (Leaf (data'.RayPipeline fun)) = Unit {0}
AccessesMemory _ = ⊥

-- the invocations of a subgroup share values in the statement
abbrev pub SharesInSubgroup : Step → Type 0
SharesInSubgroup (Leaf (data'.SubgroupBallot result predicate)) = Unit {0}
SharesInSubgroup (Leaf (data'.SubgroupGather mode argument result)) = Unit {0}
SharesInSubgroup (Leaf (data'.SubgroupCollectiveOperation op collective_op argument result)) = Unit {0}
SharesInSubgroup _ = ⊥

-- the statement contains no block
abbrev pub HoldsNoBlock : Step → Type 0
HoldsNoBlock (Leaf simple) = Unit {0}
HoldsNoBlock _ = ⊥

-- the statement contains no block and no list of arguments
abbrev pub HoldsNoBlockOrList : Step → Type 0
HoldsNoBlockOrList (Leaf (data'.Call function arguments result)) = ⊥
HoldsNoBlockOrList (Leaf simple) = Unit {0}
HoldsNoBlockOrList _ = ⊥
