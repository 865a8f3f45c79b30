-- The components of statements in the JSON of modules.
use Rattle.std.specs.Prelude.{◌≡◌, ℕ, List, [], ◌∷◌, Option, codes}
use Rattle.json.specs.Json.{Json, string}
use Rattle.shader_ir.specs.declared.flags.Barrier.{Barrier}
use Rattle.shader_ir.specs.declared.statement.AtomicFunction.{AtomicFunction}
use Rattle.shader_ir.specs.declared.statement.AtomicFunction.TheVariants as atomic
use Rattle.shader_ir.specs.declared.statement.CollectiveOperation.{CollectiveOperation}
use Rattle.shader_ir.specs.declared.statement.CollectiveOperation.TheVariants as collective
use Rattle.shader_ir.specs.declared.statement.Direction.{Direction}
use Rattle.shader_ir.specs.declared.statement.Direction.TheVariants as directions
use Rattle.shader_ir.specs.declared.statement.GatherMode.{GatherMode}
use Rattle.shader_ir.specs.declared.statement.GatherMode.TheVariants as modes
use Rattle.shader_ir.specs.declared.statement.RayPipelineFunction.{RayPipelineFunction}
use Rattle.shader_ir.specs.declared.statement.RayPipelineFunction.TheVariants as pipeline
use Rattle.shader_ir.specs.declared.statement.RayQueryFunction.{RayQueryFunction}
use Rattle.shader_ir.specs.declared.statement.RayQueryFunction.TheVariants as queries
use Rattle.shader_ir.specs.declared.statement.SubgroupOperation.{SubgroupOperation}
use Rattle.shader_ir.specs.declared.statement.SubgroupOperation.TheVariants as operations
use Rattle.shader_ir.specs.declared.statement.SwitchValue.{SwitchValue}
use Rattle.shader_ir.specs.declared.statement.SwitchValue.TheVariants as values
use Rattle.shader_json_reader.specs.Numbers.{AreFlags, IsHandle, IsI32, IsU32}
use Rattle.shader_json_reader.specs.Shapes.{IsVariant, IsUnit, IsNewtype, IsStruct, HasField, MayHaveField}

-- the flags of a barrier with their bits
abbrev pub barrier_rows : List (List ℕ × ℕ)
barrier_rows = (codes "STORAGE", 1) ∷ (codes "WORK_GROUP", 2) ∷ (codes "SUB_GROUP", 4) ∷ (codes "TEXTURE", 8) ∷ []

abbrev pub IsBarrier : Json → Barrier → Type 0
IsBarrier j barrier = AreFlags barrier_rows j barrier.0

abbrev pub direction_name : Direction → List ℕ
direction_name directions.X = codes "X"
direction_name directions.Y = codes "Y"
direction_name directions.Diagonal = codes "Diagonal"

abbrev pub IsDirection : Json → Direction → Type 0
IsDirection j direction = j ≡ string (direction_name direction)

abbrev pub operation_name : SubgroupOperation → List ℕ
operation_name operations.All = codes "All"
operation_name operations.Any = codes "Any"
operation_name operations.Add = codes "Add"
operation_name operations.Mul = codes "Mul"
operation_name operations.Min = codes "Min"
operation_name operations.Max = codes "Max"
operation_name operations.And = codes "And"
operation_name operations.Or = codes "Or"
operation_name operations.Xor = codes "Xor"

abbrev pub IsOperation : Json → SubgroupOperation → Type 0
IsOperation j op = j ≡ string (operation_name op)

abbrev pub collective_name : CollectiveOperation → List ℕ
collective_name collective.Reduce = codes "Reduce"
collective_name collective.InclusiveScan = codes "InclusiveScan"
collective_name collective.ExclusiveScan = codes "ExclusiveScan"

abbrev pub IsCollective : Json → CollectiveOperation → Type 0
IsCollective j op = j ≡ string (collective_name op)

abbrev pub IsSwitchValueOf : List ℕ → Option Json → SwitchValue → Type 0
IsSwitchValueOf name payload (values.I32 number) = IsNewtype (codes "I32") name payload (λ j. IsI32 j number)
IsSwitchValueOf name payload (values.U32 number) = IsNewtype (codes "U32") name payload (λ j. IsU32 j number)
IsSwitchValueOf name payload values.Default = IsUnit (codes "Default") name payload

abbrev pub IsSwitchValue : Json → SwitchValue → Type 0
IsSwitchValue j selected = IsVariant j (λ name payload. IsSwitchValueOf name payload selected)

abbrev pub IsAtomicOf : List ℕ → Option Json → AtomicFunction → Type 0
IsAtomicOf name payload atomic.Add = IsUnit (codes "Add") name payload
IsAtomicOf name payload atomic.Subtract = IsUnit (codes "Subtract") name payload
IsAtomicOf name payload atomic.And = IsUnit (codes "And") name payload
IsAtomicOf name payload atomic.ExclusiveOr = IsUnit (codes "ExclusiveOr") name payload
IsAtomicOf name payload atomic.InclusiveOr = IsUnit (codes "InclusiveOr") name payload
IsAtomicOf name payload atomic.Min = IsUnit (codes "Min") name payload
IsAtomicOf name payload atomic.Max = IsUnit (codes "Max") name payload
IsAtomicOf name payload (atomic.Exchange compare) = IsStruct (codes "Exchange") name payload
    (λ ms. MayHaveField IsHandle (codes "compare") ms compare)

abbrev pub IsAtomic : Json → AtomicFunction → Type 0
IsAtomic j fun = IsVariant j (λ name payload. IsAtomicOf name payload fun)

abbrev pub IsModeOf : List ℕ → Option Json → GatherMode → Type 0
IsModeOf name payload modes.BroadcastFirst = IsUnit (codes "BroadcastFirst") name payload
IsModeOf name payload (modes.Broadcast lane) = IsNewtype (codes "Broadcast") name payload (λ j. IsHandle j lane)
IsModeOf name payload (modes.Shuffle lane) = IsNewtype (codes "Shuffle") name payload (λ j. IsHandle j lane)
IsModeOf name payload (modes.ShuffleDown lane) = IsNewtype (codes "ShuffleDown") name payload (λ j. IsHandle j lane)
IsModeOf name payload (modes.ShuffleUp lane) = IsNewtype (codes "ShuffleUp") name payload (λ j. IsHandle j lane)
IsModeOf name payload (modes.ShuffleXor lane) = IsNewtype (codes "ShuffleXor") name payload (λ j. IsHandle j lane)
IsModeOf name payload (modes.QuadBroadcast lane) = IsNewtype (codes "QuadBroadcast") name payload (λ j. IsHandle j lane)
IsModeOf name payload (modes.QuadSwap direction) = IsNewtype (codes "QuadSwap") name payload (λ j. IsDirection j direction)

abbrev pub IsMode : Json → GatherMode → Type 0
IsMode j mode = IsVariant j (λ name payload. IsModeOf name payload mode)

abbrev pub IsQueryFunctionOf : List ℕ → Option Json → RayQueryFunction → Type 0
IsQueryFunctionOf name payload (queries.Initialize acceleration_structure descriptor) = IsStruct (codes "Initialize") name payload
    (λ ms. HasField IsHandle (codes "acceleration_structure") ms acceleration_structure
    × HasField IsHandle (codes "descriptor") ms descriptor)
IsQueryFunctionOf name payload (queries.Proceed result) = IsStruct (codes "Proceed") name payload
    (λ ms. HasField IsHandle (codes "result") ms result)
IsQueryFunctionOf name payload (queries.GenerateIntersection hit_t) = IsStruct (codes "GenerateIntersection") name payload
    (λ ms. HasField IsHandle (codes "hit_t") ms hit_t)
IsQueryFunctionOf name payload queries.ConfirmIntersection = IsUnit (codes "ConfirmIntersection") name payload
IsQueryFunctionOf name payload queries.Terminate = IsUnit (codes "Terminate") name payload

abbrev pub IsQueryFunction : Json → RayQueryFunction → Type 0
IsQueryFunction j fun = IsVariant j (λ name payload. IsQueryFunctionOf name payload fun)

abbrev pub IsPipelineFunctionOf : List ℕ → Option Json → RayPipelineFunction → Type 0
IsPipelineFunctionOf name payload (pipeline.TraceRay acceleration_structure descriptor ray) = IsStruct (codes "TraceRay") name payload
    (λ ms. HasField IsHandle (codes "acceleration_structure") ms acceleration_structure
    × HasField IsHandle (codes "descriptor") ms descriptor × HasField IsHandle (codes "payload") ms ray)

abbrev pub IsPipelineFunction : Json → RayPipelineFunction → Type 0
IsPipelineFunction j fun = IsVariant j (λ name payload. IsPipelineFunctionOf name payload fun)
