-- What statements consist of is determined by its JSON.
use Rattle.std.proofs.Common.{◌≡◌, ◌∙◌, ap, sym, refl, ℕ, List, [], ◌∷◌, Option, Some}
use Rattle.std.proofs.Common.{codes}
use Rattle.json.specs.Json.{Json}
use Rattle.shader_json_reader.specs.Numbers.{IsHandle, IsI32, IsU32}
use Rattle.shader_json_reader.specs.Shapes.{Determines}
use Rattle.shader_json_reader.proofs.NumberLemmas.{flags_same, handle_same, i32_same, u32_same}
use Rattle.shader_json_reader.proofs.ShapeLemmas.{apart, field, optional, newtype}
use Rattle.shader_json_reader.proofs.ShapeLemmas.{same_struct, same_variant, named, name_determines}
use Rattle.shader_ir.specs.declared.statement.AtomicFunction.{AtomicFunction}
use Rattle.shader_ir.specs.declared.statement.AtomicFunction.TheVariants as atomic
use Rattle.shader_ir.specs.declared.statement.CollectiveOperation.{CollectiveOperation}
use Rattle.shader_ir.specs.declared.statement.CollectiveOperation.TheVariants as collective
use Rattle.shader_ir.specs.declared.statement.Direction.{Direction}
use Rattle.shader_ir.specs.declared.statement.Direction.TheVariants as directions
use Rattle.shader_ir.specs.declared.statement.GatherMode.{GatherMode}
use Rattle.shader_ir.specs.declared.statement.GatherMode.TheVariants as modes
use Rattle.shader_ir.specs.declared.statement.RayPipelineFunction.{RayPipelineFunction}
use Rattle.shader_ir.specs.declared.statement.RayPipelineFunction.TheVariants as pipeline
use Rattle.shader_ir.specs.declared.statement.RayQueryFunction.{RayQueryFunction}
use Rattle.shader_ir.specs.declared.statement.RayQueryFunction.TheVariants as queries
use Rattle.shader_ir.specs.declared.statement.SubgroupOperation.{SubgroupOperation}
use Rattle.shader_ir.specs.declared.statement.SubgroupOperation.TheVariants as operations
use Rattle.shader_ir.specs.declared.statement.SwitchValue.{SwitchValue}
use Rattle.shader_ir.specs.declared.statement.SwitchValue.TheVariants as values
use Rattle.shader_json_functions.specs.Operations.{barrier_rows, IsBarrier, direction_name, IsDirection, operation_name, IsOperation}
use Rattle.shader_json_functions.specs.Operations.{collective_name, IsCollective, IsSwitchValueOf, IsSwitchValue, IsAtomicOf, IsAtomic}
use Rattle.shader_json_functions.specs.Operations.{IsModeOf, IsMode, IsQueryFunctionOf, IsQueryFunction, IsPipelineFunctionOf}
use Rattle.shader_json_functions.specs.Operations.{IsPipelineFunction}

pub barrier_same : Determines IsBarrier
barrier_same j x y u v = λ i. record { 0 = flags_same barrier_rows j x.0 y.0 u v i }

abbrev direction_all : List Direction
direction_all = directions.X ∷ directions.Y ∷ directions.Diagonal ∷ []

direction_found : (x : Direction) → named direction_name direction_all (direction_name x) ≡ Some x
direction_found directions.X = refl
direction_found x = refl

pub direction_same : Determines IsDirection
direction_same = name_determines direction_name direction_all direction_found

abbrev operation_all : List SubgroupOperation
operation_all = operations.All ∷ operations.Any ∷ operations.Add ∷ operations.Mul ∷ operations.Min ∷ operations.Max ∷ operations.And
    ∷ operations.Or ∷ operations.Xor ∷ []

operation_found : (x : SubgroupOperation) → named operation_name operation_all (operation_name x) ≡ Some x
operation_found operations.All = refl
operation_found x = refl

pub operation_same : Determines IsOperation
operation_same = name_determines operation_name operation_all operation_found

abbrev collective_all : List CollectiveOperation
collective_all = collective.Reduce ∷ collective.InclusiveScan ∷ collective.ExclusiveScan ∷ []

collective_found : (x : CollectiveOperation) → named collective_name collective_all (collective_name x) ≡ Some x
collective_found collective.Reduce = refl
collective_found x = refl

pub collective_same : Determines IsCollective
collective_same = name_determines collective_name collective_all collective_found

abbrev label_switch_value : SwitchValue → List ℕ
label_switch_value (values.I32 number) = codes "I32"
label_switch_value (values.U32 number) = codes "U32"
label_switch_value values.Default = codes "Default"

labelled_switch_value : (name : List ℕ) (payload : Option Json) (x : SwitchValue) → IsSwitchValueOf name payload x → name
    ≡ label_switch_value x
labelled_switch_value name payload (values.I32 number) u = u.0
labelled_switch_value name payload x u = u.0

switch_value_of : (name : List ℕ) (payload : Option Json) (x y : SwitchValue) → IsSwitchValueOf name payload x
    → IsSwitchValueOf name payload y → x ≡ y
switch_value_of name payload (values.I32 number) (values.I32 number′) u v = ap values.I32
    (newtype IsI32 i32_same payload number number′ u.1 v.1)
switch_value_of name payload (values.U32 number) (values.U32 number′) u v = ap values.U32
    (newtype IsU32 u32_same payload number number′ u.1 v.1)
switch_value_of name payload values.Default values.Default u v = refl
switch_value_of name payload x y u v = apart (label_switch_value x) (label_switch_value y) refl
    (sym (labelled_switch_value name payload x u) ∙ labelled_switch_value name payload y v)

pub switch_value_same : Determines IsSwitchValue
switch_value_same j x y u v = same_variant _ _ _ _ (λ name payload p q. switch_value_of name payload x y p q) j u v

abbrev pub label_atomic : AtomicFunction → List ℕ
label_atomic atomic.Add = codes "Add"
label_atomic atomic.Subtract = codes "Subtract"
label_atomic atomic.And = codes "And"
label_atomic atomic.ExclusiveOr = codes "ExclusiveOr"
label_atomic atomic.InclusiveOr = codes "InclusiveOr"
label_atomic atomic.Min = codes "Min"
label_atomic atomic.Max = codes "Max"
label_atomic (atomic.Exchange compare) = codes "Exchange"

labelled_atomic : (name : List ℕ) (payload : Option Json) (x : AtomicFunction) → IsAtomicOf name payload x → name ≡ label_atomic x
labelled_atomic name payload atomic.Add u = u.0
labelled_atomic name payload x u = u.0

atomic_of : (name : List ℕ) (payload : Option Json) (x y : AtomicFunction) → IsAtomicOf name payload x → IsAtomicOf name payload y → x ≡ y
atomic_of name payload atomic.Add atomic.Add u v = refl
atomic_of name payload atomic.Subtract atomic.Subtract u v = refl
atomic_of name payload atomic.And atomic.And u v = refl
atomic_of name payload atomic.ExclusiveOr atomic.ExclusiveOr u v = refl
atomic_of name payload atomic.InclusiveOr atomic.InclusiveOr u v = refl
atomic_of name payload atomic.Min atomic.Min u v = refl
atomic_of name payload atomic.Max atomic.Max u v = refl
atomic_of name payload (atomic.Exchange compare) (atomic.Exchange compare′) u v = same_struct _ _ _ _
    (λ ms p q i. atomic.Exchange (optional IsHandle handle_same (codes "compare") ms compare compare′ p q i)) payload u.1 v.1
atomic_of name payload x y u v = apart (label_atomic x) (label_atomic y) refl
    (sym (labelled_atomic name payload x u) ∙ labelled_atomic name payload y v)

pub atomic_same : Determines IsAtomic
atomic_same j x y u v = same_variant _ _ _ _ (λ name payload p q. atomic_of name payload x y p q) j u v

abbrev pub label_mode : GatherMode → List ℕ
label_mode modes.BroadcastFirst = codes "BroadcastFirst"
label_mode (modes.Broadcast lane) = codes "Broadcast"
label_mode (modes.Shuffle lane) = codes "Shuffle"
label_mode (modes.ShuffleDown lane) = codes "ShuffleDown"
label_mode (modes.ShuffleUp lane) = codes "ShuffleUp"
label_mode (modes.ShuffleXor lane) = codes "ShuffleXor"
label_mode (modes.QuadBroadcast lane) = codes "QuadBroadcast"
label_mode (modes.QuadSwap direction) = codes "QuadSwap"

labelled_mode : (name : List ℕ) (payload : Option Json) (x : GatherMode) → IsModeOf name payload x → name ≡ label_mode x
labelled_mode name payload modes.BroadcastFirst u = u.0
labelled_mode name payload x u = u.0

mode_of : (name : List ℕ) (payload : Option Json) (x y : GatherMode) → IsModeOf name payload x → IsModeOf name payload y → x ≡ y
mode_of name payload modes.BroadcastFirst modes.BroadcastFirst u v = refl
mode_of name payload (modes.Broadcast lane) (modes.Broadcast lane′) u v = ap modes.Broadcast
    (newtype IsHandle handle_same payload lane lane′ u.1 v.1)
mode_of name payload (modes.Shuffle lane) (modes.Shuffle lane′) u v = ap modes.Shuffle
    (newtype IsHandle handle_same payload lane lane′ u.1 v.1)
mode_of name payload (modes.ShuffleDown lane) (modes.ShuffleDown lane′) u v = ap modes.ShuffleDown
    (newtype IsHandle handle_same payload lane lane′ u.1 v.1)
mode_of name payload (modes.ShuffleUp lane) (modes.ShuffleUp lane′) u v = ap modes.ShuffleUp
    (newtype IsHandle handle_same payload lane lane′ u.1 v.1)
mode_of name payload (modes.ShuffleXor lane) (modes.ShuffleXor lane′) u v = ap modes.ShuffleXor
    (newtype IsHandle handle_same payload lane lane′ u.1 v.1)
mode_of name payload (modes.QuadBroadcast lane) (modes.QuadBroadcast lane′) u v = ap modes.QuadBroadcast
    (newtype IsHandle handle_same payload lane lane′ u.1 v.1)
mode_of name payload (modes.QuadSwap direction) (modes.QuadSwap direction′) u v = ap modes.QuadSwap
    (newtype IsDirection direction_same payload direction direction′ u.1 v.1)
mode_of name payload x y u v = apart (label_mode x) (label_mode y) refl
    (sym (labelled_mode name payload x u) ∙ labelled_mode name payload y v)

pub mode_same : Determines IsMode
mode_same j x y u v = same_variant _ _ _ _ (λ name payload p q. mode_of name payload x y p q) j u v

abbrev pub label_query_function : RayQueryFunction → List ℕ
label_query_function (queries.Initialize acceleration_structure descriptor) = codes "Initialize"
label_query_function (queries.Proceed result) = codes "Proceed"
label_query_function (queries.GenerateIntersection hit_t) = codes "GenerateIntersection"
label_query_function queries.ConfirmIntersection = codes "ConfirmIntersection"
label_query_function queries.Terminate = codes "Terminate"

labelled_query_function : (name : List ℕ) (payload : Option Json) (x : RayQueryFunction) → IsQueryFunctionOf name payload x → name
    ≡ label_query_function x
labelled_query_function name payload (queries.Initialize acceleration_structure descriptor) u = u.0
labelled_query_function name payload x u = u.0

query_function_of : (name : List ℕ) (payload : Option Json) (x y : RayQueryFunction) → IsQueryFunctionOf name payload x
    → IsQueryFunctionOf name payload y → x ≡ y
query_function_of name payload (queries.Initialize acceleration_structure descriptor)
    (queries.Initialize acceleration_structure′ descriptor′) u v = same_struct _ _ _ _
    (λ ms p q i. queries.Initialize (field IsHandle handle_same
    (codes "acceleration_structure") ms acceleration_structure acceleration_structure′ p.0 q.0 i)
    (field IsHandle handle_same (codes "descriptor") ms descriptor descriptor′ p.1 q.1 i)) payload u.1 v.1
query_function_of name payload (queries.Proceed result) (queries.Proceed result′) u v = same_struct _ _ _ _
    (λ ms p q i. queries.Proceed (field IsHandle handle_same (codes "result") ms result result′ p q i)) payload u.1 v.1
query_function_of name payload (queries.GenerateIntersection hit_t) (queries.GenerateIntersection hit_t′) u v = same_struct _ _ _ _
    (λ ms p q i. queries.GenerateIntersection (field IsHandle handle_same (codes "hit_t") ms hit_t hit_t′ p q i)) payload u.1 v.1
query_function_of name payload queries.ConfirmIntersection queries.ConfirmIntersection u v = refl
query_function_of name payload queries.Terminate queries.Terminate u v = refl
query_function_of name payload x y u v = apart (label_query_function x) (label_query_function y) refl
    (sym (labelled_query_function name payload x u) ∙ labelled_query_function name payload y v)

pub query_function_same : Determines IsQueryFunction
query_function_same j x y u v = same_variant _ _ _ _ (λ name payload p q. query_function_of name payload x y p q) j u v

abbrev label_pipeline_function : RayPipelineFunction → List ℕ
label_pipeline_function (pipeline.TraceRay acceleration_structure descriptor ray) = codes "TraceRay"

labelled_pipeline_function : (name : List ℕ) (payload : Option Json) (x : RayPipelineFunction) → IsPipelineFunctionOf name payload x
    → name ≡ label_pipeline_function x
labelled_pipeline_function name payload (pipeline.TraceRay acceleration_structure descriptor ray) u = u.0

pipeline_function_of : (name : List ℕ) (payload : Option Json) (x y : RayPipelineFunction) → IsPipelineFunctionOf name payload x
    → IsPipelineFunctionOf name payload y → x ≡ y
pipeline_function_of name payload (pipeline.TraceRay acceleration_structure descriptor ray)
    (pipeline.TraceRay acceleration_structure′ descriptor′ ray′) u v = same_struct _ _ _ _
    (λ ms p q i. pipeline.TraceRay (field IsHandle handle_same
    (codes "acceleration_structure") ms acceleration_structure acceleration_structure′ p.0 q.0 i)
    (field IsHandle handle_same (codes "descriptor") ms descriptor descriptor′ p.1 q.1 i)
    (field IsHandle handle_same (codes "payload") ms ray ray′ p.2 q.2 i)) payload u.1 v.1

pub pipeline_function_same : Determines IsPipelineFunction
pipeline_function_same j x y u v = same_variant _ _ _ _ (λ name payload p q. pipeline_function_of name payload x y p q) j u v
