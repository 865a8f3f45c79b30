-- The built-in functions that statements call, as WGSL spells them.
use Rattle.std.specs.Prelude.{◌==◌, ◌++◌, ℕ, List, [], Some, None, bit_and, codes, if◌then◌else◌}
use Rattle.shader_ir.specs.declared.flags.Barrier.{Barrier}
use Rattle.shader_ir.specs.declared.statement.AtomicFunction.{AtomicFunction}
use Rattle.shader_ir.specs.declared.statement.AtomicFunction.TheVariants as atomic
use Rattle.shader_ir.specs.declared.statement.CollectiveOperation.{CollectiveOperation}
use Rattle.shader_ir.specs.declared.statement.CollectiveOperation.TheVariants as scans
use Rattle.shader_ir.specs.declared.statement.Direction.TheVariants as directions
use Rattle.shader_ir.specs.declared.statement.GatherMode.{GatherMode}
use Rattle.shader_ir.specs.declared.statement.GatherMode.TheVariants as gather
use Rattle.shader_ir.specs.declared.statement.SubgroupOperation.{SubgroupOperation}
use Rattle.shader_ir.specs.declared.statement.SubgroupOperation.TheVariants as operations

abbrev pub atomic_word : AtomicFunction → List ℕ
atomic_word atomic.Add = codes "atomicAdd"
atomic_word atomic.Subtract = codes "atomicSub"
atomic_word atomic.And = codes "atomicAnd"
atomic_word atomic.ExclusiveOr = codes "atomicXor"
atomic_word atomic.InclusiveOr = codes "atomicOr"
atomic_word atomic.Min = codes "atomicMin"
atomic_word atomic.Max = codes "atomicMax"
atomic_word (atomic.Exchange None) = codes "atomicExchange"
atomic_word (atomic.Exchange (Some compare)) = codes "atomicCompareExchangeWeak"

abbrev pub image_atomic_word : AtomicFunction → List ℕ
image_atomic_word atomic.Add = codes "textureAtomicAdd"
image_atomic_word atomic.Subtract = codes "textureAtomicSub"
image_atomic_word atomic.And = codes "textureAtomicAnd"
image_atomic_word atomic.ExclusiveOr = codes "textureAtomicXor"
image_atomic_word atomic.InclusiveOr = codes "textureAtomicOr"
image_atomic_word atomic.Min = codes "textureAtomicMin"
image_atomic_word atomic.Max = codes "textureAtomicMax"
image_atomic_word (atomic.Exchange None) = codes "textureAtomicExchange"
image_atomic_word (atomic.Exchange (Some compare)) = codes "textureAtomicCompareExchangeWeak"

abbrev pub gather_word : GatherMode → List ℕ
gather_word gather.BroadcastFirst = codes "subgroupBroadcastFirst"
gather_word (gather.Broadcast index) = codes "subgroupBroadcast"
gather_word (gather.Shuffle index) = codes "subgroupShuffle"
gather_word (gather.ShuffleDown delta) = codes "subgroupShuffleDown"
gather_word (gather.ShuffleUp delta) = codes "subgroupShuffleUp"
gather_word (gather.ShuffleXor mask) = codes "subgroupShuffleXor"
gather_word (gather.QuadBroadcast index) = codes "quadBroadcast"
gather_word (gather.QuadSwap directions.X) = codes "quadSwapX"
gather_word (gather.QuadSwap directions.Y) = codes "quadSwapY"
gather_word (gather.QuadSwap directions.Diagonal) = codes "quadSwapDiagonal"

abbrev pub scan_word : CollectiveOperation → List ℕ
scan_word scans.Reduce = []
scan_word scans.InclusiveScan = codes "Inclusive"
scan_word scans.ExclusiveScan = codes "Exclusive"

abbrev pub operation_word : SubgroupOperation → List ℕ
operation_word operations.All = codes "All"
operation_word operations.Any = codes "Any"
operation_word operations.Add = codes "Add"
operation_word operations.Mul = codes "Mul"
operation_word operations.Min = codes "Min"
operation_word operations.Max = codes "Max"
operation_word operations.And = codes "And"
operation_word operations.Or = codes "Or"
operation_word operations.Xor = codes "Xor"

abbrev pub collective_text : SubgroupOperation → CollectiveOperation → List ℕ
collective_text op collective_op = codes "subgroup" ++ scan_word collective_op ++ operation_word op

-- the name of a flag that is set, with a bar in front if a lower flag is set too
unfoldable pub flag_word : ℕ → ℕ → ℕ → List ℕ → List ℕ → List ℕ
flag_word flags lower bit name barred = if bit_and flags bit == 0 then [] else (if bit_and flags lower == 0 then name else barred)

abbrev pub flags_text : ℕ → List ℕ
flags_text flags = flag_word flags 0 1 (codes "STORAGE") [] ++ (flag_word flags 1 2 (codes "WORK_GROUP") (codes " | WORK_GROUP")
    ++ (flag_word flags 3 4 (codes "SUB_GROUP") (codes " | SUB_GROUP") ++ flag_word flags 7 8 (codes "TEXTURE") (codes " | TEXTURE")))

abbrev pub barrier_text : Barrier → List ℕ
barrier_text barrier = if barrier.0 == 1 then codes "storageBarrier()" else (if barrier.0 == 2 then codes "workgroupBarrier()"
    else (if barrier.0 == 4 then codes "subgroupBarrier()" else (if barrier.0 == 8 then codes "textureBarrier()"
    else codes "controlBarrier(" ++ flags_text barrier.0 ++ codes ")")))

abbrev pub memory_barrier_text : Barrier → List ℕ
memory_barrier_text barrier = codes "memoryBarrier(" ++ flags_text barrier.0 ++ codes ")"
