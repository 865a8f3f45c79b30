-- Out of memory is one error, whatever the purpose of the allocation.
use Rattle.std.proofs.Common.{◌≡◌}
use Rattle.shader_resolve.specs.declared.error.ResolveError.{ResolveError}
use Rattle.shader_resolve.specs.declared.error.ResolveError.TheVariants.{OutOfMemory}
use Rattle.shader_resolve.specs.Outcome.{ForNothing, ForRules, ForWords, Memory, IsOutOfMemoryForType, IsOutOfMemory}

-- an allocation for a type is an allocation
pub for_type : (memory : Memory) (failure : ResolveError) → IsOutOfMemoryForType memory failure → IsOutOfMemory memory failure
for_type ForNothing failure out_of_memory = absurd out_of_memory
for_type ForWords failure out_of_memory = absurd out_of_memory
for_type ForRules failure out_of_memory = out_of_memory

pub wanted : (memory : Memory) (failure : ResolveError) → IsOutOfMemory memory failure → failure ≡ OutOfMemory
wanted ForNothing failure out_of_memory = absurd out_of_memory
wanted ForWords failure out_of_memory = out_of_memory
wanted ForRules failure out_of_memory = out_of_memory
