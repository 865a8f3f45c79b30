-- Address spaces, and the accesses that they and storage images allow, in WGSL's words.
use Rattle.std.specs.Prelude.{◌==◌, ℕ, List, Bool, true, false, Option, Some, None, bit_and, codes}
use Rattle.shader_ir.specs.declared.flags.StorageAccess.{StorageAccess}
use Rattle.shader_ir.specs.declared.types.AddressSpace.{AddressSpace}
use Rattle.shader_ir.specs.declared.types.AddressSpace.TheVariants as spaces

-- true if a flag of one bit is set
abbrev pub is_set : ℕ → ℕ → Bool
is_set flags bit = bit_and flags bit == bit

abbrev pub accesses_word : (load store atomic : Bool) → List ℕ
accesses_word load store true = codes "atomic"
accesses_word true true false = codes "read_write"
accesses_word false true false = codes "write"
accesses_word true false false = codes "read"
accesses_word false false false = codes "read"

-- an access mode
abbrev pub access_word : StorageAccess → List ℕ
access_word access = accesses_word (is_set access.0 1) (is_set access.0 2) (is_set access.0 4)

abbrev pub space_word : AddressSpace → List ℕ
space_word spaces.Function = codes "function"
space_word spaces.Private = codes "private"
space_word spaces.WorkGroup = codes "workgroup"
space_word spaces.Uniform = codes "uniform"
space_word (spaces.Storage access) = codes "storage"
space_word spaces.Handle = codes "handle"
space_word spaces.Immediate = codes "immediate"
space_word spaces.TaskPayload = codes "task_payload"
space_word spaces.RayPayload = codes "ray_payload"
space_word spaces.IncomingRayPayload = codes "incoming_ray_payload"

-- the access mode that a space states, which storage alone does
abbrev pub stated_access : AddressSpace → Option (List ℕ)
stated_access (spaces.Storage access) = Some (access_word access)
stated_access _ = None
