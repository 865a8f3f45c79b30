-- Flags as their names, separated by bars.
use Rattle.std.specs.Prelude.{◌==◌, ◌++◌, ℕ, Bool, List, [], ◌∷◌, bit_and, codes, if◌then◌else◌, map}
use Rattle.std.specs.Borrow.{Bor}
use Rattle.std.specs.List.{flat_map}
use Rattle.shader_info.specs.declared.flags.Capabilities.{Capabilities}
use Rattle.shader_info.specs.declared.flags.GlobalUse.{GlobalUse}
use Rattle.shader_info.specs.declared.flags.UniformityRequirements.{UniformityRequirements}
use Rattle.shader_ir.specs.declared.flags.ShaderStages.{ShaderStages}
use Rattle.shader_ir.specs.declared.flags.StorageAccess.{StorageAccess}

-- names and bits, without the references to the names
abbrev pub rows_of : List (Bor (List ℕ) × ℕ) → List (List ℕ × ℕ)
rows_of table = map (λ row. (row.0.now, row.1)) table

-- true if all bits of the flag are set
abbrev pub is_set : ℕ → ℕ → Bool
is_set flags bit = bit_and flags bit == bit

-- a flag's name after a bar, if the flag is set
abbrev pub name_after_bar : ℕ → List ℕ × ℕ → List ℕ
name_after_bar flags row = if is_set flags row.1 then codes " | " ++ row.0 else []

-- the names of the flags that are set, separated by bars
abbrev pub flags_text : List (List ℕ × ℕ) → ℕ → List ℕ
flags_text [] flags = []
flags_text (row ∷ rows) flags =
    if is_set flags row.1 then row.0 ++ flat_map (name_after_bar flags) rows else flags_text rows flags

unfoldable pub access_text : StorageAccess → List ℕ
access_text access = flags_text ((codes "LOAD", 1) ∷ (codes "STORE", 2) ∷ (codes "ATOMIC", 4) ∷ []) access.0

unfoldable pub requirements_text : UniformityRequirements → List ℕ
requirements_text requirements = flags_text
    ((codes "WORK_GROUP_BARRIER", 1) ∷ (codes "DERIVATIVE", 2) ∷ (codes "IMPLICIT_LEVEL", 4) ∷ (codes "COOP_OPS", 8) ∷ [])
    requirements.0

unfoldable pub uses_text : GlobalUse → List ℕ
uses_text uses = flags_text ((codes "READ", 1) ∷ (codes "WRITE", 2) ∷ (codes "QUERY", 4) ∷ (codes "ATOMIC", 8) ∷ []) uses.0

unfoldable pub stages_text : ShaderStages → List ℕ
stages_text stages = flags_text
    ((codes "VERTEX", 1) ∷ (codes "FRAGMENT", 2) ∷ (codes "COMPUTE", 4) ∷ (codes "MESH", 8) ∷ (codes "TASK", 16) ∷ []) stages.0

unfoldable pub capabilities_text : Capabilities → List ℕ
capabilities_text capabilities = flags_text ((codes "TEXTURE_AND_SAMPLER_BINDING_ARRAY_NON_UNIFORM_INDEXING", 1)
    ∷ (codes "STORAGE_TEXTURE_BINDING_ARRAY_NON_UNIFORM_INDEXING", 2) ∷ [])
    capabilities.0
