-- The resources that entry points use.
use Rattle.std.specs.Prelude.{◌+◌, ◌==◌, ℕ, zero, suc, Bool, true, false, List, Option, Some, None, bit_and, length, not, slice_get}
use Rattle.std.specs.List.{list_any}
use Rattle.shader_analysis.specs.Recorded.{Recorded}
use Rattle.shader_info.specs.declared.flags.GlobalUse.{GlobalUse}
use Rattle.shader_info.specs.declared.info.FunctionInfo.{FunctionInfo}
use Rattle.shader_interface.specs.declared.bound.ResourceBinding.{ResourceBinding}

abbrev pub is_use : Option GlobalUse → Bool
is_use (Some uses) = not (bit_and uses.0 15 == 0)
is_use None = false

-- one of the functions uses the global variable
abbrev pub is_used : List FunctionInfo → ℕ → Bool
is_used infos i = list_any (λ info. is_use (slice_get info.global_uses i)) infos

-- the host binds a global variable, and one of the functions uses it
abbrev pub is_resource : List FunctionInfo → ℕ → Option (Option ResourceBinding) → Bool
is_resource infos i (Some (Some bound)) = is_used infos i
is_resource infos i found = false

abbrev ones : Bool → ℕ
ones true = 1
ones false = 0

-- how many of the first global variables are resources
abbrev pub resources_among : List FunctionInfo → List (Option ResourceBinding) → ℕ → ℕ
resources_among infos bindings zero = 0
resources_among infos bindings (suc n) =
    resources_among infos bindings n + ones (is_resource infos n (slice_get bindings n))

abbrev pub resource_count : Option Recorded → List (Option ResourceBinding) → ℕ
resource_count (Some infos) bindings = resources_among infos.entry_points bindings (length bindings)
resource_count None bindings = 0
