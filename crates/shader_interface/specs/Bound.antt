-- Where the host binds a resource.
use Rattle.std.specs.Prelude.{ℕ, zero, suc, List, [], ◌∷◌, ◌++◌, Option, Some, None, codes}
use Rattle.std.specs.Fmt.{decimal}
use Rattle.json.specs.Json.{Json}
use Rattle.shader_interface.specs.Interface.{binding_of, group_of}
use Rattle.shader_interface.specs.declared.bound.ResourceBinding.{ResourceBinding}

-- a resource is bound where the JSON has both numbers
abbrev pub bound_by : Option ℕ → Option ℕ → Option ResourceBinding
bound_by (Some group) (Some binding) = Some (record { group = group; binding = binding })
bound_by (Some group) None = None
bound_by None binding = None

abbrev pub bound_at : Json → ℕ → Option ResourceBinding
bound_at root n = bound_by (group_of root n) (binding_of root n)

-- those of the first globals
abbrev pub bound_first : Json → ℕ → List (Option ResourceBinding)
bound_first root zero = []
bound_first root (suc n) = bound_first root n ++ bound_at root n ∷ []

-- the attributes in WGSL, each with a space behind it
abbrev pub attributes : Option ResourceBinding → List ℕ
attributes (Some bound) = codes "@group(" ++ (decimal bound.group ++ (codes ") @binding(" ++ (decimal bound.binding ++ codes ") ")))
attributes None = []
