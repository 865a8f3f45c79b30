-- The policy that applies to an access.
use Rattle.std.specs.Prelude.{◌≡◌, ◌⊎◌, Option, Some, None}
use Rattle.shader_ir.specs.Queries.{pointer_space}
use Rattle.shader_ir.specs.declared.types.AddressSpace.{AddressSpace}
use Rattle.shader_ir.specs.declared.types.AddressSpace.TheVariants.{Storage, Uniform}
use Rattle.shader_ir.specs.declared.types.TypeInner.{TypeInner}
use Rattle.shader_ir.specs.declared.types.TypeInner.TheVariants.{BindingArray}
use Rattle.shader_bounds.specs.declared.policies.BoundsCheckPolicies.{BoundsCheckPolicies}
use Rattle.shader_bounds.specs.declared.policies.BoundsCheckPolicy.{BoundsCheckPolicy}
use Rattle.shader_bounds.specs.declared.policies.BoundsCheckPolicy.TheVariants.{Unchecked}

-- no access is checked
abbrev pub unchecked : BoundsCheckPolicies
unchecked = record { index = Unchecked; buffer = Unchecked; image_load = Unchecked; binding_array = Unchecked }

module _ (policies : BoundsCheckPolicies) where
  -- storage and uniform buffers have a policy of their own
  abbrev pub policy_in : AddressSpace → BoundsCheckPolicy
  policy_in (Storage access) = policies.buffer
  policy_in Uniform = policies.buffer
  policy_in _ = policies.index

  abbrev pub policy_through : Option AddressSpace → BoundsCheckPolicy
  policy_through (Some space) = policy_in space
  policy_through None = policies.index

  -- arrays of resources by value have a policy of their own
  abbrev pub policy_for : TypeInner → BoundsCheckPolicy
  policy_for (BindingArray base size) = policies.binding_array
  policy_for inner = policy_through (pointer_space inner)

  -- a base whose type is out of range has the policy of indexes
  abbrev pub policy_of : Option TypeInner → BoundsCheckPolicy
  policy_of (Some inner) = policy_for inner
  policy_of None = policies.index

  -- one of the four is this policy
  abbrev pub IsAmong : BoundsCheckPolicy → Type 0
  IsAmong policy = (policies.index ≡ policy) ⊎ (policies.buffer ≡ policy) ⊎ (policies.image_load ≡ policy)
      ⊎ (policies.binding_array ≡ policy)
