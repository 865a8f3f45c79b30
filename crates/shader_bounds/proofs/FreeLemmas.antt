-- No expression has an array outside the arena as its type.
use Rattle.std.proofs.Common.{ℕ, List}
use Rattle.shader_analysis_spec.proofs.OutsideLemmas.{derived-has}
use Rattle.shader_analysis_spec.specs.Derivable.{Derives}
use Rattle.shader_ir.specs.declared.expression.Expression.{Expression}
use Rattle.shader_ir.specs.declared.proc.type_resolution.TypeResolution.{TypeResolution}
use Rattle.shader_ir.specs.declared.proc.type_resolution.TypeResolution.TheVariants.{Handle, Value}
use Rattle.shader_ir.specs.declared.types.TypeInner.{TypeInner}
use Rattle.shader_ir.specs.declared.types.TypeInner.TheVariants.{Array, BindingArray}
use Rattle.shader_resolve.proofs.FitsLemmas.{Has, IsBuilt}
use Rattle.shader_resolve.proofs.GivenLemmas.{Any}
use Rattle.shader_resolve.specs.Context.{Context}

abbrev pub IsNoArray : TypeInner → Type 0
IsNoArray (Array base size stride) = ⊥
IsNoArray (BindingArray base size) = ⊥
IsNoArray _ = Unit {0}

abbrev pub HoldsNoArray : TypeResolution → Type 0
HoldsNoArray (Handle handle) = Unit {0}
HoldsNoArray (Value inner) = IsNoArray inner

built-no_array : (inner : TypeInner) → IsBuilt inner → IsNoArray inner
built-no_array (Array base size stride) built = absurd built
built-no_array (BindingArray base size) built = absurd built
built-no_array inner built = tt

has-no_array : (resolution : TypeResolution) → Has Any IsNoArray resolution → HoldsNoArray resolution
has-no_array (Handle handle) has = tt
has-no_array (Value inner) has = has.1

-- the type of an expression isn't an array outside the arena
pub derived-free : (context : Context) (expressions : List Expression) (e : ℕ) (resolution : TypeResolution) →
    Derives context expressions e resolution → HoldsNoArray resolution
derived-free context expressions e resolution derives =
    has-no_array resolution (derived-has IsNoArray built-no_array context expressions e resolution derives)
