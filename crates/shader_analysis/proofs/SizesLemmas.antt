-- No type outside the arena that an expression has is sized by an override.
use Rattle.std.proofs.Common.{◌≡◌, refl, sym, subst, ℕ, ◌<◌, List, Some, None, All, IfSome, length, slice_get}
use Rattle.std.proofs.lemmas.Option.{get_or_from_slice_get}
use Rattle.shader_analysis_spec.proofs.OutsideLemmas.{derived-has}
use Rattle.shader_analysis_spec.specs.Derivable.{Derives}
use Rattle.shader_analysis_spec.specs.Program.{Expression, Module}
use Rattle.shader_info.specs.Fit.{IsOfModule}
use Rattle.shader_ir.specs.Key.{FitsTypes}
use Rattle.shader_ir.specs.declared.proc.type_resolution.TypeResolution.{TypeResolution}
use Rattle.shader_ir.specs.declared.proc.type_resolution.TypeResolution.TheVariants.{Handle, Value}
use Rattle.shader_ir.specs.declared.types.TypeInner.{TypeInner}
use Rattle.shader_ir.specs.declared.types.TypeInner.TheVariants.{Array, BindingArray, Struct}
use Rattle.shader_resolve.proofs.FitsLemmas.{Has, IsBuilt}
use Rattle.shader_resolve.proofs.GivenLemmas.{Any}
use Rattle.shader_resolve.specs.Context.{Context}
use Rattle.shader_resolve.specs.WellFormed.{sizing_override}
use Rattle.shader_analysis.proofs.PositionLemmas.{found_at}

abbrev IsUnsized : TypeInner → Type 0
IsUnsized inner = sizing_override inner ≡ None

built-unsized : (inner : TypeInner) → IsBuilt inner → IsUnsized inner
built-unsized (Array base size stride) built = absurd built
built-unsized (BindingArray base size) built = absurd built
built-unsized (Struct span members) built = absurd built
built-unsized inner built = refl

of_module : (m : Module) (resolution : TypeResolution) → FitsTypes m.types resolution → Has Any IsUnsized resolution →
    IsOfModule m resolution
of_module m (Handle handle) fits unsized = fits
of_module m (Value inner) fits unsized =
    (fits.0, subst (λ found. IfSome found (λ override. override < length m.overrides)) (sym unsized.1) tt)

-- the types of the expressions have all handles in range
pub types_of_module : (context : Context) (expressions : List Expression) (m : Module) (types : List TypeResolution) →
    All (FitsTypes m.types) types →
    ((e : ℕ) (resolution : TypeResolution) → slice_get types e ≡ Some resolution → Derives context expressions e resolution) →
    All (IsOfModule m) types
types_of_module context expressions m types fit derived k d lt =
    let at = found_at types k lt in
    let same = get_or_from_slice_get types k at.0 d at.1 in
    subst (IsOfModule m) (sym same)
    (of_module m at.0 (subst (FitsTypes m.types) same (fit k d lt))
    (derived-has IsUnsized built-unsized context expressions k at.0 (derived k at.0 at.1)))
