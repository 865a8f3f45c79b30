-- Keys and shapes of types.
use Rattle.std.proofs.Common.{◌≡◌, ◌∙◌, ap, sym, refl, subst, ℕ, List, Option, Some, None, length, slice_get, arith, ◌↔◌}
use Rattle.shader_ir.specs.declared.types.«Type».{«Type»}
use Rattle.shader_ir.specs.declared.types.AddressSpace.{AddressSpace}
use Rattle.shader_ir.specs.declared.types.TypeInner.{TypeInner}
use Rattle.shader_ir.specs.declared.types.TypeInner.TheVariants.{Scalar, Vector, Pointer, Struct}
use Rattle.shader_ir.specs.declared.proc.type_resolution.TypeResolution.{TypeResolution}
use Rattle.shader_ir.specs.declared.proc.type_resolution.TypeResolution.TheVariants.{Handle, Value}
use Rattle.shader_ir.specs.Key.{StructKey, InnerKey, pointer_to, pointer_at, canonical, shape_key, found_key}
use Rattle.shader_ir.specs.Key.{key_of, found_inner, inner_of, FitsTypes, IsNoStruct, IsSameHandle, PointsInRange}
use Rattle.shader_ir.specs.TypeTree.{PointsBelow, IsBackward}
use Rattle.shader_ir.proofs.TypeTreeLemmas.{below, weaker}

module _ (types : List «Type») where
  shape-no_struct : (handle : ℕ) (inner : TypeInner) → IsNoStruct inner → shape_key types handle inner ≡ InnerKey (canonical types inner)
  shape-no_struct handle (Struct span members) n = absurd n
  shape-no_struct handle inner n = refl

  found-shape : (handle : ℕ) (found : Option «Type») (inner : TypeInner) → found_inner found ≡ Some inner →
      found_key types handle found ≡ shape_key types handle inner
  found-shape handle (Some type) inner e = let same : type.inner ≡ inner = cc in ap (λ a. shape_key types handle a) same
  found-shape handle None inner e = absurd (cc)

  -- the key of a type that isn't a struct
  pub key_of-no_struct : (resolution : TypeResolution) (inner : TypeInner) → inner_of types resolution ≡ Some inner → IsNoStruct inner →
      key_of types resolution ≡ InnerKey (canonical types inner)
  key_of-no_struct (Handle handle) inner e n = found-shape handle (slice_get types handle) inner e ∙ shape-no_struct handle inner n
  key_of-no_struct (Value value) inner e n = let same : value ≡ inner = cc in ap (λ a. InnerKey (canonical types a)) same

  -- the key of a struct
  pub key_of-struct : (handle : ℕ) (inner : TypeInner) → inner_of types (Handle handle) ≡ Some inner → (IsNoStruct inner → ⊥) →
      key_of types (Handle handle) ≡ StructKey handle
  key_of-struct handle (Struct span members) e n = found-shape handle (slice_get types handle) (Struct span members) e
  key_of-struct handle inner e n = absurd (n tt)

  pointer_to-retained : (base : ℕ) (space : AddressSpace) (inner : TypeInner) → IsNoStruct (pointer_to base space inner)
  pointer_to-retained base space (Scalar scalar) = tt
  pointer_to-retained base space (Vector size scalar) = tt
  pointer_to-retained base space inner = tt

  pointer_at-retained : (base : ℕ) (space : AddressSpace) (found : Option «Type») → IsNoStruct (pointer_at base space found)
  pointer_at-retained base space (Some type) = pointer_to-retained base space type.inner
  pointer_at-retained base space None = tt

  canonical-retained : (inner : TypeInner) → IsNoStruct inner → IsNoStruct (canonical types inner)
  canonical-retained (Pointer base space) n = pointer_at-retained base space (slice_get types base)
  canonical-retained inner n = n

  shape-handle : (handle given : ℕ) (inner : TypeInner) → shape_key types handle inner ≡ StructKey given → handle ≡ given
  shape-handle handle given (Struct span members) e = cc
  shape-handle handle given inner e = absurd (cc)

  found-handle : (handle given : ℕ) (found : Option «Type») → found_key types handle found ≡ StructKey given → handle ≡ given
  found-handle handle given (Some type) e = shape-handle handle given type.inner e
  found-handle handle given None e = cc

  -- a struct's key determines its handle
  pub StructKey-reported : (resolution : TypeResolution) (given : ℕ) → key_of types resolution ≡ StructKey given → resolution ≡ Handle given
  StructKey-reported (Handle handle) given e = ap (λ h. Handle h) (found-handle handle given (slice_get types handle) e)
  StructKey-reported (Value inner) given e = absurd (cc)

  -- only the same handle has a struct's key
  pub struct_keys : (lhs rhs : TypeResolution) (left : TypeInner) → inner_of types lhs ≡ Some left → FitsTypes types lhs →
      (¬ IsNoStruct left)
      → IsSameHandle lhs rhs ↔ (key_of types lhs ≡ key_of types rhs)
  struct_keys (Handle handle) (Handle given) left e fits n = (
    (λ same. ap (λ h. key_of types (Handle h)) same),
    (λ same. let reported = StructKey-reported (Handle given) handle (sym same ∙ key_of-struct handle left e n) in cc),
  )
  struct_keys (Handle handle) (Value inner) left e fits n = (
    (λ none. absurd none),
    (λ same. let key = key_of-struct handle left e n in absurd (cc)),
  )
  struct_keys (Value inner) rhs left e fits n =
      let is : inner ≡ left = cc in absurd (n (subst (λ a. IsNoStruct a) is fits.1))

  other-canonical : (resolution : TypeResolution) (inner other : TypeInner) → inner_of types resolution ≡ Some other → IsNoStruct inner →
      canonical types inner ≡ canonical types other → IsNoStruct other
  other-canonical resolution inner (Struct span members) e n same = subst (λ a. IsNoStruct a) same (canonical-retained inner n)
  other-canonical resolution inner other e n same = tt

  other-key : (resolution : TypeResolution) (other inner : TypeInner) → inner_of types resolution ≡ Some other →
      FitsTypes types resolution → key_of types resolution ≡ InnerKey inner → IsNoStruct other
  other-key (Handle handle) (Struct span members) inner e fits same =
      let struct = found-shape handle (slice_get types handle) (Struct span members) e in absurd (cc)
  other-key (Value value) (Struct span members) inner e fits same =
      let is : value ≡ Struct span members = cc in absurd (subst (λ a. IsNoStruct a) is fits.1)
  other-key resolution other inner e fits same = tt

  -- keys are equal exactly if canonical forms are, if the first type isn't a struct
  pub same_keys : (lhs rhs : TypeResolution) (left right : TypeInner) → inner_of types lhs ≡ Some left → inner_of types rhs ≡ Some right →
      FitsTypes types rhs → IsNoStruct left
      → (canonical types left ≡ canonical types right) ↔ (key_of types lhs ≡ key_of types rhs)
  same_keys lhs rhs left right l r fits n =
      let first = key_of-no_struct lhs left l n in (
        (λ e. first ∙ ap (λ a. InnerKey a) e ∙ sym (key_of-no_struct rhs right r (other-canonical rhs left right r n e))),
        (λ e.
            let second = key_of-no_struct rhs right r (other-key rhs right (canonical types left) r fits (sym e ∙ first)) in
            let both : InnerKey (canonical types left) ≡ InnerKey (canonical types right) = sym first ∙ e ∙ second in cc),
      )

  -- the handles of a resolution that fits are in range
  pub fits-in_range : (resolution : TypeResolution) → FitsTypes types resolution → PointsInRange types resolution
  fits-in_range (Handle handle) fits = fits
  fits-in_range (Value inner) fits = fits.0

  -- the handles of a resolution's shape are in range
  pub inner_in_range : IsBackward types → (resolution : TypeResolution) (inner : TypeInner) → inner_of types resolution ≡ Some inner →
      PointsInRange types resolution → PointsBelow (length types) inner
  inner_in_range backward (Handle handle) inner e fits = fits_found (slice_get types handle) refl e
    where
      fits_found : (found : Option «Type») → slice_get types handle ≡ found → found_inner found ≡ Some inner →
          PointsBelow (length types) inner
      fits_found (Some type) at e =
          let same : type.inner ≡ inner = cc in
          subst (λ a. PointsBelow (length types) a) same (weaker handle (length types) type.inner (omega (arith, fits))
          (below types backward handle type at))
      fits_found None at e = absurd (cc)
  inner_in_range backward (Value value) inner e fits = let same : value ≡ inner = cc in subst (λ a. PointsBelow (length types) a) same fits

  pub inner_fits : IsBackward types → (resolution : TypeResolution) (inner : TypeInner) → inner_of types resolution ≡ Some inner →
      FitsTypes types resolution → PointsBelow (length types) inner
  inner_fits backward resolution inner e fits = inner_in_range backward resolution inner e (fits-in_range resolution fits)
