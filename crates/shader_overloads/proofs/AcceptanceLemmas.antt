-- Acceptance depends on a type's key alone.
use Rattle.std.proofs.Common.{◌≡◌, ◌∙◌, ap, sym, refl, inl, inr, ◌⊎◌, ℕ, Bool, ◌||◌, List, Option, Some, None, slice_get}
use Rattle.std.specs.Option.{is_some}
use Rattle.shader_ir.specs.declared.types.«Type».{«Type»}
use Rattle.shader_ir.specs.declared.types.AddressSpace.{AddressSpace}
use Rattle.shader_ir.specs.declared.types.TypeInner.{TypeInner}
use Rattle.shader_ir.specs.declared.types.TypeInner.TheVariants as types
use Rattle.shader_ir.specs.declared.proc.type_resolution.TypeResolution.{TypeResolution}
use Rattle.shader_ir.specs.declared.proc.type_resolution.TypeResolution.TheVariants.{Handle, Value}
use Rattle.shader_ir.specs.Conversion.{conversion}
use Rattle.shader_ir.specs.Key.{InnerKey, StructKey, canonical, inner_of, key_of, pointer_at, pointer_to, IsNoStruct}
use Rattle.shader_ir.specs.TypeTree.{TypeTree, tree_of}
use Rattle.shader_ir.proofs.KeyLemmas.{key_of-no_struct, key_of-struct, StructKey-reported}
use Rattle.shader_overloads.specs.declared.rule.Rule.{Rule}
use Rattle.shader_overloads.specs.AcceptanceLaws.{AcceptsByKey, AcceptsCanonicalForms}
use Rattle.shader_overloads.specs.Remaining.{accepts, argument_at, list_accepts, list_takes, some_list_takes, some_takes, takes}
use Rattle.shader_overloads.specs.SameType.{same_type}

-- ---- canonical forms

module _ (all : List «Type») where
  pointer_to-canonical : (base : ℕ) (space : AddressSpace) (inner : TypeInner) →
      pointer_at base space (slice_get all base) ≡ pointer_to base space inner →
      canonical all (pointer_to base space inner) ≡ pointer_to base space inner
  pointer_to-canonical base space (types.Scalar scalar) e = refl
  pointer_to-canonical base space (types.Vector size scalar) e = refl
  pointer_to-canonical base space inner e = e

  pointer_at-canonical : (base : ℕ) (space : AddressSpace) (found : Option «Type») → slice_get all base ≡ found →
      canonical all (pointer_at base space found) ≡ pointer_at base space found
  pointer_at-canonical base space (Some type) e = pointer_to-canonical base space type.inner (ap (pointer_at base space) e)
  pointer_at-canonical base space None e = ap (pointer_at base space) e

  canonical-settled : (ty : TypeInner) → canonical all (canonical all ty) ≡ canonical all ty
  canonical-settled (types.Pointer base space) = pointer_at-canonical base space (slice_get all base) refl
  canonical-settled ty = refl

  -- ---- regular sets

  takes-pointer_to : (base : ℕ) (space : AddressSpace) (inner argument : TypeInner) →
      takes (pointer_to base space inner) argument ≡ takes (types.Pointer base space) argument
  takes-pointer_to base space (types.Scalar scalar) argument = refl
  takes-pointer_to base space (types.Vector size scalar) argument = refl
  takes-pointer_to base space inner argument = refl

  takes-pointer_at : (base : ℕ) (space : AddressSpace) (found : Option «Type») (argument : TypeInner) →
      takes (pointer_at base space found) argument ≡ takes (types.Pointer base space) argument
  takes-pointer_at base space (Some type) argument = takes-pointer_to base space type.inner argument
  takes-pointer_at base space None argument = refl

  takes-canonical : (ty argument : TypeInner) → takes (canonical all ty) argument ≡ takes ty argument
  takes-canonical (types.Pointer base space) argument = takes-pointer_at base space (slice_get all base) argument
  takes-canonical ty argument = refl

  some_takes-canonical : (ty : TypeInner) (argument : Option TypeInner) → some_takes (canonical all ty) argument ≡ some_takes ty argument
  some_takes-canonical ty None = refl
  some_takes-canonical ty (Some argument) = takes-canonical ty argument

  -- ---- lists

  conversion-pointer_to : (base : ℕ) (space : AddressSpace) (inner : TypeInner) (goal : TypeTree) →
      conversion (tree_of all (pointer_to base space inner)) goal ≡ conversion (tree_of all (types.Pointer base space)) goal
  conversion-pointer_to base space (types.Scalar scalar) goal = refl
  conversion-pointer_to base space (types.Vector size scalar) goal = refl
  conversion-pointer_to base space inner goal = refl

  conversion-pointer_at : (base : ℕ) (space : AddressSpace) (found : Option «Type») (goal : TypeTree) →
      conversion (tree_of all (pointer_at base space found)) goal ≡ conversion (tree_of all (types.Pointer base space)) goal
  conversion-pointer_at base space (Some type) goal = conversion-pointer_to base space type.inner goal
  conversion-pointer_at base space None goal = refl

  conversion-canonical : (ty : TypeInner) (goal : TypeTree) →
      conversion (tree_of all (canonical all ty)) goal ≡ conversion (tree_of all ty) goal
  conversion-canonical (types.Pointer base space) goal = conversion-pointer_at base space (slice_get all base) goal
  conversion-canonical ty goal = refl

  list_takes-canonical : (ty argument : TypeInner) → list_takes all (canonical all ty) argument ≡ list_takes all ty argument
  list_takes-canonical ty argument =
      ap (λ form. same_type form (canonical all argument) || is_some (conversion (tree_of all (canonical all ty)) (tree_of all argument)))
      (canonical-settled ty)
      ∙ ap (λ found. same_type (canonical all ty) (canonical all argument) || is_some found)
      (conversion-canonical ty (tree_of all argument))

  some_list_takes-canonical : (ty : TypeInner) (argument : Option TypeInner) →
      some_list_takes all (canonical all ty) argument ≡ some_list_takes all ty argument
  some_list_takes-canonical ty None = refl
  some_list_takes-canonical ty (Some argument) = list_takes-canonical ty argument

pub accepts-canonical : AcceptsCanonicalForms accepts
accepts-canonical all i ty rule = some_takes-canonical all ty (argument_at all i rule)

pub list_accepts-canonical : AcceptsCanonicalForms list_accepts
list_accepts-canonical all i ty rule = some_list_takes-canonical all ty (argument_at all i rule)

-- ---- keys

is_struct-or_not : (ty : TypeInner) → IsNoStruct ty ⊎ (IsNoStruct ty → ⊥)
is_struct-or_not (types.Struct span members) = inr (λ none. none)
is_struct-or_not ty = inl tt

module _ (all : List «Type») where
  -- a key is that of the canonical form, or that of a handle
  key_cases : (resolution : TypeResolution) (ty : TypeInner) → inner_of all resolution ≡ Some ty
      → (key_of all resolution ≡ InnerKey (canonical all ty)) ⊎ ((handle : ℕ) × (resolution ≡ Handle handle) ×
      (key_of all resolution ≡ StructKey handle))
  key_cases (Value inner) ty e = let same : inner ≡ ty = cc in inl (ap (λ a. InnerKey (canonical all a)) same)
  key_cases (Handle handle) ty e = elim (is_struct-or_not ty) [
    | inl other ↦ inl (key_of-no_struct all (Handle handle) ty e other)
    | inr struct ↦ inr (handle, refl, key_of-struct all handle ty e struct)
  ]

  canonical_from_keys : (left right : TypeResolution) (ty other : TypeInner) → inner_of all left ≡ Some ty →
      inner_of all right ≡ Some other → key_of all left ≡ key_of all right → canonical all ty ≡ canonical all other
  canonical_from_keys left right ty other d e same = elim (key_cases left ty d) [
    | inl first ↦ elim (key_cases right other e) [
      | inl second ↦ let both : InnerKey (canonical all ty) ≡ InnerKey (canonical all other) = sym first ∙ same ∙ second in cc
      | inr second ↦ let both : InnerKey (canonical all ty) ≡ StructKey second.0 = sym first ∙ same ∙ second.2 in absurd (cc)
    ]
    | inr first ↦
        let reported = StructKey-reported all right first.0 (sym same ∙ first.2) in
        let found : Some ty ≡ Some other = sym d ∙ ap (inner_of all) (first.1 ∙ sym reported) ∙ e in
        let is : ty ≡ other = cc in
        ap (canonical all) is
  ]

by_key : (accepting : List «Type» → ℕ → TypeInner → Rule → Bool) → AcceptsCanonicalForms accepting → AcceptsByKey accepting
by_key accepting law all i left right ty other rule d e same =
    sym (law all i ty rule) ∙ ap (λ form. accepting all i form rule) (canonical_from_keys all left right ty other d e same)
    ∙ law all i other rule

pub accepts-by_key : AcceptsByKey accepts
accepts-by_key = by_key accepts accepts-canonical

pub list_accepts-by_key : AcceptsByKey list_accepts
list_accepts-by_key = by_key list_accepts list_accepts-canonical
