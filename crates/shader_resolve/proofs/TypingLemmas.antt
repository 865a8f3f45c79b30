-- Typing rules read only keys.
use Rattle.std.proofs.Common.{◌≡◌, ◌∙◌, ap, sym, refl, ℕ, List, Option, Some, None, slice_get}
use Rattle.shader_ir.specs.declared.types.«Type».{«Type»}
use Rattle.shader_ir.specs.declared.types.AddressSpace.{AddressSpace}
use Rattle.shader_ir.specs.declared.types.TypeInner.{TypeInner}
use Rattle.shader_ir.specs.declared.types.TypeInner.TheVariants as type
use Rattle.shader_ir.specs.declared.scalar.Scalar.{Scalar}
use Rattle.shader_ir.specs.declared.scalar.VectorSize.{VectorSize}
use Rattle.shader_ir.specs.declared.proc.type_resolution.TypeResolution.{TypeResolution}
use Rattle.shader_ir.specs.declared.proc.type_resolution.TypeResolution.TheVariants.{Handle, Value}
use Rattle.shader_ir.specs.Key.{Key, StructKey, InnerKey, pointer_to, pointer_at, canonical}
use Rattle.shader_ir.specs.Key.{shape_key, found_key, key_of, found_inner, inner_of}
use Rattle.shader_ir.proofs.KeyLemmas.{StructKey-reported}
use Rattle.shader_resolve.specs.Outcome.{Outcome, at_inner, at_shape}
use Rattle.shader_resolve.specs.Typing.{outcome_key, resolution_of_key}

module _ (types : List «Type») where
  shape-reported : (handle : ℕ) (inner reported : TypeInner) → shape_key types handle inner ≡ InnerKey reported →
      canonical types inner ≡ reported
  shape-reported handle (type.Struct span members) reported e = absurd (cc)
  shape-reported handle inner reported e = cc

  found-reported : (handle : ℕ) (found : Option «Type») (reported : TypeInner) → found_key types handle found ≡ InnerKey reported →
      (inner : TypeInner) × (found_inner found ≡ Some inner) × (canonical types inner ≡ reported)
  found-reported handle (Some type) reported e = (type.inner, refl, shape-reported handle type.inner reported e)
  found-reported handle None reported e = absurd (cc)

  -- a key that isn't a struct's determines the canonical form of a shape
  pub InnerKey-reported : (resolution : TypeResolution) (reported : TypeInner) → key_of types resolution ≡ InnerKey reported →
      (inner : TypeInner) × (inner_of types resolution ≡ Some inner) × (canonical types inner ≡ reported)
  InnerKey-reported (Handle handle) reported e = found-reported handle (slice_get types handle) reported e
  InnerKey-reported (Value inner) reported e = (inner, refl, cc)

  -- the outcome has the same key at a type and at its canonical form
  abbrev pub ReadsCanonical : (TypeInner → Outcome) → Type 0
  ReadsCanonical answer = (inner : TypeInner) → outcome_key types (answer inner) ≡ outcome_key types (answer (canonical types inner))

  -- a property of a type with itself, and of a pointer with a value pointer, holds of a type with its canonical form
  pub canonical_cases : (Q : TypeInner → TypeInner → Type 0) → ((inner : TypeInner) → Q inner inner)
      → ((base : ℕ) (size : Option VectorSize) (scalar : Scalar) (space : AddressSpace) →
      Q (type.Pointer base space) (type.ValuePointer size scalar space))
      → (inner : TypeInner) → Q inner (canonical types inner)
  canonical_cases Q itself value (type.Pointer base space) = at_found (slice_get types base)
    where
      to : (inner : TypeInner) → Q (type.Pointer base space) (pointer_to base space inner)
      to (type.Scalar scalar) = value base None scalar space
      to (type.Vector size scalar) = value base (Some size) scalar space
      to inner = itself (type.Pointer base space)

      at_found : (found : Option «Type») → Q (type.Pointer base space) (pointer_at base space found)
      at_found (Some found) = to found.inner
      at_found None = itself (type.Pointer base space)
  canonical_cases Q itself value inner = itself inner

  -- an outcome that rejects all pointers
  pub refuses_pointers : (answer : TypeInner → Outcome)
      → ((base : ℕ) (space : AddressSpace) → outcome_key types (answer (type.Pointer base space)) ≡ None)
      → ((size : Option VectorSize) (scalar : Scalar) (space : AddressSpace) →
      outcome_key types (answer (type.ValuePointer size scalar space)) ≡ None)
      → ReadsCanonical answer
  refuses_pointers answer pointer value =
      canonical_cases (λ inner other. outcome_key types (answer inner) ≡ outcome_key types (answer other)) (λ inner. refl)
      (λ base size scalar space. pointer base space ∙ sym (value size scalar space))

  -- it suffices to consider pointers to types in range
  pub reads_pointers : (answer : TypeInner → Outcome)
      → ((base : ℕ) (space : AddressSpace) (found : «Type») → slice_get types base ≡ Some found →
      outcome_key types (answer (type.Pointer base space)) ≡ outcome_key types (answer (pointer_to base space found.inner)))
      → ReadsCanonical answer
  reads_pointers answer same (type.Pointer base space) = at_found (slice_get types base) refl
    where
      at_found : (found : Option «Type») → slice_get types base ≡ found →
          outcome_key types (answer (type.Pointer base space)) ≡ outcome_key types (answer (pointer_at base space found))
      at_found (Some found) e = same base space found e
      at_found None e = refl
  reads_pointers answer same inner = refl

  at_reported : (answer : TypeInner → Outcome) → ReadsCanonical answer → (resolution : TypeResolution) (reported : TypeInner) →
      key_of types resolution ≡ InnerKey reported
      → outcome_key types (at_shape types resolution answer) ≡ outcome_key types (answer reported)
  at_reported answer reads resolution reported e =
      let shape = InnerKey-reported resolution reported e in
      ap (λ found. outcome_key types (at_inner found answer)) shape.1 ∙ reads shape.0
      ∙ ap (λ inner. outcome_key types (answer inner)) shape.2

  -- such an outcome has one key at equal keys
  pub at_same_keys : (answer : TypeInner → Outcome) → ReadsCanonical answer → (first second : TypeResolution) →
      key_of types first ≡ key_of types second
      → outcome_key types (at_shape types first answer) ≡ outcome_key types (at_shape types second answer)
  at_same_keys answer reads first second same = by_key (key_of types second) same refl
    where
      by_key : (key : Key) → key_of types first ≡ key → key_of types second ≡ key →
          outcome_key types (at_shape types first answer) ≡ outcome_key types (at_shape types second answer)
      by_key (StructKey handle) e f =
          ap (λ reported. outcome_key types (at_shape types reported answer)) (StructKey-reported types first handle e
          ∙ sym (StructKey-reported types second handle f))
      by_key (InnerKey reported) e f = at_reported answer reads first reported e ∙ sym (at_reported answer reads second reported f)

  -- canonical forms are canonical
  pub canonical-again : (inner : TypeInner) → canonical types (canonical types inner) ≡ canonical types inner
  canonical-again (type.Pointer base space) = again (slice_get types base) refl
    where
      to : (found : «Type») → slice_get types base ≡ Some found → (inner : TypeInner) → found.inner ≡ inner →
          canonical types (pointer_to base space inner) ≡ pointer_to base space inner
      to found e (type.Scalar scalar) is = refl
      to found e (type.Vector size scalar) is = refl
      to found e inner is = ap (λ there. pointer_at base space there) e ∙ ap (λ a. pointer_to base space a) is

      again : (found : Option «Type») → slice_get types base ≡ found →
          canonical types (pointer_at base space found) ≡ pointer_at base space found
      again (Some found) e = to found e found.inner refl
      again None e = ap (λ there. pointer_at base space there) e
  canonical-again inner = refl

  -- the resolution chosen for a key has that key
  pub key_of-resolution_of_key : (resolution : TypeResolution) →
      key_of types (resolution_of_key (key_of types resolution)) ≡ key_of types resolution
  key_of-resolution_of_key resolution = by_key (key_of types resolution) refl
    where
      by_key : (key : Key) → key_of types resolution ≡ key → key_of types (resolution_of_key key) ≡ key
      by_key (StructKey handle) e = ap (λ reported. key_of types reported) (sym (StructKey-reported types resolution handle e)) ∙ e
      by_key (InnerKey reported) e =
          let shape = InnerKey-reported resolution reported e in
          ap (λ inner. InnerKey inner) (ap (λ inner. canonical types inner) (sym shape.2) ∙ canonical-again shape.0 ∙ shape.2)
