-- What a payload stands for, by the name of its variant.
use Rattle.std.proofs.Common.{◌≡◌, inl, inr, refl, subst, ℕ, Bool, List, MatchOption, Option, Some, codes}
use Rattle.json.specs.Json.{Json}
use Rattle.shader_ir.specs.declared.binding.Binding.{Binding}
use Rattle.shader_ir.specs.declared.binding.Binding.TheVariants as bindings
use Rattle.shader_ir.specs.declared.binding.BuiltIn.{BuiltIn}
use Rattle.shader_ir.specs.declared.flags.StorageAccess.{StorageAccess}
use Rattle.shader_ir.specs.declared.image.ImageClass.{ImageClass}
use Rattle.shader_ir.specs.declared.image.ImageClass.TheVariants as classes
use Rattle.shader_ir.specs.declared.image.StorageFormat.{StorageFormat}
use Rattle.shader_ir.specs.declared.«module».DiagnosticRule.{DiagnosticRule}
use Rattle.shader_ir.specs.declared.«module».DiagnosticRule.TheVariants as diagnostics
use Rattle.shader_ir.specs.declared.«module».PredeclaredType.{PredeclaredType}
use Rattle.shader_ir.specs.declared.«module».PredeclaredType.TheVariants.{FrexpResult, ModfResult}
use Rattle.shader_ir.specs.declared.scalar.Scalar.{Scalar}
use Rattle.shader_ir.specs.declared.scalar.ScalarKind.{ScalarKind}
use Rattle.shader_ir.specs.declared.scalar.VectorSize.{VectorSize}
use Rattle.shader_ir.specs.declared.types.AddressSpace.{AddressSpace}
use Rattle.shader_ir.specs.declared.types.AddressSpace.TheVariants as spaces
use Rattle.shader_ir.specs.declared.types.ArraySize.{ArraySize}
use Rattle.shader_ir.specs.declared.types.ArraySize.TheVariants as lengths
use Rattle.shader_json_reader.proofs.ShapeLemmas.{apart}
use Rattle.shader_json_reader.specs.Numbers.{IsCount, IsHandle, IsTruth}
use Rattle.shader_json_reader.specs.Shapes.{HasField, IsObject}
use Rattle.shader_json_declarations.proofs.DeterminedScalars.{label_class, labelled_class}
use Rattle.shader_json_declarations.proofs.DeterminedTypes.{label_binding, label_length, label_space, labelled_binding, labelled_length}
use Rattle.shader_json_declarations.proofs.DeterminedTypes.{labelled_space}
use Rattle.shader_json_declarations.specs.BuiltIns.{IsBuiltIn}
use Rattle.shader_json_declarations.specs.Filters.{IsRuleOf, IsStandardRule, IsUserRule}
use Rattle.shader_json_declarations.specs.Scalars.{IsAccess, IsClassOf, IsFormat, IsKind}
use Rattle.shader_json_declarations.specs.SpecialTypes.{HasShape, IsPredeclaredOf}
use Rattle.shader_json_declarations.specs.Types.{IsBindingOf, IsLengthOf, IsLocation, IsSpaceOf}

-- the flag that is the payload of a built-in value
pub with_flag : (found : Option (List ℕ)) (k : Json) (name : List ℕ) (flag : Bool) → found ≡ Some name
    → MatchOption found ⊥ (λ field. IsObject k (λ ms. HasField IsTruth field ms flag)) → IsObject k (λ ms. HasField IsTruth name ms flag)
with_flag found k name flag is h = subst (λ f. MatchOption f ⊥ (λ field. IsObject k (λ ms. HasField IsTruth field ms flag))) is h

module _ {X : Type 0} (k : Json) where
  pub of_sampled : (x : ImageClass) → ((p : ScalarKind × Bool) → IsObject k (λ ms. HasField IsKind (codes "kind") ms p.0
      × HasField IsTruth (codes "multi") ms p.1) → X) → IsClassOf (codes "Sampled") (Some k) x → X
  of_sampled (classes.Sampled kind multi) f u = f (kind, multi) u.1
  of_sampled x f u = apart (codes "Sampled") (label_class x) refl (labelled_class (codes "Sampled") (Some k) x u)

  pub of_depth : (x : ImageClass) → ((multi : Bool) → IsObject k (λ ms. HasField IsTruth (codes "multi") ms multi) → X)
      → IsClassOf (codes "Depth") (Some k) x → X
  of_depth (classes.Depth multi) f u = f multi u.1
  of_depth x f u = apart (codes "Depth") (label_class x) refl (labelled_class (codes "Depth") (Some k) x u)

  pub of_storage : (x : ImageClass) → ((p : StorageFormat × StorageAccess) → IsObject k (λ ms. HasField IsFormat (codes "format") ms p.0
      × HasField IsAccess (codes "access") ms p.1) → X) → IsClassOf (codes "Storage") (Some k) x → X
  of_storage (classes.Storage format access) f u = f (format, access) u.1
  of_storage x f u = apart (codes "Storage") (label_class x) refl (labelled_class (codes "Storage") (Some k) x u)

  pub of_storage_space : (x : AddressSpace)
      → ((access : StorageAccess) → IsObject k (λ ms. HasField IsAccess (codes "access") ms access) → X)
      → IsSpaceOf (codes "Storage") (Some k) x → X
  of_storage_space (spaces.Storage access) f u = f access u.1
  of_storage_space x f u = apart (codes "Storage") (label_space x) refl (labelled_space (codes "Storage") (Some k) x u)

  pub of_constant : (x : ArraySize) → ((count : ℕ) → IsCount k count → X) → IsLengthOf (codes "Constant") (Some k) x → X
  of_constant (lengths.Constant count) f u = f count u.1
  of_constant x f u = apart (codes "Constant") (label_length x) refl (labelled_length (codes "Constant") (Some k) x u)

  pub of_pending : (x : ArraySize) → ((handle : ℕ) → IsHandle k handle → X) → IsLengthOf (codes "Pending") (Some k) x → X
  of_pending (lengths.Pending handle) f u = f handle u.1
  of_pending x f u = apart (codes "Pending") (label_length x) refl (labelled_length (codes "Pending") (Some k) x u)

  pub of_built_in : (x : Binding) → ((b : BuiltIn) → IsBuiltIn k b → X) → IsBindingOf (codes "BuiltIn") (Some k) x → X
  of_built_in (bindings.BuiltIn b) f u = f b u.1
  of_built_in x f u = apart (codes "BuiltIn") (label_binding x) refl (labelled_binding (codes "BuiltIn") (Some k) x u)

  pub of_location : (x : Binding) → ((location : ℕ) → IsObject k (λ ms. IsLocation ms location) → X)
      → IsBindingOf (codes "Location") (Some k) x → X
  of_location (bindings.Location location) f u = f location u.1
  of_location x f u = apart (codes "Location") (label_binding x) refl (labelled_binding (codes "Location") (Some k) x u)

  pub of_standard : (x : DiagnosticRule) → ((rule : DiagnosticRule) → IsStandardRule k rule → X) → IsRuleOf (codes "Standard") (Some k) x
      → X
  of_standard diagnostics.DerivativeUniformity f u = f diagnostics.DerivativeUniformity u.1
  of_standard diagnostics.Other f u = elim u [
    | inl e ↦ apart (codes "Standard") (codes "Unknown") refl e.0
    | inr e ↦ apart (codes "Standard") (codes "User") refl e.0
  ]

  pub of_user : (x : DiagnosticRule) → (IsUserRule k → X) → IsRuleOf (codes "User") (Some k) x → X
  of_user diagnostics.DerivativeUniformity f u = apart (codes "User") (codes "Standard") refl u.0
  of_user diagnostics.Other f u = elim u [
    | inl e ↦ apart (codes "User") (codes "Unknown") refl e.0
    | inr e ↦ f e.1
  ]

  pub of_modf : (x : PredeclaredType) → ((size : Option VectorSize) (scalar : Scalar) → IsObject k (λ ms. HasShape ms size scalar) → X)
      → IsPredeclaredOf (codes "ModfResult") (Some k) x → X
  of_modf (ModfResult size scalar) f u = f size scalar u.1
  of_modf (FrexpResult size scalar) f u = apart (codes "ModfResult") (codes "FrexpResult") refl u.0

  pub of_frexp : (x : PredeclaredType) → ((size : Option VectorSize) (scalar : Scalar) → IsObject k (λ ms. HasShape ms size scalar) → X)
      → IsPredeclaredOf (codes "FrexpResult") (Some k) x → X
  of_frexp (FrexpResult size scalar) f u = f size scalar u.1
  of_frexp (ModfResult size scalar) f u = apart (codes "FrexpResult") (codes "ModfResult") refl u.0
