-- Loads and accesses on keys, through pointers and by value.
use Rattle.std.proofs.Common.{◌≡◌, ◌∙◌, ap, refl, ℕ, List, Option, Some, None, Result, Ok, Err, slice_get, is_some}
use Rattle.shader_ir.specs.declared.expression.Expression.TheVariants as form
use Rattle.shader_ir.specs.declared.types.«Type».{«Type»}
use Rattle.shader_ir.specs.declared.types.AddressSpace.{AddressSpace}
use Rattle.shader_ir.specs.declared.types.TypeInner.{TypeInner}
use Rattle.shader_ir.specs.declared.types.TypeInner.TheVariants as type
use Rattle.shader_ir.specs.declared.proc.type_resolution.TypeResolution.TheVariants.{Handle, Value}
use Rattle.shader_ir.specs.declared.proc.type_resolution.TypeResolution.{TypeResolution}
use Rattle.shader_ir.specs.Key.{Key, found_inner, key_of}
use Rattle.shader_resolve.specs.declared.resolve.access.Component.{Component}
use Rattle.shader_resolve.specs.declared.resolve.access.BadIndex.{BadIndex}
use Rattle.shader_resolve.specs.declared.resolve.access.BadIndex.TheVariants.{PastEnd, NotIndexable}
use Rattle.shader_resolve.specs.Outcome.{InvalidAccess, InvalidSubAccess, Outcome, Refusal, at_inner, at_shape}
use Rattle.shader_resolve.specs.Component.{lifted, component, component_outcome, component_pointer, component_value, pointed_outcome}
use Rattle.shader_resolve.specs.PointerLaws.{AccessesAreLifted, AccessesAreComponents, IsNoPointer}
use Rattle.shader_resolve.specs.PointerLaws.{LoadsArePointed, loaded_key, component_key, value_key}
use Rattle.shader_resolve.specs.TypingRules.{load_type, on_shape, pointed_type}
use Rattle.shader_resolve.specs.Typing.{at_key, outcome_key, resolution_of_key}
use Rattle.shader_resolve.proofs.RuleLemmas.{Respects, typing_rule-respects}
use Rattle.shader_resolve.proofs.TypingLemmas.{key_of-resolution_of_key}

module _ (types : List «Type») where
  -- an outcome at the key of a type is the outcome at the type
  at_key-reported : (keys : ℕ → Option Key) (operand : ℕ) (answer : TypeInner → Outcome) (resolution : TypeResolution) →
      Respects types (on_shape types operand answer)
      → keys operand ≡ Some (key_of types resolution)
      → at_key (keys operand) (λ reported. outcome_key types (at_shape types reported answer))
      ≡ outcome_key types (at_shape types resolution answer)
  at_key-reported keys operand answer resolution respects reported =
      ap (λ key. at_key key (λ there. outcome_key types (at_shape types there answer))) reported
      ∙ respects (resolution_of_key (key_of types resolution)) resolution (key_of-resolution_of_key types resolution)

  loaded : (pointer base : ℕ) (inner : TypeInner) → outcome_key types (pointed_type pointer base (Some inner))
      ≡ Some (loaded_key types base inner)
  loaded pointer base (type.Atomic scalar) = refl
  loaded pointer base inner = refl

  reached : (pointer : ℕ) (refusal : Refusal) (space : AddressSpace) (found : Result Component BadIndex)
      → outcome_key types (component_outcome pointer refusal (λ there. Value (component_pointer space there)) found)
      ≡ component_key types space found
  reached pointer refusal space (Ok found) = refl
  reached pointer refusal space (Err (PastEnd index)) = refl
  reached pointer refusal space (Err NotIndexable) = refl

  accessed : (pointer base : ℕ) (index : Option ℕ) (space : AddressSpace) (pointed : «Type») → slice_get types base ≡ Some pointed
      → outcome_key types (lifted types pointer index (type.Pointer base space)) ≡ component_key types space (component index pointed.inner)
  accessed pointer base index space pointed at =
      ap (λ found. outcome_key types (pointed_outcome pointer index base space (found_inner found))) at
      ∙ reached pointer (InvalidSubAccess base (is_some index)) space (component index pointed.inner)

  component-valued : (value : ℕ) (refusal : Refusal) (found : Result Component BadIndex) →
      outcome_key types (component_outcome value refusal component_value found) ≡ value_key types found
  component-valued value refusal (Ok found) = refl
  component-valued value refusal (Err (PastEnd index)) = refl
  component-valued value refusal (Err NotIndexable) = refl

  accessed-value : (value : ℕ) (index : Option ℕ) (inner : TypeInner) → IsNoPointer inner →
      outcome_key types (lifted types value index inner) ≡ value_key types (component index inner)
  accessed-value value index (type.Pointer base space) none = absurd none
  accessed-value value index (type.ValuePointer size scalar space) none = absurd none
  accessed-value value index inner none = component-valued value (InvalidAccess value (is_some index)) (component index inner)

  accessed-there : (value ty : ℕ) (index : Option ℕ) (stored : «Type») → slice_get types ty ≡ Some stored → IsNoPointer stored.inner
      → outcome_key types (at_shape types (Handle ty) (lifted types value index)) ≡ value_key types (component index stored.inner)
  accessed-there value ty index stored at none =
      ap (λ found. outcome_key types (at_inner (found_inner found) (lifted types value index))) at
      ∙ accessed-value value index stored.inner none

pub loads : LoadsArePointed
loads context keys pointer base space pointed at reported =
    at_key-reported context.types keys pointer (load_type pointer context.types) (Value (type.Pointer base space))
    (typing_rule-respects context (form.Load pointer)) reported
    ∙ ap (λ found. outcome_key context.types (pointed_type pointer base (found_inner found))) at
    ∙ loaded context.types pointer base pointed.inner

pub accesses : AccessesAreLifted
accesses context keys pointer base space pointed at reported = (
  λ index.
      at_key-reported context.types keys pointer (lifted context.types pointer None) (Value (type.Pointer base space))
      (typing_rule-respects context (form.Access pointer index)) reported
      ∙ accessed context.types pointer base None space pointed at,
  λ index.
      at_key-reported context.types keys pointer (lifted context.types pointer (Some index)) (Value (type.Pointer base space))
      (typing_rule-respects context (form.AccessIndex pointer index)) reported
      ∙ accessed context.types pointer base (Some index) space pointed at,
)

pub parts : AccessesAreComponents
parts context keys value ty stored at none reported = (
  λ index.
      at_key-reported context.types keys value (lifted context.types value None) (Handle ty)
      (typing_rule-respects context (form.Access value index)) reported
      ∙ accessed-there context.types value ty None stored at none,
  λ index.
      at_key-reported context.types keys value (lifted context.types value (Some index)) (Handle ty)
      (typing_rule-respects context (form.AccessIndex value index)) reported
      ∙ accessed-there context.types value ty (Some index) stored at none,
)
