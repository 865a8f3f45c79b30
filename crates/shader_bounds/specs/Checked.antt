-- Accesses that need a bounds check, and the indexes that are checked.
use Rattle.std.specs.Prelude.{◌≡◌, ◌⊎◌, ℕ, List, Option, Some, None, slice_get, IfSome}
use Rattle.std.specs.List.{Contains}
use Rattle.std.specs.Option.{option_and_then}
use Rattle.shader_analysis_spec.specs.Program.{Expression, Function, Module, IsExpressionAt}
use Rattle.shader_ir.specs.Key.{IsNoStruct, found_inner, inner_of}
use Rattle.shader_ir.specs.declared.expression.Expression.TheVariants as form
use Rattle.shader_ir.specs.declared.proc.type_resolution.TypeResolution.{TypeResolution}
use Rattle.shader_ir.specs.declared.types.«Type».{«Type»}
use Rattle.shader_ir.specs.declared.types.TypeInner.{TypeInner}
use Rattle.shader_ir.specs.declared.types.TypeInner.TheVariants.{Pointer}
use Rattle.shader_bounds.specs.Lengths.{base_length}
use Rattle.shader_bounds.specs.Guarded.{IndexIsBelow, guarded_index}
use Rattle.shader_bounds.specs.Policies.{policy_of}
use Rattle.shader_bounds.specs.declared.guarded.GuardedIndex.{GuardedIndex}
use Rattle.shader_bounds.specs.declared.guarded.GuardedIndex.TheVariants.{Known, Expression as Computed}
use Rattle.shader_bounds.specs.declared.policies.BoundsCheckPolicies.{BoundsCheckPolicies}
use Rattle.shader_bounds.specs.declared.policies.BoundsCheckPolicy.TheVariants.{ReadZeroSkipWrite}

-- the accessed type: the base itself, or its pointee
abbrev pub accessed : List «Type» → TypeInner → Option TypeInner
accessed types (Pointer base space) = found_inner (slice_get types base)
accessed types inner = Some inner

-- an access to a base of this type isn't an access to a member of a struct
abbrev pub IsNoMember : List «Type» → TypeResolution → Type 0
IsNoMember types base = IfSome (option_and_then (accessed types) (inner_of types base)) IsNoStruct

-- the base of an access
abbrev pub base_of : Expression → Option ℕ
base_of (form.Access base index) = Some base
base_of (form.AccessIndex base index) = Some base
base_of _ = None

-- an operand that selects the texel of an image load
abbrev pub IsLoadIndex : ℕ → Option ℕ → Option ℕ → Option ℕ → ℕ → Type 0
IsLoadIndex coordinate array_index sample level e = (coordinate ≡ e) ⊎ (array_index ≡ Some e) ⊎ (sample ≡ Some e) ⊎ (level ≡ Some e)

-- the types of expressions are a parameter: the recorded or the derivable ones
module _ (m : Module) (HasType : ℕ → TypeResolution → Type 0) where
  -- an out-of-bounds access to the base reads zero and writes nothing
  pub record ReadsZero (policies : BoundsCheckPolicies) (base : ℕ) : Type 0 where
    pub resolution : TypeResolution
    pub typed : HasType base resolution
    pub chosen : policy_of policies (inner_of m.types resolution) ≡ ReadZeroSkipWrite

  -- an access to the base isn't an access to a member of a struct
  pub record StepsIntoNoStruct (base : ℕ) : Type 0 where
    pub resolution : TypeResolution
    pub typed : HasType base resolution
    pub no_member : IsNoMember m.types resolution

module _ (m : Module) (f : Function) (HasType : ℕ → TypeResolution → Type 0) where
  -- the index isn't known to be below the length of the base
  pub record NeedsCheck (base : ℕ) (index : GuardedIndex) : Type 0 where
    pub resolution : TypeResolution
    pub typed : HasType base resolution
    pub unknown : ¬ IndexIsBelow (guarded_index m f.expressions index) (base_length m resolution)

  -- e is a checked index of the expression
  abbrev pub Checks : BoundsCheckPolicies → Expression → ℕ → Type 0
  Checks policies (form.Access base index) e = (index ≡ e) × ReadsZero m HasType policies base × NeedsCheck base (Computed index)
  Checks policies (form.ImageLoad image coordinate array_index sample level) e =
      (policies.image_load ≡ ReadZeroSkipWrite) × IsLoadIndex coordinate array_index sample level e
  Checks policies _ e = ⊥

  -- the checked indexes
  abbrev pub IsCheckedIndex : BoundsCheckPolicies → ℕ → Type 0
  IsCheckedIndex policies e = (x : Expression) × Contains f.expressions x × Checks policies x e

  -- the expression is an access that needs a check; an access to a member of a struct doesn't
  abbrev pub AccessNeedsCheck : Expression → Type 0
  AccessNeedsCheck (form.Access base index) = NeedsCheck base (Computed index)
  AccessNeedsCheck (form.AccessIndex base index) = StepsIntoNoStruct m HasType base × NeedsCheck base (Known index)
  AccessNeedsCheck _ = ⊥

  -- the chain of accesses that ends at an expression contains one that needs a check
  pub data ChainNeedsCheck : ℕ → Type 0 where
    itself : {e : ℕ} {x : Expression} → IsExpressionAt f e x → AccessNeedsCheck x → ChainNeedsCheck e
    before : {e base : ℕ} {x : Expression} → IsExpressionAt f e x → base_of x ≡ Some base → ChainNeedsCheck base → ChainNeedsCheck e
