-- Laws on which types rules can distinguish.
use Rattle.std.specs.Prelude.{◌≡◌, ℕ, Bool, true, IsTrue, List, Option, Some, None, slice_get}
use Rattle.std.specs.List.{list_any}
use Rattle.shader_ir.specs.declared.operators.MathFunction.{MathFunction}
use Rattle.shader_ir.specs.declared.scalar.Scalar.{Scalar}
use Rattle.shader_ir.specs.declared.types.«Type».{«Type»}
use Rattle.shader_ir.specs.declared.types.TypeInner.{TypeInner}
use Rattle.shader_ir.specs.declared.proc.type_resolution.TypeResolution.{TypeResolution}
use Rattle.shader_ir.specs.Key.{canonical, inner_of, key_of}
use Rattle.shader_ir.specs.Scalars.{named_scalars, same_scalar}
use Rattle.shader_overloads.specs.declared.rule.Rule.{Rule}
use Rattle.shader_overloads.specs.Builtins.{rules_of}
use Rattle.shader_overloads.specs.Remaining.{accepts, leaf_scalar, list_accepts}

-- a type and its canonical form are accepted by the same rules
abbrev pub AcceptsCanonicalForms : (List «Type» → ℕ → TypeInner → Rule → Bool) → Type 0
AcceptsCanonicalForms accepting =
    (types : List «Type») (i : ℕ) (ty : TypeInner) (rule : Rule) → accepting types i (canonical types ty) rule ≡ accepting types i ty rule

-- any two types with one key are accepted by the same rules
abbrev pub AcceptsByKey : (List «Type» → ℕ → TypeInner → Rule → Bool) → Type 0
AcceptsByKey accepting =
    (types : List «Type») (i : ℕ) (left right : TypeResolution) (ty other : TypeInner) (rule : Rule)
    → inner_of types left ≡ Some ty → inner_of types right ≡ Some other → key_of types left ≡ key_of types right
    → accepting types i ty rule ≡ accepting types i other rule

-- the scalar is one of the twelve named scalars
abbrev pub is_named : Scalar → Bool
is_named s = list_any (same_scalar s) named_scalars

-- the scalar is a named one, or there is none
abbrev pub is_named_or_none : Option Scalar → Bool
is_named_or_none None = true
is_named_or_none (Some s) = is_named s

-- on the rules of the built-in functions, regular sets and lists accept the same types, if the leaf scalars are named ones
abbrev pub AcceptancesAgree : Type 0
AcceptancesAgree =
    (types : List «Type») (function : MathFunction) (position i : ℕ) (ty : TypeInner) (rule : Rule)
    → IsTrue (is_named_or_none (leaf_scalar ty)) → slice_get (rules_of function) position ≡ Some rule
    → accepts types i ty rule ≡ list_accepts types i ty rule
