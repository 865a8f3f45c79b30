-- Acceptance of arguments by rules, and the rules that remain after the calls on a set.
use Rattle.std.specs.Prelude.{ℕ, ◌+◌, Bool, true, false, not, ◌&&◌, ◌||◌, List, [], ◌∷◌, filter, slice_get, length}
use Rattle.std.specs.Prelude.{All, Option, Some, None, option_and_then, is_some, IfSome}
use Rattle.std.specs.List.{list_all}
use Rattle.shader_ir.specs.declared.scalar.Scalar as s
use Rattle.shader_ir.specs.declared.types.«Type».{«Type»}
use Rattle.shader_ir.specs.declared.types.TypeInner.{TypeInner}
use Rattle.shader_ir.specs.declared.types.TypeInner.TheVariants.{Scalar, Vector, Matrix, Struct}
use Rattle.shader_ir.specs.declared.proc.type_resolution.TypeResolution.{TypeResolution}
use Rattle.shader_ir.specs.declared.proc.type_resolution.TypeResolution.TheVariants as resolutions
use Rattle.shader_ir.specs.Conversion.{conversion, same_size}
use Rattle.shader_ir.specs.Key.{canonical, inner_of, FitsTypes, IsNoStruct}
use Rattle.shader_ir.specs.Scalars.{is_convertible}
use Rattle.shader_ir.specs.TreeQueries.{is_abstract}
use Rattle.shader_ir.specs.TypeTree.{PointsBelow, tree_of}
use Rattle.shader_overloads.specs.declared.overload_set.SetCall.{SetCall}
use Rattle.shader_overloads.specs.declared.overload_set.SetCall.TheVariants.{Arg, ConcreteOnly}
use Rattle.shader_overloads.specs.declared.rule.Rule.{Rule}
use Rattle.shader_overloads.specs.SameType.{same_type}

-- ---- abstract types

-- whether a type is given and isn't abstract
abbrev pub is_concrete : List «Type» → Option TypeInner → Bool
is_concrete types None = true
is_concrete types (Some inner) = not (is_abstract (tree_of types inner))

-- whether no argument of a rule is abstract
abbrev pub has_concrete_arguments : List «Type» → Rule → Bool
has_concrete_arguments types rule = list_all (λ argument. is_concrete types (inner_of types argument)) rule.arguments

-- ---- acceptance

-- the type of a rule's argument i, if it has one
abbrev pub argument_at : List «Type» → ℕ → Rule → Option TypeInner
argument_at types i rule = option_and_then (inner_of types) (slice_get rule.arguments i)

-- whether an argument of the second type accepts a value of the first: the same constructor, and a scalar to which the first's converts
abbrev pub takes : TypeInner → TypeInner → Bool
takes (Scalar from) (Scalar to) = is_convertible from to
takes (Vector m from) (Vector n to) = same_size m n && is_convertible from to
takes (Matrix columns rows from) (Matrix m n to) = same_size columns m && same_size rows n && is_convertible from to
takes _ _ = false

-- the scalar of a scalar, a vector or a matrix
abbrev pub leaf_scalar : TypeInner → Option s.Scalar
leaf_scalar (Scalar scalar) = Some scalar
leaf_scalar (Vector size scalar) = Some scalar
leaf_scalar (Matrix columns rows scalar) = Some scalar
leaf_scalar _ = None

abbrev pub some_takes : TypeInner → Option TypeInner → Bool
some_takes ty None = false
some_takes ty (Some argument) = takes ty argument

-- whether a rule of a regular set has an argument i that accepts a value of the type
abbrev pub accepts : List «Type» → ℕ → TypeInner → Rule → Bool
accepts types i ty rule = some_takes ty (argument_at types i rule)

-- whether an argument of the second type accepts a value of the first in a list: the same type, or one to which the first converts
abbrev pub list_takes : List «Type» → TypeInner → TypeInner → Bool
list_takes types ty argument =
    same_type (canonical types ty) (canonical types argument) || is_some (conversion (tree_of types ty) (tree_of types argument))

abbrev pub some_list_takes : List «Type» → TypeInner → Option TypeInner → Bool
some_list_takes types ty None = false
some_list_takes types ty (Some argument) = list_takes types ty argument

-- whether a rule of a list has an argument i that accepts a value of the type
abbrev pub list_accepts : List «Type» → ℕ → TypeInner → Rule → Bool
list_accepts types i ty rule = some_list_takes types ty (argument_at types i rule)

-- ---- remaining rules

-- whether a rule passes a call
abbrev pub passes : (List «Type» → ℕ → TypeInner → Rule → Bool) → List «Type» → Rule → SetCall → Bool
passes accepting types rule (Arg i ty) = accepting types i ty rule
passes accepting types rule ConcreteOnly = has_concrete_arguments types rule

-- the calls that supply the types as arguments, the first as argument i
abbrev pub supplying : ℕ → List TypeInner → List SetCall
supplying i [] = []
supplying i (ty ∷ tys) = Arg i ty ∷ supplying (i + 1) tys

-- the rules that pass all calls, in order
abbrev pub remaining : (List «Type» → ℕ → TypeInner → Rule → Bool) → List «Type» → List SetCall → List Rule → List Rule
remaining accepting types calls rules = filter (λ rule. list_all (passes accepting types rule) calls) rules

-- ---- preconditions of the calls

-- the handles of a rule's argument are in range, and it isn't a struct outside the arena
abbrev pub ArgumentFits : List «Type» → TypeResolution → Type 0
ArgumentFits types argument = FitsTypes types argument × IfSome (inner_of types argument) IsNoStruct

abbrev pub RuleFits : List «Type» → Rule → Type 0
RuleFits types rule = All (ArgumentFits types) rule.arguments

-- the arguments of all rules fit
pub record RulesFit (types : List «Type») (rules : List Rule) : Type 0 where
  pub each : All (RuleFits types) rules

-- the type is a struct outside the arena
abbrev pub is_free_struct : TypeResolution → Bool
is_free_struct (resolutions.Value (Struct span members)) = true
is_free_struct _ = false

abbrev pub has_no_struct : Rule → Bool
has_no_struct rule = list_all (λ argument. not (is_free_struct argument)) rule.arguments

-- the handles of a type that a call supplies are in range
abbrev pub CallFits : List «Type» → SetCall → Type 0
CallFits types (Arg i ty) = PointsBelow (length types) ty
CallFits types ConcreteOnly = Unit {0}

-- the type that a call supplies isn't a struct
abbrev pub SuppliesNoStruct : SetCall → Type 0
SuppliesNoStruct (Arg i ty) = IsNoStruct ty
SuppliesNoStruct ConcreteOnly = Unit {0}
