-- Which scalars calls leave of the rules of an overload set, and why the preferred rule is never beaten. The order of the rules isn't that
-- of the conversion ranks: from an abstract integer the abstract float has rank 10, and i32, which stands after it, rank 4. But calls can
-- leave only few sets of scalars, and none has these two without the abstract integer, which stands before both.
use Rattle.std.specs.Prelude.{◌≡◌, ◌<◌, ◌≤◌, ◌&&◌, ℕ, Bool, true, false, IsTrue, List, [], ◌∷◌, ◌++◌, filter, map, nat_lt}
use Rattle.std.specs.Prelude.{Contains, Option, Some, None, option_and_then, slice_get}
use Rattle.std.specs.List.{list_all, list_any}
use Rattle.shader_ir.specs.declared.operators.MathFunction.{MathFunction}
use Rattle.shader_ir.specs.declared.scalar.Scalar as s
use Rattle.shader_ir.specs.declared.types.«Type».{«Type»}
use Rattle.shader_ir.specs.declared.types.TypeInner.{TypeInner}
use Rattle.shader_ir.specs.declared.types.TypeInner.TheVariants.{Scalar, Vector, Matrix}
use Rattle.shader_ir.specs.Conversion.{same_size}
use Rattle.shader_ir.specs.Scalars.{abstract_float, abstract_int, integers, is_convertible, named_scalars, same_scalar}
use Rattle.shader_overloads.specs.declared.constructor_set.ConstructorSize.{ConstructorSize}
use Rattle.shader_overloads.specs.declared.overload_set.SetCall.{SetCall}
use Rattle.shader_overloads.specs.declared.overload_set.SetCall.TheVariants.{Arg, ConcreteOnly}
use Rattle.shader_overloads.specs.declared.regular.ConclusionRule.{ConclusionRule}
use Rattle.shader_overloads.specs.declared.rule.Rule.{Rule}
use Rattle.shader_overloads.specs.AcceptanceLaws.{is_named}
use Rattle.shader_overloads.specs.Builtins.{rules_of}
use Rattle.shader_overloads.specs.Constructors.{is_built_by}
use Rattle.shader_overloads.specs.Rank.{rank_at}
use Rattle.shader_overloads.specs.Remaining.{accepts, argument_at, leaf_scalar, remaining}
use Rattle.shader_overloads.specs.Rules.{regular_rules}
use Rattle.shader_overloads.specs.ScalarSets.{is_concrete_scalar}
use Rattle.shader_overloads_laws.specs.Optimality.{remaining_of}

-- ---- the sets that can arise

-- whether a set has a scalar
abbrev pub is_in : List s.Scalar → s.Scalar → Bool
is_in set scalar = list_any (same_scalar scalar) set

-- the scalars of a base set that are in another set
abbrev pub meet : List s.Scalar → List s.Scalar → List s.Scalar
meet base set = filter (is_in set) base

-- the concrete scalars of a set
abbrev pub concrete : List s.Scalar → List s.Scalar
concrete set = filter is_concrete_scalar set

-- the up-set of a scalar, those to which it converts automatically: all numbers, all floats, or a concrete scalar alone
abbrev pub targets : s.Scalar → List s.Scalar
targets source = filter (is_convertible source) named_scalars

-- all scalars, as long as no argument is supplied; none; and the targets of each scalar
abbrev pub target_sets : List (List s.Scalar)
target_sets = named_scalars ∷ [] ∷ map targets named_scalars

-- the sets that can arise: these, and after ConcreteOnly the concrete scalars of each
abbrev pub arising_sets : List (List s.Scalar)
arising_sets = target_sets ++ map concrete target_sets

-- what is left of a base set is its meet with one of these
abbrev pub Arises : List s.Scalar → List s.Scalar → Type 0
Arises base left = (set : List s.Scalar) × Contains arising_sets set × (left ≡ meet base set)

-- two scalars convert to nothing in common, or to what one of them converts to: so several arguments leave no other sets than one
abbrev pub TargetsNest : Type 0
TargetsNest = (a b : s.Scalar) → Contains ([] ∷ targets a ∷ targets b ∷ []) (meet (targets a) (targets b))

-- a set that can arise and has the abstract float and an integer has the abstract integer too
abbrev pub MixedSetsHaveAbstractInts : Type 0
MixedSetsHaveAbstractInts =
    (set : List s.Scalar) (integer : s.Scalar) → Contains arising_sets set → IsTrue (is_in integers integer)
    → IsTrue (is_in set abstract_float) → IsTrue (is_in set integer) → IsTrue (is_in set abstract_int)

-- ---- regular sets: the rules of each constructor with each scalar of a base set

abbrev pub leaf_converts : Option s.Scalar → s.Scalar → Bool
leaf_converts (Some from) to = is_convertible from to
leaf_converts None to = false

-- whether a call leaves a scalar: an argument leaves the targets of its leaf scalar, and ConcreteOnly the concrete scalars
abbrev pub leaves_scalar : s.Scalar → SetCall → Bool
leaves_scalar scalar (Arg i ty) = leaf_converts (leaf_scalar ty) scalar
leaves_scalar scalar ConcreteOnly = is_concrete_scalar scalar

-- whether a call leaves a constructor: an argument that the rules have leaves the one that builds its type
abbrev pub leaves_constructor : ℕ → ConstructorSize → SetCall → Bool
leaves_constructor arity size (Arg i ty) = nat_lt i arity && is_built_by ty size
leaves_constructor arity size ConcreteOnly = true

abbrev pub scalars_left : List SetCall → List s.Scalar → List s.Scalar
scalars_left calls base = filter (λ scalar. list_all (leaves_scalar scalar) calls) base

abbrev pub constructors_left : ℕ → List SetCall → List ConstructorSize → List ConstructorSize
constructors_left arity calls sizes = filter (λ size. list_all (leaves_constructor arity size) calls) sizes

-- a rule is left exactly if its constructor and its scalar are: so what calls leave of a regular set is regular too
abbrev pub RegularSetsStayRegular : Type 0
RegularSetsStayRegular =
    (types : List «Type») (calls : List SetCall) (arity : ℕ) (conclude : ConclusionRule) (sizes : List ConstructorSize)
    (base : List s.Scalar) → 0 < arity
    → remaining accepts types calls (regular_rules arity conclude sizes base)
    ≡ regular_rules arity conclude (constructors_left arity calls sizes) (scalars_left calls base)

-- the scalars that calls leave of a base set are a set that can arise
abbrev pub RegularScalarsArise : Type 0
RegularScalarsArise =
    (calls : List SetCall) (base : List s.Scalar) → IsTrue (list_all is_named base) → Arises base (scalars_left calls base)

-- ---- all built-in functions, with a regular set or a list

-- whether both types have the same constructor, whatever their scalars
abbrev pub is_built_alike : TypeInner → TypeInner → Bool
is_built_alike (Scalar a) (Scalar b) = true
is_built_alike (Vector m a) (Vector n b) = same_size m n
is_built_alike (Matrix columns rows a) (Matrix m n b) = same_size columns m && same_size rows n
is_built_alike _ _ = false

abbrev pub is_some_built_alike : TypeInner → Option TypeInner → Bool
is_some_built_alike ty None = false
is_some_built_alike ty (Some argument) = is_built_alike ty argument

-- whether a rule has the argument that a call supplies, of the same constructor
abbrev pub has_shape : List «Type» → Rule → SetCall → Bool
has_shape types rule (Arg i ty) = is_some_built_alike ty (argument_at types i rule)
has_shape types rule ConcreteOnly = true

abbrev pub is_some_in : List s.Scalar → Option s.Scalar → Bool
is_some_in set None = false
is_some_in set (Some scalar) = is_in set scalar

-- the scalar of a rule: the leaf scalar of its first argument
abbrev pub first_scalar : List «Type» → Rule → Option s.Scalar
first_scalar types rule = option_and_then leaf_scalar (argument_at types 0 rule)

-- the rules whose scalar is in a set
abbrev pub rules_with : MathFunction → List «Type» → List s.Scalar → List Rule
rules_with function types set = filter (λ rule. is_some_in set (first_scalar types rule)) (rules_of function)

-- the rules of the shapes that fit the arguments
abbrev pub of_shape : List «Type» → List SetCall → List Rule → List Rule
of_shape types calls rules = filter (λ rule. list_all (has_shape types rule) calls) rules

-- calls leave, of the shapes that fit, the rules with the scalars of one set that can arise, the same for each shape
abbrev pub ScalarSetsArise : Type 0
ScalarSetsArise =
    (function : MathFunction) (types : List «Type») (calls : List SetCall) → (set : List s.Scalar) × Contains arising_sets set
    × (remaining_of function types calls ≡ of_shape types calls (rules_with function types set))

-- of the rules of some shapes with the scalars of a set that can arise, none has a smaller rank at an argument than the first
abbrev pub FirstRulesAreBest : Type 0
FirstRulesAreBest =
    (function : MathFunction) (types : List «Type») (calls : List SetCall) (set : List s.Scalar) (first other : Rule)
    (position i rank other_rank : ℕ) (ty : TypeInner) → Contains arising_sets set
    → slice_get (of_shape types calls (rules_with function types set)) 0 ≡ Some first
    → slice_get (of_shape types calls (rules_with function types set)) position ≡ Some other
    → rank_at types i ty first ≡ Some rank → rank_at types i ty other ≡ Some other_rank → rank ≤ other_rank
