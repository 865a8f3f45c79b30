-- The types of arguments of the rules of the built-in functions: scalars, vectors and matrices.
use Rattle.std.proofs.Common.{◌≡◌, ◌∙◌, ap, sym, refl, ℕ, zero, suc, Bool, true, false}
use Rattle.std.proofs.Common.{◌&&◌, List, [], ◌∷◌, map, Option, Some, None, slice_get}
use Rattle.std.specs.List.{list_all}
use Rattle.std.specs.Option.{is_some, option_and_then}
use Rattle.std.proofs.lemmas.Bool.{and_from, and_parts}
use Rattle.shader_ir.specs.declared.scalar.Scalar as s
use Rattle.shader_ir.specs.declared.scalar.ScalarKind.TheVariants as kinds
use Rattle.shader_ir.specs.declared.scalar.VectorSize.{VectorSize}
use Rattle.shader_ir.specs.declared.scalar.VectorSize.TheVariants.{Bi, Tri, Quad}
use Rattle.shader_ir.specs.declared.types.«Type».{«Type»}
use Rattle.shader_ir.specs.declared.types.TypeInner.{TypeInner}
use Rattle.shader_ir.specs.declared.types.TypeInner.TheVariants.{Scalar, Vector, Matrix}
use Rattle.shader_ir.specs.declared.proc.type_resolution.TypeResolution.{TypeResolution}
use Rattle.shader_ir.specs.declared.proc.type_resolution.TypeResolution.TheVariants.{Handle, Value}
use Rattle.shader_ir.specs.Conversion.{same_size, scalar_converts}
use Rattle.shader_ir.specs.Key.{inner_of}
use Rattle.shader_ir.specs.Scalars.{scalar}
use Rattle.shader_overloads.specs.declared.constructor_set.ConstructorSize.{ConstructorSize}
use Rattle.shader_overloads.specs.declared.constructor_set.ConstructorSize.TheVariants as sizes
use Rattle.shader_overloads.specs.declared.rule.Rule.{Rule}
use Rattle.shader_overloads.specs.AcceptanceLaws.{is_named}
use Rattle.shader_overloads.specs.Constructors.{same_constructor}
use Rattle.shader_overloads.specs.Rank.{conversion_rank, leaf_rank}
use Rattle.shader_overloads.specs.Remaining.{argument_at, has_concrete_arguments, is_concrete, leaf_scalar}
use Rattle.shader_overloads.specs.ScalarSets.{is_concrete_scalar}
use Rattle.shader_overloads.proofs.AgreementLemmas.{plain_takes}
use Rattle.shader_overloads.proofs.BuiltinLemmas.{is_named_argument, is_named_inner, is_named_rule}

-- ---- constructor and leaf of a type

abbrev pub constructor_of : TypeInner → Option ConstructorSize
constructor_of (Scalar a) = Some sizes.Scalar
constructor_of (Vector n a) = Some (sizes.Vector n)
constructor_of (Matrix m n a) = Some (sizes.Matrix m n)
constructor_of _ = None

abbrev pub same_found : Option ConstructorSize → Option ConstructorSize → Bool
same_found (Some a) (Some b) = same_constructor a b
same_found _ _ = false

-- both have the same constructor
abbrev pub same_built : TypeInner → TypeInner → Bool
same_built a b = same_found (constructor_of a) (constructor_of b)

-- the leaf scalar; for a type without one the value doesn't matter
abbrev pub leaf : TypeInner → s.Scalar
leaf (Scalar a) = a
leaf (Vector n a) = a
leaf (Matrix m n a) = a
leaf _ = scalar kinds.Bool 1

pub same_size_reported : (m n : VectorSize) → same_size m n ≡ true → m ≡ n
same_size_reported Bi Bi e = refl
same_size_reported Tri Tri e = refl
same_size_reported Quad Quad e = refl
same_size_reported _ _ e = cc

same_constructor_reported : (a b : ConstructorSize) → same_constructor a b ≡ true → a ≡ b
same_constructor_reported sizes.Scalar sizes.Scalar e = refl
same_constructor_reported (sizes.Vector m) (sizes.Vector n) e = ap sizes.Vector (same_size_reported m n e)
same_constructor_reported (sizes.Matrix c r) (sizes.Matrix m n) e =
    let parts = and_parts (same_size c m) (same_size r n) e in
    ap (λ x. sizes.Matrix x r) (same_size_reported c m parts.0) ∙ ap (sizes.Matrix m) (same_size_reported r n parts.1)
same_constructor_reported _ _ e = cc

same_found_told : (a b : Option ConstructorSize) → same_found a b ≡ true → a ≡ b
same_found_told (Some a) (Some b) e = ap Some (same_constructor_reported a b e)
same_found_told (Some a) None e = cc
same_found_told None b e = cc

pub same_built_reported : (a b : TypeInner) → same_built a b ≡ true → constructor_of a ≡ constructor_of b
same_built_reported a b e = same_found_told (constructor_of a) (constructor_of b) e

pub found_first : (a b : Option ConstructorSize) → same_found a b ≡ true → is_some a ≡ true
found_first (Some a) (Some b) e = refl
found_first (Some a) None e = cc
found_first None b e = cc

found_second : (a b : Option ConstructorSize) → same_found a b ≡ true → is_some b ≡ true
found_second (Some a) (Some b) e = refl
found_second (Some a) None e = cc
found_second None b e = cc

built_leaf : (a : TypeInner) → is_some (constructor_of a) ≡ true → leaf_scalar a ≡ Some (leaf a)
built_leaf (Scalar a) e = refl
built_leaf (Vector n a) e = refl
built_leaf (Matrix m n a) e = refl
built_leaf _ e = cc

-- the rank of an argument that has the constructor of the type supplied
pub built_rank : (ty a : TypeInner) → same_built ty a ≡ true →
    leaf_rank (leaf_scalar ty) (leaf_scalar a) ≡ conversion_rank (leaf ty) (leaf a)
built_rank ty a e =
    ap (λ o. leaf_rank o (leaf_scalar a)) (built_leaf ty (found_first (constructor_of ty) (constructor_of a) e))
    ∙ ap (leaf_rank (Some (leaf ty))) (built_leaf a (found_second (constructor_of ty) (constructor_of a) e))

pub same_parts : (a b : TypeInner) → is_some (constructor_of a) ≡ true → constructor_of a ≡ constructor_of b → leaf a ≡ leaf b → a ≡ b
same_parts (Scalar a) (Scalar b) some c l = ap Scalar l
same_parts (Vector m a) (Vector n b) some c l = let size : m ≡ n = cc in ap (λ x. Vector x a) size ∙ ap (Vector n) l
same_parts (Matrix m n a) (Matrix p q b) some c l =
    let columns : m ≡ p = cc in
    let rows : n ≡ q = cc in
    ap (λ x. Matrix x n a) columns ∙ ap (λ x. Matrix p x a) rows ∙ ap (Matrix p q) l
same_parts a b some c l = cc

-- a constructor and a leaf scalar determine the type
pub built_same : (ty a b : TypeInner) → same_built ty a ≡ true → same_built ty b ≡ true → leaf a ≡ leaf b → a ≡ b
built_same ty a b p q l =
    same_parts a b (found_second (constructor_of ty) (constructor_of a) p) (sym (same_built_reported ty a p) ∙ same_built_reported ty b q) l

and_assoc : (a b c : Bool) → (a && b && c) ≡ ((a && b) && c)
and_assoc true b c = refl
and_assoc false b c = refl

-- an argument accepts types of its constructor whose scalar converts
pub plain_takes_parts : (ty a : TypeInner) → plain_takes ty a ≡ (same_built ty a && scalar_converts (leaf ty) (leaf a))
plain_takes_parts (Scalar a) (Scalar b) = refl
plain_takes_parts (Vector m a) (Vector n b) = refl
plain_takes_parts (Matrix c r a) (Matrix m n b) = and_assoc (same_size c m) (same_size r n) (scalar_converts a b)
plain_takes_parts (Scalar a) (Vector n b) = refl
plain_takes_parts (Scalar a) (Matrix m n b) = refl
plain_takes_parts (Vector n a) (Scalar b) = refl
plain_takes_parts (Vector n a) (Matrix p q b) = refl
plain_takes_parts (Matrix m n a) (Scalar b) = refl
plain_takes_parts (Matrix m n a) (Vector p b) = refl
plain_takes_parts (Scalar a) _ = refl
plain_takes_parts (Vector n a) _ = refl
plain_takes_parts (Matrix m n a) _ = refl
plain_takes_parts _ _ = refl

-- ---- arguments as types

abbrev pub plain : TypeResolution → TypeInner
plain (Value inner) = inner
plain (Handle handle) = Scalar (scalar kinds.Bool 1)

-- the types of a rule's arguments
abbrev pub inners : Rule → List TypeInner
inners rule = map plain rule.arguments

abbrev pub is_plain_concrete : TypeInner → Bool
is_plain_concrete inner = is_concrete_scalar (leaf inner)

module _ (types : List «Type») where
  plain_inner : (argument : TypeResolution) → is_named_argument argument ≡ true → inner_of types argument ≡ Some (plain argument)
  plain_inner (Value inner) named = refl
  plain_inner (Handle handle) named = cc

  plain_at : (arguments : List TypeResolution) (i : ℕ) → list_all is_named_argument arguments ≡ true →
      option_and_then (inner_of types) (slice_get arguments i) ≡ slice_get (map plain arguments) i
  plain_at [] i named = refl
  plain_at (argument ∷ arguments) zero named = plain_inner argument
      (and_parts (is_named_argument argument) (list_all is_named_argument arguments) named).0
  plain_at (argument ∷ arguments) (suc i) named = plain_at arguments i
      (and_parts (is_named_argument argument) (list_all is_named_argument arguments) named).1

  pub argument_is : (rule : Rule) (i : ℕ) → is_named_rule rule ≡ true → argument_at types i rule ≡ slice_get (inners rule) i
  argument_is rule i named = plain_at rule.arguments i named

  concrete_inner : (inner : TypeInner) → is_named_inner inner ≡ true → is_concrete types (Some inner) ≡ is_plain_concrete inner
  concrete_inner (Scalar a) named = refl
  concrete_inner (Vector n a) named = refl
  concrete_inner (Matrix m n a) named = refl
  concrete_inner _ named = cc

  concrete_argument : (argument : TypeResolution) → is_named_argument argument ≡ true →
      is_concrete types (inner_of types argument) ≡ is_plain_concrete (plain argument)
  concrete_argument (Value inner) named = concrete_inner inner named
  concrete_argument (Handle handle) named = cc

  concrete_all : (arguments : List TypeResolution) → list_all is_named_argument arguments ≡ true →
      list_all (λ argument. is_concrete types (inner_of types argument)) arguments ≡ list_all is_plain_concrete (map plain arguments)
  concrete_all [] named = refl
  concrete_all (argument ∷ arguments) named =
      let parts = and_parts (is_named_argument argument) (list_all is_named_argument arguments) named in
      ap (λ b. b && list_all (λ a. is_concrete types (inner_of types a)) arguments) (concrete_argument argument parts.0)
      ∙ ap (λ b. is_plain_concrete (plain argument) && b) (concrete_all arguments parts.1)

  pub concrete_is : (rule : Rule) → is_named_rule rule ≡ true → has_concrete_arguments types rule ≡ list_all is_plain_concrete (inners rule)
  concrete_is rule named = concrete_all rule.arguments named

pub values_of : (arguments : List TypeResolution) → list_all is_named_argument arguments ≡ true →
    arguments ≡ map Value (map plain arguments)
values_of [] named = refl
values_of (Value inner ∷ arguments) named = ap (λ xs. Value inner ∷ xs)
    (values_of arguments (and_parts (is_named_inner inner) (list_all is_named_argument arguments) named).1)
values_of (Handle handle ∷ arguments) named = cc

inner_leaf_named : (inner : TypeInner) → is_named_inner inner ≡ true → is_named (leaf inner) ≡ true
inner_leaf_named (Scalar a) named = named
inner_leaf_named (Vector n a) named = named
inner_leaf_named (Matrix m n a) named = named
inner_leaf_named _ named = cc

argument_inner_named : (argument : TypeResolution) → is_named_argument argument ≡ true → is_named_inner (plain argument) ≡ true
argument_inner_named (Value inner) named = named
argument_inner_named (Handle handle) named = cc

abbrev pub is_leaf_named : TypeInner → Bool
is_leaf_named inner = is_named (leaf inner)

pub inners_named : (arguments : List TypeResolution) → list_all is_named_argument arguments ≡ true →
    list_all is_named_inner (map plain arguments) ≡ true
inners_named [] named = refl
inners_named (argument ∷ arguments) named =
    let parts = and_parts (is_named_argument argument) (list_all is_named_argument arguments) named in
    and_from _ _ (argument_inner_named argument parts.0) (inners_named arguments parts.1)

pub leafs_named : (all : List TypeInner) → list_all is_named_inner all ≡ true → list_all is_leaf_named all ≡ true
leafs_named [] named = refl
leafs_named (inner ∷ all) named =
    let parts = and_parts (is_named_inner inner) (list_all is_named_inner all) named in
    and_from _ _ (inner_leaf_named inner parts.0) (leafs_named all parts.1)
