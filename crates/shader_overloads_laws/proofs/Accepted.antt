-- The remaining rules of the built-in functions, by the types of their arguments.
use Rattle.std.proofs.Common.{◌≡◌, ◌∙◌, ap, sym, refl, inl, inr, ℕ, zero, suc, Bool, true, false}
use Rattle.std.proofs.Common.{◌&&◌, List, [], ◌∷◌, Option, Some, None, slice_get}
use Rattle.std.specs.List.{filter, list_all}
use Rattle.std.specs.Option.{option_and_then}
use Rattle.std.proofs.lemmas.Bool.{and_parts, both_ways, cases_Bool}
use Rattle.shader_ir.specs.declared.operators.MathFunction.{MathFunction}
use Rattle.shader_ir.specs.declared.operators.MathFunction.TheVariants as f
use Rattle.shader_ir.specs.declared.scalar.Scalar as s
use Rattle.shader_ir.specs.declared.types.«Type».{«Type»}
use Rattle.shader_ir.specs.declared.types.TypeInner.{TypeInner}
use Rattle.shader_ir.specs.declared.types.TypeInner.TheVariants.{Scalar, Vector, Matrix}
use Rattle.shader_ir.specs.Conversion.{same_size, scalar_converts}
use Rattle.shader_ir.specs.Scalars.{is_convertible}
use Rattle.shader_overloads.specs.declared.overload_set.SetCall.{SetCall}
use Rattle.shader_overloads.specs.declared.overload_set.SetCall.TheVariants.{Arg, ConcreteOnly}
use Rattle.shader_overloads.specs.declared.rule.Rule.{Rule}
use Rattle.shader_overloads.specs.AcceptanceLaws.{is_named, is_named_or_none}
use Rattle.shader_overloads.specs.BuiltinGroups.{is_listed}
use Rattle.shader_overloads.specs.Builtins.{acceptance_of, rules_of}
use Rattle.shader_overloads.specs.Rank.{conversion_rank, leaf_rank, rank_at}
use Rattle.shader_overloads.specs.Remaining.{accepts, leaf_scalar, list_accepts, passes}
use Rattle.shader_overloads.specs.Remaining.{remaining, some_list_takes, some_takes, takes}
use Rattle.shader_overloads.proofs.AgreementLemmas.{all_at, list_takes_plainly, takes_plainly}
use Rattle.shader_overloads.proofs.BuiltinLemmas.{is_named_inner, is_named_rule, rules_named}
use Rattle.shader_overloads_laws.specs.Optimality.{remaining_of}
use Rattle.shader_overloads_laws.proofs.Arguments.{argument_is, concrete_is, inners, inners_named, is_plain_concrete}
use Rattle.shader_overloads_laws.proofs.Arguments.{built_rank, plain_takes_parts, same_built, leaf}
use Rattle.shader_overloads_laws.proofs.Filters.{filter_each}
use Rattle.shader_overloads_laws.proofs.Scalars.{convertible_named}

-- ---- one argument

-- whether an argument accepts a value of the type
abbrev pub is_taken : TypeInner → TypeInner → Bool
is_taken ty f = same_built ty f && scalar_converts (leaf ty) (leaf f)

abbrev pub some_taken : TypeInner → Option TypeInner → Bool
some_taken ty None = false
some_taken ty (Some f) = is_taken ty f

-- the rank of the type at an argument
abbrev pub taken_rank : TypeInner → Option TypeInner → Option ℕ
taken_rank ty None = None
taken_rank ty (Some f) = conversion_rank (leaf ty) (leaf f)

abbrev pub are_concrete : List TypeInner → Bool
are_concrete fs = list_all is_plain_concrete fs

unconvertible : (a b : s.Scalar) → is_named a ≡ false → is_convertible a b ≡ false
unconvertible a b odd = elim (cases_Bool (is_convertible a b)) [
  | inl converts ↦ absurd (both_ways (is_named a) odd (convertible_named a b converts))
  | inr other ↦ other
]

and_false : (a b : Bool) → b ≡ false → (a && b) ≡ false
and_false true b e = e
and_false false b e = refl

and_false_twice : (a b c : Bool) → c ≡ false → (a && b && c) ≡ false
and_false_twice true b c e = and_false b c e
and_false_twice false b c e = refl

unnamed_untaken : (ty inner : TypeInner) → is_named_or_none (leaf_scalar ty) ≡ false → takes ty inner ≡ false
unnamed_untaken (Scalar a) (Scalar b) odd = unconvertible a b odd
unnamed_untaken (Vector m a) (Vector n b) odd = and_false (same_size m n) (is_convertible a b) (unconvertible a b odd)
unnamed_untaken (Matrix c r a) (Matrix m n b) odd = and_false_twice (same_size c m) (same_size r n) (is_convertible a b)
    (unconvertible a b odd)
unnamed_untaken ty inner odd = refl

takes_is : (ty inner : TypeInner) → is_named_inner inner ≡ true → takes ty inner ≡ (is_named_or_none (leaf_scalar ty) && is_taken ty inner)
takes_is ty inner named = elim (cases_Bool (is_named_or_none (leaf_scalar ty))) [
  | inl reported ↦ takes_plainly ty inner reported named ∙ plain_takes_parts ty inner ∙ sym (ap (λ b. b && is_taken ty inner) reported)
  | inr odd ↦ unnamed_untaken ty inner odd ∙ sym (ap (λ b. b && is_taken ty inner) odd)
]

-- whether a set of the kind accepts values of the type at all: a regular set knows only named scalars
abbrev pub allows : Bool → TypeInner → Bool
allows true ty = true
allows false ty = is_named_or_none (leaf_scalar ty)

abbrev pub accepting : Bool → List «Type» → ℕ → TypeInner → Rule → Bool
accepting true = list_accepts
accepting false = accepts

module _ (types : List «Type») (ty : TypeInner) where
  some_list_taken : (all : List TypeInner) (i : ℕ) → list_all is_named_inner all ≡ true →
      some_list_takes types ty (slice_get all i) ≡ some_taken ty (slice_get all i)
  some_list_taken [] i named = refl
  some_list_taken (inner ∷ all) zero named = sym (list_takes_plainly types ty inner
      (and_parts (is_named_inner inner) (list_all is_named_inner all) named).0) ∙ plain_takes_parts ty inner
  some_list_taken (inner ∷ all) (suc i) named = some_list_taken all i
      (and_parts (is_named_inner inner) (list_all is_named_inner all) named).1

  some_regular_taken : (all : List TypeInner) (i : ℕ) → list_all is_named_inner all ≡ true →
      some_takes ty (slice_get all i) ≡ (is_named_or_none (leaf_scalar ty) && some_taken ty (slice_get all i))
  some_regular_taken [] i named = sym (and_false (is_named_or_none (leaf_scalar ty)) false refl)
  some_regular_taken (inner ∷ all) zero named = takes_is ty inner (and_parts (is_named_inner inner) (list_all is_named_inner all) named).0
  some_regular_taken (inner ∷ all) (suc i) named = some_regular_taken all i
      (and_parts (is_named_inner inner) (list_all is_named_inner all) named).1

  accepts_is : (listed : Bool) (rule : Rule) (i : ℕ) → is_named_rule rule ≡ true →
      accepting listed types i ty rule ≡ (allows listed ty && some_taken ty (slice_get (inners rule) i))
  accepts_is true rule i named = ap (some_list_takes types ty) (argument_is types rule i named)
      ∙ some_list_taken (inners rule) i (inners_named rule.arguments named)
  accepts_is false rule i named = ap (some_takes ty) (argument_is types rule i named)
      ∙ some_regular_taken (inners rule) i (inners_named rule.arguments named)

  found_rank : (found : Option TypeInner) → some_taken ty found ≡ true →
      leaf_rank (leaf_scalar ty) (option_and_then leaf_scalar found) ≡ taken_rank ty found
  found_rank None e = cc
  found_rank (Some inner) e = built_rank ty inner (and_parts (same_built ty inner) _ e).0

  -- the rank of a rule at an argument that it accepts
  pub rank_is : (rule : Rule) (i : ℕ) → is_named_rule rule ≡ true → some_taken ty (slice_get (inners rule) i) ≡ true →
      rank_at types i ty rule ≡ taken_rank ty (slice_get (inners rule) i)
  rank_is rule i named taken =
      ap (λ found. leaf_rank (leaf_scalar ty) (option_and_then leaf_scalar found)) (argument_is types rule i named)
      ∙ found_rank (slice_get (inners rule) i) taken

-- ---- all calls

-- whether a rule of a set of the kind passes a call
abbrev pub pass : Bool → Rule → SetCall → Bool
pass listed rule (Arg i ty) = allows listed ty && some_taken ty (slice_get (inners rule) i)
pass listed rule ConcreteOnly = are_concrete (inners rule)

abbrev pub stays : Bool → List SetCall → Rule → Bool
stays listed calls rule = list_all (pass listed rule) calls

pass_is : (types : List «Type») (listed : Bool) (rule : Rule) (call : SetCall) → is_named_rule rule ≡ true →
    passes (accepting listed) types rule call ≡ pass listed rule call
pass_is types listed rule (Arg i ty) named = accepts_is types ty listed rule i named
pass_is types listed rule ConcreteOnly named = concrete_is types rule named

stays_is : (types : List «Type») (listed : Bool) (calls : List SetCall) (rule : Rule) → is_named_rule rule ≡ true →
    list_all (passes (accepting listed) types rule) calls ≡ stays listed calls rule
stays_is types listed [] rule named = refl
stays_is types listed (call ∷ calls) rule named =
    ap (λ b. b && list_all (passes (accepting listed) types rule) calls) (pass_is types listed rule call named)
    ∙ ap (λ b. pass listed rule call && b) (stays_is types listed calls rule named)

acceptance_is : (function : MathFunction) → acceptance_of function ≡ accepting (is_listed function)
acceptance_is f.Ldexp = refl
acceptance_is _ = refl

-- the remaining rules of a built-in function
pub remaining_is : (function : MathFunction) (types : List «Type») (calls : List SetCall) →
    remaining_of function types calls ≡ filter (stays (is_listed function) calls) (rules_of function)
remaining_is function types calls =
    ap (λ accept. remaining accept types calls (rules_of function)) (acceptance_is function)
    ∙ filter_each (λ rule. list_all (passes (accepting (is_listed function)) types rule) calls) (stays (is_listed function) calls)
    (rules_of function) (λ k rule at. stays_is types (is_listed function) calls rule
    (all_at is_named_rule (rules_of function) k rule (rules_named function) at))

-- a remaining rule accepts the supplied types
pub taken_at : (listed : Bool) (calls : List SetCall) (rule : Rule) (call i : ℕ) (ty : TypeInner) → stays listed calls rule ≡ true →
    slice_get calls call ≡ Some (Arg i ty) → some_taken ty (slice_get (inners rule) i) ≡ true
taken_at listed calls rule call i ty stay at = (and_parts (allows listed ty) _ (all_at (pass listed rule) calls call (Arg i ty) stay at)).1
