-- Regular sets and lists accept the same types on the rules of the built-in functions.
use Rattle.std.proofs.Common.{◌≡◌, ◌∙◌, ap, sym, refl, ℕ, zero, suc, Bool, true, false, not}
use Rattle.std.proofs.Common.{cond, ◌&&◌, ◌||◌, List, [], ◌∷◌, Option, Some, None, slice_get}
use Rattle.std.specs.Option.{option_and_then}
use Rattle.std.specs.List.{list_all, list_any}
use Rattle.std.specs.Option.{is_some}
use Rattle.std.proofs.lemmas.Bool.{and_from, and_parts, both_ways, eqb-true}
use Rattle.shader_ir.specs.declared.scalar.Scalar as s
use Rattle.shader_ir.specs.declared.scalar.ScalarKind.{ScalarKind}
use Rattle.shader_ir.specs.declared.scalar.ScalarKind.TheVariants as kinds
use Rattle.shader_ir.specs.declared.types.«Type».{«Type»}
use Rattle.shader_ir.specs.declared.types.AddressSpace.{AddressSpace}
use Rattle.shader_ir.specs.declared.types.TypeInner.{TypeInner}
use Rattle.shader_ir.specs.declared.types.TypeInner.TheVariants.{Scalar, Vector, Matrix, Pointer}
use Rattle.shader_ir.specs.declared.proc.type_resolution.TypeResolution.{TypeResolution}
use Rattle.shader_ir.specs.declared.proc.type_resolution.TypeResolution.TheVariants.{Handle, Value}
use Rattle.shader_ir.specs.Conversion.{same_size, scalar_conversion, scalar_converts, scalar_converts-named, kind_converts}
use Rattle.shader_ir.specs.Key.{inner_of, pointer_at, pointer_to}
use Rattle.shader_ir.specs.Scalars.{is_convertible, named_scalars, same_kind, same_scalar, scalar}
use Rattle.shader_overloads.specs.AcceptanceLaws.{AcceptancesAgree, is_named, is_named_or_none}
use Rattle.shader_overloads.specs.Builtins.{rules_of}
use Rattle.shader_overloads.specs.Remaining.{leaf_scalar, list_takes, some_list_takes, some_takes, takes}
use Rattle.shader_overloads.specs.SameType.{same_type}
use Rattle.shader_overloads.proofs.BuiltinLemmas.{is_named_inner, is_named_argument, is_named_rule, rules_named}
use Rattle.shader_overloads.proofs.SetLemmas.{same_scalar_self, same_size_self}
use Rattle.shader_overloads.proofs.TakesLemmas.{same_type-reported}

-- ---- scalars

same_kind_reported : (j k : ScalarKind) → same_kind j k ≡ true → j ≡ k
same_kind_reported kinds.Sint kinds.Sint h = refl
same_kind_reported kinds.Uint kinds.Uint h = refl
same_kind_reported kinds.Float kinds.Float h = refl
same_kind_reported kinds.Bool kinds.Bool h = refl
same_kind_reported kinds.AbstractInt kinds.AbstractInt h = refl
same_kind_reported kinds.AbstractFloat kinds.AbstractFloat h = refl
same_kind_reported j k h = absurd (both_ways false refl h)

pub same_scalar_reported : (a b : s.Scalar) → same_scalar a b ≡ true → a ≡ b
same_scalar_reported a b h =
    let parts = and_parts (same_kind a.kind b.kind) _ h in
    ap (λ k. scalar k a.width) (same_kind_reported a.kind b.kind parts.0) ∙ ap (λ w. scalar b.kind w) (eqb-true a.width b.width parts.1)

has_all_step : (p : s.Scalar → Bool) (a b : s.Scalar) (all : List s.Scalar) (found : Bool) → same_scalar a b ≡ found →
    (found || list_any (same_scalar a) all) ≡ true → p b ≡ true → (list_any (same_scalar a) all ≡ true → p a ≡ true) → p a ≡ true
has_all_step p a b all true e h here later = ap p (same_scalar_reported a b e) ∙ here
has_all_step p a b all false e h here later = later h

-- a property of all scalars of a list holds of each scalar in it
pub has_all : (p : s.Scalar → Bool) (a : s.Scalar) (all : List s.Scalar) → list_any (same_scalar a) all ≡ true →
    list_all p all ≡ true → p a ≡ true
has_all p a [] any each = absurd (both_ways false refl any)
has_all p a (b ∷ all) any each =
    let parts = and_parts (p b) (list_all p all) each in
    has_all_step p a b all (same_scalar a b) refl any parts.0 (λ later. has_all p a all later parts.1)

decided : (a b : Bool) → cond a b (not b) ≡ true → a ≡ b
decided true true h = refl
decided true false h = absurd (both_ways false refl h)
decided false true h = absurd (both_ways false refl h)
decided false false h = refl

-- the conversions between named scalars are those listed
converts_named : (a b : s.Scalar) → is_named a ≡ true → is_named b ≡ true → scalar_converts a b ≡ is_convertible a b
converts_named a b m n =
    let from = has_all (λ from. list_all (λ to. cond (scalar_converts from to) (is_convertible from to) (not (is_convertible from to)))
    named_scalars) a named_scalars m scalar_converts-named in
    decided _ _ (has_all (λ to. cond (scalar_converts a to) (is_convertible a to) (not (is_convertible a to))) b named_scalars n from)

converts_self : (a b : s.Scalar) → a ≡ b → scalar_converts a b ≡ true
converts_self a b e = ap (scalar_converts a) (sym e) ∙ ap (λ v. v || kind_converts a.kind a.kind) (same_scalar_self a)

-- ---- types

-- whether an argument of the second type has the constructor of the first, and a scalar to whose kind that of the first converts
abbrev pub plain_takes : TypeInner → TypeInner → Bool
plain_takes (Scalar a) (Scalar b) = scalar_converts a b
plain_takes (Vector p a) (Vector q b) = same_size p q && scalar_converts a b
plain_takes (Matrix p q a) (Matrix c r b) = same_size p c && same_size q r && scalar_converts a b
plain_takes _ _ = false

-- regular sets accept by this test, for named scalars
pub takes_plainly : (ty inner : TypeInner) → is_named_or_none (leaf_scalar ty) ≡ true → is_named_inner inner ≡ true →
    takes ty inner ≡ plain_takes ty inner
takes_plainly (Scalar a) (Scalar b) m n = sym (converts_named a b m n)
takes_plainly (Vector p a) (Vector q b) m n = ap (λ v. same_size p q && v) (sym (converts_named a b m n))
takes_plainly (Matrix p q a) (Matrix c r b) m n = ap (λ v. same_size p c && same_size q r && v) (sym (converts_named a b m n))
takes_plainly ty inner m n = refl

absorbed : (a p : Bool) → (a ≡ true → p ≡ true) → (a || p) ≡ p
absorbed true p h = sym (h refl)
absorbed false p h = refl

is_some_cond : {X : Type 0} (v : Bool) (x : X) → is_some (cond v (Some x) None) ≡ v
is_some_cond true x = refl
is_some_cond false x = refl

some_conversion : (a b : s.Scalar) → is_some (scalar_conversion (Some a) (Some b)) ≡ scalar_converts a b
some_conversion a b =
    let pair : s.Scalar × s.Scalar = (a, b) in
    is_some_cond (scalar_converts a b) pair

shaped_conversion : (same : Bool) (a b : s.Scalar) → is_some (cond same (scalar_conversion (Some a) (Some b)) None)
    ≡ (same && scalar_converts a b)
shaped_conversion true a b = some_conversion a b
shaped_conversion false a b = refl

and_assoc : (a b c : Bool) → (a && b && c) ≡ ((a && b) && c)
and_assoc true b c = refl
and_assoc false b c = refl

mixed : (a : Bool) → (a ≡ true → ⊥) → false ≡ (a || false)
mixed true other = absurd (other refl)
mixed false other = refl

pointer_to-unnamed : (base : ℕ) (space : AddressSpace) (inner : TypeInner) → is_named_inner (pointer_to base space inner) ≡ false
pointer_to-unnamed base space (Scalar a) = refl
pointer_to-unnamed base space (Vector n a) = refl
pointer_to-unnamed base space inner = refl

pointer_at-unnamed : (base : ℕ) (space : AddressSpace) (found : Option «Type») → is_named_inner (pointer_at base space found) ≡ false
pointer_at-unnamed base space (Some type) = pointer_to-unnamed base space type.inner
pointer_at-unnamed base space None = refl

pub all_at : {X : Type 0} (p : X → Bool) (xs : List X) (k : ℕ) (x : X) → list_all p xs ≡ true → slice_get xs k ≡ Some x → p x ≡ true
all_at p [] k x h at = absurd (cc)
all_at p (y ∷ xs) zero x h at = let same : y ≡ x = cc in ap p (sym same) ∙ (and_parts (p y) (list_all p xs) h).0
all_at p (y ∷ xs) (suc k) x h at = all_at p xs k x (and_parts (p y) (list_all p xs) h).1 at

module _ (all : List «Type») where
  -- a pointer is never the type of a built-in function's argument
  pointer_other : (base : ℕ) (space : AddressSpace) (inner : TypeInner) → is_named_inner inner ≡ true →
      same_type (pointer_at base space (slice_get all base)) inner ≡ true → ⊥
  pointer_other base space inner n e =
      both_ways (is_named_inner inner) (sym (ap is_named_inner (same_type-reported _ inner e))
      ∙ pointer_at-unnamed base space (slice_get all base)) n

  other : (ty inner : TypeInner) → is_named_inner ty ≡ false → is_named_inner inner ≡ true → same_type ty inner ≡ true → ⊥
  other ty inner unnamed n e = both_ways (is_named_inner inner) (sym (ap is_named_inner (same_type-reported ty inner e)) ∙ unnamed) n

  -- in a list, an argument of a built-in function accepts values of its constructor whose scalar converts to its scalar
  pub list_takes_plainly : (ty inner : TypeInner) → is_named_inner inner ≡ true → plain_takes ty inner ≡ list_takes all ty inner
  list_takes_plainly (Scalar a) (Scalar b) n =
      sym (some_conversion a b)
      ∙ sym (absorbed (same_type (Scalar a) (Scalar b)) _ (λ e. let reported = same_type-reported (Scalar a) (Scalar b) e in let same :
      a ≡ b =
      cc in some_conversion a b ∙ converts_self a b same))
  list_takes_plainly (Scalar a) (Vector q b) n = mixed _ (λ e. let reported = same_type-reported (Scalar a) (Vector q b) e in absurd (cc))
  list_takes_plainly (Scalar a) (Matrix p q b) n =
      mixed _ (λ e. let reported = same_type-reported (Scalar a) (Matrix p q b) e in absurd (cc))
  list_takes_plainly (Vector p a) (Scalar b) n = mixed _ (λ e. let reported = same_type-reported (Vector p a) (Scalar b) e in absurd (cc))
  list_takes_plainly (Vector p a) (Vector q b) n =
      sym (shaped_conversion (same_size p q) a b)
      ∙ sym (absorbed (same_type (Vector p a) (Vector q b)) _ (λ e.
      let reported = same_type-reported (Vector p a) (Vector q b) e in
      let size : p ≡ q = cc in
      let same : a ≡ b = cc in
      shaped_conversion (same_size p q) a b ∙ and_from _ _ (ap (same_size p) (sym size) ∙ same_size_self p) (converts_self a b same)))
  list_takes_plainly (Vector p a) (Matrix q r b) n =
      mixed _ (λ e. let reported = same_type-reported (Vector p a) (Matrix q r b) e in absurd (cc))
  list_takes_plainly (Matrix p q a) (Scalar b) n =
      mixed _ (λ e. let reported = same_type-reported (Matrix p q a) (Scalar b) e in absurd (cc))
  list_takes_plainly (Matrix p q a) (Vector r b) n =
      mixed _ (λ e. let reported = same_type-reported (Matrix p q a) (Vector r b) e in absurd (cc))
  list_takes_plainly (Matrix p q a) (Matrix c r b) n =
      and_assoc (same_size p c) (same_size q r) (scalar_converts a b)
      ∙ sym (shaped_conversion (same_size p c && same_size q r) a b)
      ∙ sym (absorbed (same_type (Matrix p q a) (Matrix c r b)) _ (λ e.
      let reported = same_type-reported (Matrix p q a) (Matrix c r b) e in
      let columns : p ≡ c = cc in
      let rows : q ≡ r = cc in
      let same : a ≡ b = cc in
      shaped_conversion (same_size p c && same_size q r) a b
      ∙ and_from _ _ (and_from _ _ (ap (same_size p) (sym columns) ∙ same_size_self p) (ap (same_size q) (sym rows) ∙ same_size_self q))
      (converts_self a b same)))
  list_takes_plainly (Pointer base space) (Scalar b) n = mixed _ (pointer_other base space (Scalar b) n)
  list_takes_plainly (Pointer base space) (Vector q b) n = mixed _ (pointer_other base space (Vector q b) n)
  list_takes_plainly (Pointer base space) (Matrix p q b) n = mixed _ (pointer_other base space (Matrix p q b) n)
  list_takes_plainly ty (Scalar b) n = mixed _ (other ty (Scalar b) refl n)
  list_takes_plainly ty (Vector q b) n = mixed _ (other ty (Vector q b) refl n)
  list_takes_plainly ty (Matrix p q b) n = mixed _ (other ty (Matrix p q b) refl n)
  list_takes_plainly ty inner n = absurd (both_ways false refl n)

  inner_agrees : (ty inner : TypeInner) → is_named_or_none (leaf_scalar ty) ≡ true → is_named_inner inner ≡ true →
      takes ty inner ≡ list_takes all ty inner
  inner_agrees ty inner m n = takes_plainly ty inner m n ∙ list_takes_plainly ty inner n

  argument_agrees : (ty : TypeInner) (argument : TypeResolution) → is_named_or_none (leaf_scalar ty) ≡ true →
      is_named_argument argument ≡ true → some_takes ty (inner_of all argument) ≡ some_list_takes all ty (inner_of all argument)
  argument_agrees ty (Handle handle) m n = absurd (both_ways false refl n)
  argument_agrees ty (Value inner) m n = inner_agrees ty inner m n

  found_agrees : (ty : TypeInner) (arguments : List TypeResolution) (i : ℕ) (found : Option TypeResolution) →
      slice_get arguments i ≡ found → is_named_or_none (leaf_scalar ty) ≡ true → list_all is_named_argument arguments ≡ true
      → some_takes ty (option_and_then (inner_of all) found) ≡ some_list_takes all ty (option_and_then (inner_of all) found)
  found_agrees ty arguments i None at m n = refl
  found_agrees ty arguments i (Some argument) at m n = argument_agrees ty argument m (all_at is_named_argument arguments i argument n at)

pub acceptances_agree : AcceptancesAgree
acceptances_agree all function position i ty rule named at =
    found_agrees all ty rule.arguments i (slice_get rule.arguments i) refl named
    (all_at is_named_rule (rules_of function) position rule (rules_named function) at)
