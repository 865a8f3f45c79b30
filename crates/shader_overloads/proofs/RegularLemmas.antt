-- The rules of a regular set and their numbers.
use Rattle.std.proofs.Common.{All, ◌≡◌, ℕ, zero, suc, ◌+◌, ◌*◌, ◌/◌, ◌%◌, ◌^◌, ◌<◌, ◌≤◌, Bool, true, false, ◌&&◌, List, [], ◌∷◌, length}
use Rattle.std.proofs.Common.{map, refl, sym, ◌∙◌, ap, arith, Some, None, get_or, slice_get, replicate, IfOk, Result, Ok, Err, Option}
use Rattle.std.specs.List.{filter, flat_map, list_all}
use Rattle.std.specs.Option.{option_and_then}
use Rattle.std.proofs.lemmas.Bool.{lt-ltb}
use Rattle.std.proofs.lemmas.List.Elements.{All-append, All-head, All-map, All-replicate, All-tail}
use Rattle.shader_ir.specs.declared.scalar.Scalar.{Scalar}
use Rattle.shader_ir.specs.declared.types.«Type».{«Type»}
use Rattle.shader_ir.specs.declared.types.TypeInner.{TypeInner}
use Rattle.shader_ir.specs.declared.types.TypeInner.TheVariants as types
use Rattle.shader_ir.specs.declared.proc.type_resolution.TypeResolution.TheVariants as resolutions
use Rattle.shader_ir.specs.Conversion.{same_size}
use Rattle.shader_ir.specs.Key.{inner_of}
use Rattle.shader_ir.specs.Scalars.{is_convertible, named_scalars}
use Rattle.shader_overloads.specs.declared.constructor_set.ConstructorSet.{ConstructorSet}
use Rattle.shader_overloads.specs.declared.constructor_set.ConstructorSize.{ConstructorSize}
use Rattle.shader_overloads.specs.declared.constructor_set.ConstructorSize.TheVariants as sizes
use Rattle.shader_overloads.specs.declared.mask.Mask.{Mask}
use Rattle.shader_overloads.specs.declared.regular.ConclusionRule.{ConclusionRule}
use Rattle.shader_overloads.specs.declared.regular.RegularTable.{RegularTable}
use Rattle.shader_overloads.specs.declared.rule.Rule.{Rule}
use Rattle.shader_overloads.specs.declared.scalar_set.ScalarSet.{ScalarSet}
use Rattle.shader_overloads.specs.Bits.{cons_if, has_bit, items_where}
use Rattle.shader_overloads.specs.Constructors.{all_constructors, constructors_in, is_built_by, same_constructor, to_inner}
use Rattle.shader_overloads.specs.Masks.{IsBelow, has_position, rules_at}
use Rattle.shader_overloads.specs.Regular.{all_rules}
use Rattle.shader_overloads.specs.ScalarSets.{is_concrete_scalar, scalars_in}
use Rattle.shader_overloads.specs.Rules.{regular_rules, rule_for}
use Rattle.shader_overloads.specs.Remaining.{ArgumentFits, RuleFits, RulesFit, accepts, some_takes}
use Rattle.shader_overloads.specs.Remaining.{takes, leaf_scalar, is_concrete, has_concrete_arguments}
use Rattle.shader_overloads.proofs.ListLemmas.{ElementAt, element_at, items_where-combinations, items_where-filter}
use Rattle.shader_overloads.proofs.ListLemmas.{length-combinations, slice_get-combinations, slice_get-within}
use Rattle.shader_overloads.proofs.MaskLemmas.{all_bits}
use Rattle.shader_overloads.proofs.PositionLemmas.{below_from_high, high_from_below}
use Rattle.shader_overloads.proofs.SetLemmas.{length-constructors, scalar_position}

-- ---- one rule

slice_get-replicate : {X : Type 0} (n i : ℕ) (x : X) → i < n → slice_get (replicate n x) i ≡ Some x
slice_get-replicate zero i x h = absurd (omega arith)
slice_get-replicate (suc n) zero x h = refl
slice_get-replicate (suc n) (suc i) x h = slice_get-replicate n i x (omega arith)

slice_get-replicate_past : {X : Type 0} (n i : ℕ) (x : X) → n ≤ i → slice_get (replicate n x) i ≡ None
slice_get-replicate_past zero i x h = refl
slice_get-replicate_past (suc n) zero x h = absurd (omega arith)
slice_get-replicate_past (suc n) (suc i) x h = slice_get-replicate_past n i x (omega arith)

takes_parts : (ty : TypeInner) (from : Scalar) → leaf_scalar ty ≡ Some from → (size : ConstructorSize) (s : Scalar) →
    takes ty (to_inner size s) ≡ (is_built_by ty size && is_convertible from s)
takes_parts (types.Scalar t) from e sizes.Scalar s = let same : t ≡ from = cc in ap (λ v. is_convertible v s) same
takes_parts (types.Scalar t) from e (sizes.Vector n) s = refl
takes_parts (types.Scalar t) from e (sizes.Matrix m n) s = refl
takes_parts (types.Vector size t) from e sizes.Scalar s = refl
takes_parts (types.Vector size t) from e (sizes.Vector n) s = let same : t ≡ from = cc in
    ap (λ v. same_size size n && is_convertible v s) same
takes_parts (types.Vector size t) from e (sizes.Matrix m n) s = refl
takes_parts (types.Matrix c r t) from e sizes.Scalar s = refl
takes_parts (types.Matrix c r t) from e (sizes.Vector n) s = refl
takes_parts (types.Matrix c r t) from e (sizes.Matrix m n) s = let same : t ≡ from = cc in
    ap (λ v. same_size c m && same_size r n && is_convertible v s) same
takes_parts ty from e size s = cc

built_same : (a b : ConstructorSize) (s : Scalar) → is_built_by (to_inner a s) b ≡ same_constructor a b
built_same sizes.Scalar sizes.Scalar s = refl
built_same sizes.Scalar (sizes.Vector n) s = refl
built_same sizes.Scalar (sizes.Matrix c r) s = refl
built_same (sizes.Vector m) sizes.Scalar s = refl
built_same (sizes.Vector m) (sizes.Vector n) s = refl
built_same (sizes.Vector m) (sizes.Matrix c r) s = refl
built_same (sizes.Matrix m n) sizes.Scalar s = refl
built_same (sizes.Matrix m n) (sizes.Vector k) s = refl
built_same (sizes.Matrix m n) (sizes.Matrix c r) s = refl

built_by_same : (ty : TypeInner) (size : ConstructorSize) (s : Scalar) → ty ≡ to_inner size s → (other : ConstructorSize) →
    is_built_by ty other ≡ same_constructor size other
built_by_same ty size s built other = ap (λ t. is_built_by t other) built ∙ built_same size other s

leaf_built : (size : ConstructorSize) (s : Scalar) → leaf_scalar (to_inner size s) ≡ Some s
leaf_built sizes.Scalar s = refl
leaf_built (sizes.Vector n) s = refl
leaf_built (sizes.Matrix c r) s = refl

leaf_of_built : (ty : TypeInner) (size : ConstructorSize) (s : Scalar) → ty ≡ to_inner size s → leaf_scalar ty ≡ Some s
leaf_of_built ty size s built = ap leaf_scalar built ∙ leaf_built size s

accepts_parts : (types : List «Type») (arity i : ℕ) (conclude : ConclusionRule) (ty : TypeInner) (from : Scalar) →
    leaf_scalar ty ≡ Some from → i < arity → (size : ConstructorSize) (s : Scalar) →
    accepts types i ty (rule_for arity conclude size s) ≡ (is_built_by ty size && is_convertible from s)
accepts_parts types arity i conclude ty from e h size s =
    ap (λ argument. some_takes ty (option_and_then (inner_of types) argument))
    (slice_get-replicate arity i (resolutions.Value (to_inner size s)) h)
    ∙ takes_parts ty from e size s

accepts_past : (types : List «Type») (arity i : ℕ) (conclude : ConclusionRule) (ty : TypeInner) → arity ≤ i →
    (size : ConstructorSize) (s : Scalar) → accepts types i ty (rule_for arity conclude size s) ≡ false
accepts_past types arity i conclude ty h size s =
    ap (λ argument. some_takes ty (option_and_then (inner_of types) argument))
    (slice_get-replicate_past arity i (resolutions.Value (to_inner size s)) h)

list_all-replicate : {X : Type 0} (p : X → Bool) (n : ℕ) (x : X) → 0 < n → list_all p (replicate n x) ≡ p x
list_all-replicate p zero x h = absurd (omega arith)
list_all-replicate p (suc zero) x h = elim (p x) as (λ b. (b && true) ≡ b) [ true ↦ refl | false ↦ refl ]
list_all-replicate p (suc (suc n)) x h =
    ap (λ b. p x && b) (list_all-replicate p (suc n) x (omega arith))
    ∙ elim (p x) as (λ b. (b && b) ≡ b) [ true ↦ refl | false ↦ refl ]

is_concrete-to_inner : (types : List «Type») (size : ConstructorSize) (s : Scalar) →
    is_concrete types (Some (to_inner size s)) ≡ is_concrete_scalar s
is_concrete-to_inner types sizes.Scalar s = refl
is_concrete-to_inner types (sizes.Vector n) s = refl
is_concrete-to_inner types (sizes.Matrix c r) s = refl

concrete_parts : (types : List «Type») (arity : ℕ) (conclude : ConclusionRule) → 0 < arity → (size : ConstructorSize) (s : Scalar) →
    has_concrete_arguments types (rule_for arity conclude size s) ≡ is_concrete_scalar s
concrete_parts types arity conclude h size s =
    list_all-replicate (λ argument. is_concrete types (inner_of types argument)) arity (resolutions.Value (to_inner size s)) h
    ∙ is_concrete-to_inner types size s

-- ---- the numbered rules of all constructors and scalars

length-scalars : length named_scalars ≡ 12
unfolding named_scalars
length-scalars = refl

pub length-all_rules : (table : RegularTable) → length (all_rules table) ≡ 156
unfolding regular_rules
length-all_rules table = length-combinations (rule_for table.arity table.conclude) all_constructors named_scalars
    ∙ rw (length-constructors, length-scalars) refl

-- the components of the rule with a number
pub record NumberComponents (table : RegularTable) (number : ℕ) : Type 0 where
  pub size : ElementAt all_constructors (number / 12)
  pub scalar : ElementAt named_scalars (number % 12)
  pub is : slice_get (all_rules table) number ≡ Some (rule_for table.arity table.conclude size.element scalar.element)

pub number_components : (table : RegularTable) (number : ℕ) → number < 156 → NumberComponents table number
unfolding regular_rules
number_components table number h =
    let c = element_at all_constructors (number / 12) (rw length-constructors (omega arith)) in
    let s = element_at named_scalars (number % 12) (rw length-scalars (omega arith)) in
    let at : number / 12 * length named_scalars + number % 12 ≡ number = rw length-scalars (omega arith) in
    record {
      size = c;
      scalar = s;
      is = ap (slice_get (all_rules table)) (sym at) ∙ slice_get-combinations (rule_for table.arity table.conclude) all_constructors
          named_scalars (number / 12) (number % 12) c.element s.element c.is s.is;
    }

module _ (table : RegularTable) (number : ℕ) (rule : Rule) (at : slice_get (all_rules table) number ≡ Some rule) where
  pub number_within : number < 156
  number_within = omega (arith, slice_get-within (all_rules table) number rule at, length-all_rules table)

  parts : NumberComponents table number
  parts = number_components table number number_within

  same_rule : rule_for table.arity table.conclude parts.size.element parts.scalar.element ≡ rule
  same_rule = cc (parts.is, at)

  -- an argument that the rule has
  pub number_accepts : (types : List «Type») (i : ℕ) (ty : TypeInner) (size : ConstructorSize) (from : Scalar) (rows : Mask) →
      ty ≡ to_inner size from → i < table.arity
      → ((k : ℕ) (other : ConstructorSize) (to : Scalar) → slice_get all_constructors (k / 12) ≡ Some other →
      slice_get named_scalars (k % 12) ≡ Some to → has_position rows k ≡ (same_constructor size other && is_convertible from to))
      → has_position rows number ≡ accepts types i ty rule
  number_accepts types i ty size from rows built h has =
      has number parts.size.element parts.scalar.element parts.size.is parts.scalar.is
      ∙ ap (λ b. b && is_convertible from parts.scalar.element) (sym (built_by_same ty size from built parts.size.element))
      ∙ sym (accepts_parts types table.arity i table.conclude ty from (leaf_of_built ty size from built) h parts.size.element
      parts.scalar.element)
      ∙ ap (accepts types i ty) same_rule

  -- a position beyond the rule's arguments
  pub number_past : (types : List «Type») (i : ℕ) (ty : TypeInner) → table.arity ≤ i → false ≡ accepts types i ty rule
  number_past types i ty h = sym (accepts_past types table.arity i table.conclude ty h parts.size.element parts.scalar.element)
      ∙ ap (accepts types i ty) same_rule

  pub number_concrete : (types : List «Type») (s : ScalarSet) → 0 < table.arity → scalars_in s ≡ filter is_concrete_scalar named_scalars →
      has_bit s.0 (number % 12) ≡ has_concrete_arguments types rule
  number_concrete types s many concrete =
      scalar_position is_concrete_scalar s (number % 12) parts.scalar.element concrete parts.scalar.is
      ∙ sym (concrete_parts types table.arity table.conclude many parts.size.element parts.scalar.element)
      ∙ ap (has_concrete_arguments types) same_rule

  pub number_without_arguments : (types : List «Type») → table.arity ≡ 0 → true ≡ has_concrete_arguments types rule
  number_without_arguments types none =
      sym (ap (λ n. has_concrete_arguments types (rule_for n table.conclude parts.size.element parts.scalar.element)) none)
      ∙ ap (has_concrete_arguments types) same_rule

-- a mask of some numbers becomes the mask of those whose rules pass a test
pub numbers_left : (table : RegularTable) (q : Rule → Bool) (mask rows both : Mask) →
    ((number : ℕ) (rule : Rule) → slice_get (all_rules table) number ≡ Some rule → has_position rows number ≡ q rule) →
    ((k : ℕ) → has_position both k ≡ (has_position mask k && has_position rows k))
    → rules_at both (all_rules table) ≡ filter q (rules_at mask (all_rules table))
numbers_left table q mask rows both tested met =
    items_where-filter q (has_position mask) (has_position both) (all_rules table) (λ k rule at. met k
    ∙ ap (λ b. has_position mask k && b) (tested k rule at))

-- the numbers of the combinations of two sets
pub rules_of_pairs : (table : RegularTable) (constructors : ConstructorSet) (scalars : ScalarSet) (mask : Mask) →
    ((k : ℕ) → k < 156 → has_position mask k ≡ (has_bit constructors.0 (k / 12) && has_bit scalars.0 (k % 12)))
    → rules_at mask (all_rules table) ≡ regular_rules table.arity table.conclude (constructors_in constructors) (scalars_in scalars)
unfolding regular_rules
rules_of_pairs table constructors scalars mask pairs =
    items_where-combinations (rule_for table.arity table.conclude) (has_position mask) (has_bit constructors.0) (has_bit scalars.0)
    all_constructors named_scalars
    (λ i j l n.
    let i_below : i < 13 = omega (arith, l, length-constructors) in
    let j_below : j < 12 = omega (arith, n, length-scalars) in
    let index : i * length named_scalars + j ≡ i * 12 + j = rw length-scalars refl in
    let group : (i * 12 + j) / 12 ≡ i = omega arith in
    let position : (i * 12 + j) % 12 ≡ j = omega arith in
    ap (has_position mask) index ∙ pairs (i * 12 + j) (omega arith)
    ∙ ap (λ k. has_bit constructors.0 k && has_bit scalars.0 ((i * 12 + j) % 12)) group
    ∙ ap (λ k. has_bit constructors.0 i && has_bit scalars.0 k) position)

all_set : (k : ℕ) → k < 16 → has_bit 65535 k ≡ true
all_set k h = all_bits 16 k ∙ lt-ltb k 16 h

-- the numbers of all constructors and some scalars
pub any_group : (mask : Mask) (scalars k : ℕ) → k < 156 →
    ((i : ℕ) → i < 156 → has_position mask i ≡ (has_bit 65535 (i / 12) && has_bit scalars (i % 12))) →
    has_position mask k ≡ has_bit scalars (k % 12)
any_group mask scalars k h pairs = pairs k h ∙ ap (λ b. b && has_bit scalars (k % 12)) (all_set (k / 12) (omega arith))

-- the numbers of all rules
pub any_number : (mask : Mask) (k : ℕ) → k < 156 → ((i : ℕ) → i < 156 →
    has_position mask i ≡ (has_bit 65535 (i / 12) && has_bit 65535 (i % 12))) → has_position mask k ≡ true
any_number mask k h pairs = any_group mask 65535 k h pairs ∙ all_set (k % 12) (omega arith)

pub regular_within : (table : RegularTable) (mask : Mask) → mask.high < 2 ^ 28 → IsBelow mask (length (all_rules table))
regular_within table mask h k past = below_from_high mask h k (omega (arith, past, length-all_rules table))

pub regular_high : (table : RegularTable) (mask : Mask) → IsBelow mask (length (all_rules table)) → mask.high < 2 ^ 28
regular_high table mask within = high_from_below mask (λ k past. within k (omega (arith, past, length-all_rules table)))

-- ---- results

pub ok_is : {X E : Type 0} (r : Result X E) (x : X) (o : Option X) → o ≡ Some x → IfOk r (λ y. y ≡ x) → IfOk r (λ y. o ≡ Some y)
ok_is (Ok y) x o e h = e ∙ ap Some (sym h)
ok_is (Err z) x o e h = h

pub ok_same : {X E : Type 0} (r : Result X E) (x y : X) → IfOk r (λ z. z ≡ x) → x ≡ y → IfOk r (λ z. z ≡ y)
ok_same (Ok z) x y h e = h ∙ e
ok_same (Err z) x y h e = h

-- ---- preconditions of the rules

built_fits : (types : List «Type») (size : ConstructorSize) (s : Scalar) → ArgumentFits types (resolutions.Value (to_inner size s))
built_fits types sizes.Scalar s = (((λ k d h. absurd (omega arith)), tt), tt)
built_fits types (sizes.Vector size) s = (((λ k d h. absurd (omega arith)), tt), tt)
built_fits types (sizes.Matrix columns rows) s = (((λ k d h. absurd (omega arith)), tt), tt)

rules_of_sizes-fit : (types : List «Type») (arity : ℕ) (conclude : ConclusionRule) (sizes : List ConstructorSize) (scalars : List Scalar) →
    All (RuleFits types) (flat_map (λ size. map (rule_for arity conclude size) scalars) sizes)
rules_of_sizes-fit types arity conclude [] scalars = λ k d h. absurd (omega arith)
rules_of_sizes-fit types arity conclude (size ∷ sizes) scalars =
    All-append (RuleFits types) (map (rule_for arity conclude size) scalars) _
    (All-map (RuleFits types) (rule_for arity conclude size) scalars
    (λ k d h. All-replicate (ArgumentFits types) arity _ (built_fits types size _)))
    (rules_of_sizes-fit types arity conclude sizes scalars)

-- the rules of a regular set fit any types
pub regular_rules-fit : (types : List «Type») (arity : ℕ) (conclude : ConclusionRule) (sizes : List ConstructorSize)
    (scalars : List Scalar) → RulesFit types (regular_rules arity conclude sizes scalars)
unfolding regular_rules
regular_rules-fit types arity conclude sizes scalars = record { each = rules_of_sizes-fit types arity conclude sizes scalars }

All_cons : {X : Type 0} (P : X → Type 0) (x : X) (xs : List X) → P x → All P xs → (k : ℕ) (d : X) → k < length (x ∷ xs) →
    P (get_or (x ∷ xs) k d)
All_cons P x xs first rest zero d h = first
All_cons P x xs first rest (suc k) d h = rest k d (omega arith)

All_cons_if : {X : Type 0} (P : X → Type 0) (b : Bool) (x : X) (xs : List X) → P x → All P xs → All P (cons_if b x xs)
All_cons_if P true x xs first rest = All_cons P x xs first rest
All_cons_if P false x xs first rest = rest

All-items_where : {X : Type 0} (P : X → Type 0) (p : ℕ → Bool) (xs : List X) → All P xs → All P (items_where p xs)
All-items_where P p [] all = all
All-items_where P p (x ∷ xs) all = All_cons_if P (p 0) x (items_where (λ k. p (suc k)) xs) (All-head P x xs all)
    (All-items_where P (λ k. p (suc k)) xs (All-tail P x xs all))

pub masked_rules-fit : (types : List «Type») (table : RegularTable) (mask : Mask) → RulesFit types (rules_at mask (all_rules table))
masked_rules-fit types table mask = record {
  each = All-items_where (RuleFits types) (has_position mask) (all_rules table)
      (regular_rules-fit types table.arity table.conclude all_constructors named_scalars).each;
}
