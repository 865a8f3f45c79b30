-- Walks over the rules whose numbers are in a mask.
use Rattle.std.proofs.Common.{◌≡◌, ◌≢◌, ℕ, zero, suc, ◌<◌, ◌≤◌, Bool, true, false, not, ◌&&◌, ◌||◌, List, [], ◌∷◌, ◌++◌, length, refl, sym}
use Rattle.std.proofs.Common.{◌∙◌, ap, arith, inl, inr, nat_eq, Option, Some, None, slice_get, get_or, append_assoc, IfNone, IfSome, ◌↔◌}
use Rattle.std.specs.Prelude.{if◌then◌else◌, ◌-◌, nat_lt}
use Rattle.std.specs.Option.{is_some}
use Rattle.std.specs.List.{filter}
use Rattle.std.proofs.lemmas.Bool.{and_parts, both_ways, cases_eq, cases_lt, eq-eqb, ne_eqb}
use Rattle.std.proofs.lemmas.Nat.Bits.{bit_at-zero}
use Rattle.shader_ir.specs.declared.types.«Type».{«Type»}
use Rattle.shader_overloads.specs.declared.mask.Mask.{Mask}
use Rattle.shader_overloads.specs.declared.rule.Rule.{Rule}
use Rattle.shader_overloads.specs.Bits.{has_bit}
use Rattle.shader_overloads.specs.Masks.{IsBelow, IsLeastPosition, IsTaken, NumberFits, has_position, rules_at}
use Rattle.shader_overloads.specs.Remaining.{RuleFits, RulesFit}
use Rattle.shader_overloads.proofs.ListLemmas.{element_at, first_within, items_where-filter, items_where-first}
use Rattle.shader_overloads.proofs.ListLemmas.{items_where-none, items_where-split, slice_get-within}
use Rattle.shader_overloads.proofs.MaskLemmas.{member_has, no_element}

-- all numbers of one set are in another
abbrev pub IsInside : Mask → Mask → Type 0
IsInside left mask = (k : ℕ) → has_position left k ≡ true → has_position mask k ≡ true

pub inside_itself : (mask : Mask) → IsInside mask mask
inside_itself mask k h = h

pub still_inside : (mask left next : Mask) (number : ℕ) → IsInside left mask → IsTaken left number next → IsInside next mask
still_inside mask left next number inside taken k h =
    inside k (and_parts (has_position left k) (not (nat_eq k number)) (sym (taken.others k) ∙ h)).0

pub taken_within : (mask left next : Mask) (number bound : ℕ) → IsBelow mask bound → IsInside left mask → IsTaken left number next →
    number < bound
taken_within mask left next number bound within inside taken = elim (cases_lt number bound) [
  | inl h ↦ h
  | inr past ↦ absurd (both_ways (has_position mask number) (within number past) (inside number taken.first.here))
]

-- the rule of a removed number is among those that fit
pub taken_fits : (types : List «Type») (mask left next : Mask) (table_rules : List Rule) (number : ℕ) →
    RulesFit types (rules_at mask table_rules) →
    IsInside left mask → IsTaken left number next → NumberFits types table_rules number
taken_fits types mask left next table_rules number fits inside taken rule at =
    member_has (RuleFits types) (has_position mask) table_rules number rule fits.each (inside number taken.first.here) at

-- ---- the numbers of the rules that pass a test

-- of the numbers already visited, those whose rules pass are recorded
abbrev pub Decided : (Rule → Bool) → Mask → Mask → Mask → List Rule → Type 0
Decided q mask left retained table_rules = (k : ℕ) (rule : Rule) → slice_get table_rules k ≡ Some rule →
    has_position retained k ≡ (has_position mask k && (not (has_position left k) && q rule))

but_true : (b : Bool) → (b && not true) ≡ false
but_true true = refl
but_true false = refl

but_false : (b : Bool) → (b && not false) ≡ b
but_false true = refl
but_false false = refl

undecided : (m q : Bool) → false ≡ (m && (not m && q))
undecided true q = refl
undecided false q = refl

failed : (m l : Bool) → (m && (l && false)) ≡ false
failed true true = refl
failed true false = refl
failed false l = refl

module _ (q : Rule → Bool) (mask : Mask) (table_rules : List Rule) where
  pub decided_none : (retained : Mask) → ((k : ℕ) → has_position retained k ≡ false) → Decided q mask mask retained table_rules
  decided_none retained none k rule at = none k ∙ undecided (has_position mask k) (q rule)

  pub decided_in : (left next retained more : Mask) (number : ℕ) →
      ((rule : Rule) → slice_get table_rules number ≡ Some rule → q rule ≡ true) →
      IsInside left mask → IsTaken left number next → ((k : ℕ) → has_position more k ≡ (nat_eq k number || has_position retained k)) →
      Decided q mask left retained table_rules → Decided q mask next more table_rules
  decided_in left next retained more number passes inside taken put so k rule at = elim (cases_eq k number) [
    | inl e ↦
        let gone : has_position next k ≡ false = taken.others k ∙ rw (eq-eqb k number e) (but_true (has_position left k)) in
        let here : has_position mask k ≡ true = ap (has_position mask) e ∙ inside number taken.first.here in
        let passed : q rule ≡ true = passes rule (sym (ap (slice_get table_rules) e) ∙ at) in
        put k ∙ rw (eq-eqb k number e, here, gone, passed) refl
    | inr ne ↦
        let same : has_position next k ≡ has_position left k = taken.others k ∙ rw (ne_eqb k number ne) (but_false (has_position left k)) in
        put k ∙ rw (ne_eqb k number ne, same) (so k rule at)
  ]

  pub decided_out : (left next retained : Mask) (number : ℕ) → ((rule : Rule) → slice_get table_rules number ≡ Some rule → q rule ≡ false) →
      IsTaken left number next → Decided q mask left retained table_rules → Decided q mask next retained table_rules
  decided_out left next retained number fails taken so k rule at = elim (cases_eq k number) [
    | inl e ↦
        let refused : q rule ≡ false = fails rule (sym (ap (slice_get table_rules) e) ∙ at) in
        so k rule at ∙ rw refused (failed (has_position mask k) (not (has_position left k))
        ∙ sym (failed (has_position mask k) (not (has_position next k))))
    | inr ne ↦
        let same : has_position next k ≡ has_position left k = taken.others k ∙ rw (ne_eqb k number ne) (but_false (has_position left k)) in
        so k rule at ∙ rw same refl
  ]

  pub decided_all : (left retained : Mask) → ((k : ℕ) → has_position left k ≡ false) → Decided q mask left retained table_rules →
      rules_at retained table_rules ≡ filter q (rules_at mask table_rules)
  decided_all left retained none so =
      items_where-filter q (has_position mask) (has_position retained) table_rules (λ k rule at. so k rule at
      ∙ ap (λ b. has_position mask k && (not b && q rule)) (none k))

pub put_within : (retained more : Mask) (number bound : ℕ) → number < bound →
    ((k : ℕ) → has_position more k ≡ (nat_eq k number || has_position retained k)) →
    IsBelow retained bound → IsBelow more bound
put_within retained more number bound h put within k past = put k ∙ rw (ne_eqb k number (λ e. omega arith)) (within k past)

-- ---- the rules one after another

get_or-found : {X : Type 0} (xs : List X) (k : ℕ) (x : X) → slice_get xs k ≡ Some x → get_or xs k x ≡ x
get_or-found [] k x at = refl
get_or-found (y ∷ xs) zero x at = cc
get_or-found (y ∷ xs) (suc k) x at = get_or-found xs k x at

pub next_rule : (left next : Mask) (table_rules : List Rule) (number : ℕ) (rule : Rule) → slice_get table_rules number ≡ Some rule →
    IsTaken left number next →
    rules_at left table_rules ≡ rule ∷ rules_at next table_rules
next_rule left next table_rules number rule at taken =
    items_where-split (has_position left) (has_position next) table_rules number rule taken.first.least taken.first.here gone same
    (slice_get-within table_rules number rule at)
    ∙ ap (λ r. r ∷ rules_at next table_rules) (get_or-found table_rules number rule at)
  where
    gone : (i : ℕ) → i ≤ number → has_position next i ≡ false
    gone i h = elim (cases_eq i number) [
      | inl e ↦ taken.others i ∙ rw (eq-eqb i number e) (but_true (has_position left i))
      | inr ne ↦ taken.others i ∙ ap (λ b. b && not (nat_eq i number)) (taken.first.least i (omega (arith, ne)))
    ]

    same : (i : ℕ) → number < i → has_position next i ≡ has_position left i
    same i h = taken.others i ∙ rw (ne_eqb i number (λ e. omega arith)) (but_false (has_position left i))

-- the rules so far and the next one
pub listed_next : (mask left next : Mask) (table_rules done more : List Rule) (number : ℕ) (rule : Rule) →
    slice_get table_rules number ≡ Some rule →
    IsTaken left number next → more ≡ done ++ rule ∷ [] → done ++ rules_at left table_rules ≡ rules_at mask table_rules →
    more ++ rules_at next table_rules ≡ rules_at mask table_rules
listed_next mask left next table_rules done more number rule at taken grown so =
    ap (λ list. list ++ rules_at next table_rules) grown
    ∙ append_assoc done (rule ∷ []) (rules_at next table_rules)
    ∙ ap (λ list. done ++ list) (sym (next_rule left next table_rules number rule at taken))
    ∙ so

pub none_at : (mask : Mask) (table_rules : List Rule) → ((k : ℕ) → has_position mask k ≡ false) → rules_at mask table_rules ≡ []
none_at mask table_rules none = items_where-none (has_position mask) table_rules (λ i h. none i)

no_word_has : (a b x y z : Bool) → x ≡ false → y ≡ false → z ≡ false → (if a then x else if b then y else z) ≡ false
no_word_has true b x y z low middle high = low
no_word_has false true x y z low middle high = middle
no_word_has false false x y z low middle high = high

no_bit : (k : ℕ) → has_bit 0 k ≡ false
no_bit k = ap (λ b. nat_eq b 1) (bit_at-zero k)

no_number : (k : ℕ) → has_position (record { low = 0; middle = 0; high = 0 }) k ≡ false
unfolding has_position
no_number k = no_word_has (nat_lt k 64) (nat_lt k 128) _ _ _ (no_bit k) (no_bit (k - 64)) (no_bit (k - 128))

pub no_rules : (table_rules : List Rule) → rules_at (record { low = 0; middle = 0; high = 0 }) table_rules ≡ []
no_rules table_rules = none_at (record { low = 0; middle = 0; high = 0 }) table_rules no_number

-- ---- the first rule

pub first_at : (mask : Mask) (table_rules : List Rule) (number : ℕ) → rules_at mask table_rules ≢ [] → IsLeastPosition mask number →
    (number < length table_rules) × (slice_get (rules_at mask table_rules) 0 ≡ slice_get table_rules number)
first_at mask table_rules number some first =
    let within = first_within (has_position mask) table_rules number first.least some in
    (within, items_where-first (has_position mask) table_rules number first.least first.here within)

some_at : (mask : Mask) (table_rules : List Rule) (number : ℕ) → IsBelow mask (length table_rules) → IsLeastPosition mask number →
    rules_at mask table_rules ≡ [] → ⊥
some_at mask table_rules number within first none = elim (cases_lt number (length table_rules)) [
  | inl near ↦
      let element = element_at table_rules number near in
      no_element (rules_at mask table_rules) 0 element.element none
      (items_where-first (has_position mask) table_rules number first.least first.here near ∙ element.is)
  | inr far ↦ both_ways (has_position mask number) (within number far) first.here
]

pub empty_mask : (mask : Mask) (table_rules : List Rule) (found : Option ℕ) (empty : Bool) → IsBelow mask (length table_rules) →
    is_some found ≡ not empty → IfNone found ((k : ℕ) → has_position mask k ≡ false) → IfSome found (IsLeastPosition mask) →
    (empty ≡ true) ↔ (rules_at mask table_rules ≡ [])
empty_mask mask table_rules None true within reported none first = (λ _. none_at mask table_rules none, λ _. refl)
empty_mask mask table_rules None false within reported none first = absurd (both_ways false refl reported)
empty_mask mask table_rules (Some number) true within reported none first = absurd (both_ways true reported refl)
empty_mask mask table_rules (Some number) false within reported none first =
    (λ h. absurd (both_ways false refl h), λ e. absurd (some_at mask table_rules number within first e))
