-- A table that a pass leaves as it is has what follows, and no more.
use Rattle.std.proofs.Common.{◌≡◌, refl, sym, ◌∙◌, ap, subst, ℕ, ◌+◌, ◌*◌, ◌<◌, ◌≤◌, inl, inr, ◌↔◌, Bool, true, false, not, ◌&&◌, ◌||◌}
use Rattle.std.proofs.Common.{List, [], ◌∷◌, Option, Some, None, IsTrue, nat_lt, slice_index_or, length, arith, replicate, max}
use Rattle.std.proofs.lemmas.List.{get_or-set_same, get_or-set_other, get_or-replicate, get_or_past, length-replicate, length-set}
use Rattle.std.proofs.lemmas.Bool.{cases_eq, cases_lt, false≢true, lt-ltb, ltb-true}
use Rattle.std.proofs.lemmas.List.Elements.{All-contains, All-contains_itself, All-from_recursion, recursion_from_All}
use Rattle.std.specs.List.{All, AllByRecursion, Contains}
use Rattle.shader_uniformity.specs.Cells.{cell, cells_after, cells_with, cells_with_if, changes, fires, holds, is_from, kind, moment}
use Rattle.shader_uniformity.specs.Cells.{number, width, width_from, HasMarks, IsSound, StaysSound}
use Rattle.shader_uniformity.specs.Marks.{leads, Marked, itself, by_rule, later}
use Rattle.shader_uniformity.specs.declared.facts.Fact.{Fact}
use Rattle.shader_uniformity.specs.declared.facts.Fact.TheVariants.{Always, Flow, Argument, Behind, Apart, Leaves, Differs, Holds, Must}
use Rattle.shader_uniformity.specs.declared.facts.Fact.TheVariants.{Gives, Left}
use Rattle.shader_uniformity.specs.declared.facts.Jump.TheVariants as jump
use Rattle.shader_uniformity.specs.declared.facts.Place.{Place}
use Rattle.shader_uniformity.specs.declared.facts.Place.TheVariants as place
use Rattle.shader_uniformity.specs.declared.facts.Rule.{Rule}

-- the fact of a kind, with its number and moment
abbrev fact_of : (k i t : ℕ) → Fact
fact_of k i t = slice_index_or (Always ∷ Flow ∷ Must ∷ Gives ∷ Argument i ∷ Behind i ∷ Left i ∷ Apart i ∷ Leaves jump.Break i
    ∷ Leaves jump.Continue i ∷ Leaves jump.Return i ∷ Differs i ∷ Holds (place.Local i) t ∷ Holds (place.Pointee i) t
    ∷ Holds place.Shared t ∷ Holds place.Fixed t ∷ []) k Always

rebuilt : (x : Fact) → fact_of (kind x) (number x) (moment x) ≡ x
rebuilt Always = refl
rebuilt Flow = refl
rebuilt Must = refl
rebuilt Gives = refl
rebuilt (Argument i) = refl
rebuilt (Behind i) = refl
rebuilt (Left i) = refl
rebuilt (Apart n) = refl
rebuilt (Leaves jump.Break n) = refl
rebuilt (Leaves jump.Continue n) = refl
rebuilt (Leaves jump.Return n) = refl
rebuilt (Differs e) = refl
rebuilt (Holds (place.Local i) t) = refl
rebuilt (Holds (place.Pointee i) t) = refl
rebuilt (Holds place.Shared t) = refl
rebuilt (Holds place.Fixed t) = refl

kind_small : (x : Fact) → kind x < 16
kind_small Always = omega arith
kind_small Flow = omega arith
kind_small Must = omega arith
kind_small Gives = omega arith
kind_small (Argument i) = omega arith
kind_small (Behind i) = omega arith
kind_small (Left i) = omega arith
kind_small (Apart n) = omega arith
kind_small (Leaves jump.Break n) = omega arith
kind_small (Leaves jump.Continue n) = omega arith
kind_small (Leaves jump.Return n) = omega arith
kind_small (Differs e) = omega arith
kind_small (Holds (place.Local i) t) = omega arith
kind_small (Holds (place.Pointee i) t) = omega arith
kind_small (Holds place.Shared t) = omega arith
kind_small (Holds place.Fixed t) = omega arith

same_number : (i j a b : ℕ) → a < 16 → b < 16 → 16 * i + a ≡ 16 * j + b → i ≡ j
same_number i j a b h k e = omega (arith, h, k, e)

same_kind : (i j a b : ℕ) → a < 16 → b < 16 → 16 * i + a ≡ 16 * j + b → a ≡ b
same_kind i j a b h k e = omega (arith, h, k, e)

-- facts in one cell differ in their moment alone
in_cell : (x y : Fact) → cell x ≡ cell y → x ≡ fact_of (kind y) (number y) (moment x)
in_cell x y e =
    let i : number x ≡ number y = same_number (number x) (number y) (kind x) (kind y) (kind_small x) (kind_small y) e in
    let k : kind x ≡ kind y = same_kind (number x) (number y) (kind x) (kind y) (kind_small x) (kind_small y) e in
    sym (rebuilt x) ∙ ap (λ a. fact_of a (number x) (moment x)) k ∙ ap (λ a. fact_of (kind y) a (moment x)) i

-- what a test tells
and_left : (a b : Bool) → a && b ≡ true → a ≡ true
and_left true b h = refl
and_left false b h = h

and_right : (a b : Bool) → a && not b ≡ true → b ≡ false
and_right true true h = sym h
and_right true false h = refl
and_right false b h = absurd (false≢true h)

settled_by : (a b : Bool) → a && not b ≡ false → a ≡ true → b ≡ true
settled_by true true h k = refl
settled_by true false h k = sym h
settled_by false b h k = absurd (false≢true k)

from_le : (s t : ℕ) → is_from (Some s) t ≡ true → s ≤ t
from_le s t h = elim (cases_lt t s) [
  | inl lt ↦ absurd (false≢true (sym (ap not (lt-ltb t s lt)) ∙ h))
  | inr le ↦ le
]

le_from : (s t : ℕ) → s ≤ t → is_from (Some s) t ≡ true
le_from s t le = of (nat_lt t s) refl
  where
    of : (b : Bool) → nat_lt t s ≡ b → not (nat_lt t s) ≡ true
    of true e = let lt : t < s = ltb-true t s e in absurd (omega arith)
    of false e = ap not e

-- a cell that holds from t on and not yet from s on would hold from t on if it were entered at s
from_earlier : (o : Option ℕ) (s t : ℕ) → is_from o t ≡ true → is_from o s ≡ false → is_from (Some s) t ≡ true
from_earlier None s t h k = absurd (false≢true h)
from_earlier (Some f) s t h k = elim (cases_lt s f) [
  | inl lt ↦ let le : f ≤ t = from_le f t h in le_from s t (omega arith)
  | inr le ↦ absurd (false≢true (sym k ∙ le_from f s le))
]

from_more : (o : Option ℕ) (s t : ℕ) → s ≤ t → is_from o s ≡ true → is_from o t ≡ true
from_more None s t le h = absurd (false≢true h)
from_more (Some f) s t le h = let before : f ≤ s = from_le f s h in le_from f t (omega arith)

-- an empty table
abbrev pub empty_table : ℕ → List (Option ℕ)
empty_table n = replicate n None

pub table_long : (table : List (Option ℕ)) (n w : ℕ) → table ≡ empty_table n → n ≡ w → length table ≡ w
table_long table n w e k = ap (λ (v : List (Option ℕ)). length v) e ∙ length-replicate n None ∙ k

vacant : (n : ℕ) (x : Fact) → holds (empty_table n) x ≡ false
vacant n x = elim (cases_lt (cell x) n) [
  | inl lt ↦ ap (λ (o : Option ℕ). is_from o (moment x)) (get_or-replicate n (cell x) None None lt)
  | inr le ↦ ap (λ (o : Option ℕ). is_from o (moment x))
      (get_or_past (empty_table n) (cell x) None (let long = table_long (empty_table n) n n refl refl in omega (arith, long, le)))
]

-- the cells of a table with one more fact
entered_same : (table : List (Option ℕ)) (y x : Fact) → cell y < length table → cell x ≡ cell y →
    holds (cells_with table y) x ≡ is_from (Some (moment y)) (moment x)
entered_same table y x within e =
    ap (λ (c : ℕ). is_from (slice_index_or (cells_with table y) c None) (moment x)) e
    ∙ ap (λ (o : Option ℕ). is_from o (moment x)) (get_or-set_same table (cell y) (Some (moment y)) None within)

cells_with_other : (table : List (Option ℕ)) (y x : Fact) → (cell x ≡ cell y → ⊥) → holds (cells_with table y) x ≡ holds table x
cells_with_other table y x ne =
    ap (λ (o : Option ℕ). is_from o (moment x)) (get_or-set_other table (cell y) (cell x) (Some (moment y)) None ne)

entered_kept : (table : List (Option ℕ)) (y x : Fact) → cell y < length table → holds table y ≡ false → holds table x ≡ true →
    holds (cells_with table y) x ≡ true
entered_kept table y x within new old = elim (cases_eq (cell x) (cell y)) [
  | inl e ↦ entered_same table y x within e
      ∙ from_earlier (slice_index_or table (cell y) None) (moment y) (moment x)
      (sym (ap (λ (c : ℕ). is_from (slice_index_or table c None) (moment x)) e) ∙ old) new
  | inr ne ↦ cells_with_other table y x ne ∙ old
]

abbrev Settles : List (Option ℕ) → Rule → Type 0
Settles table rule = holds table rule.cause ≡ true → holds table rule.effect ≡ true

changed_stays : (rules : List Rule) (table : List (Option ℕ)) → changes rules table true ≡ true
changed_stays [] table = refl
changed_stays (rule ∷ rules) table = changed_stays rules (cells_with_if (fires table rule) table rule.effect)

-- a pass that changes nothing leaves the table, which each rule agrees with
settles : (rules : List Rule) (table : List (Option ℕ)) → changes rules table false ≡ false →
    (cells_after rules table ≡ table) × AllByRecursion (Settles table) rules
settles [] table h = (refl, tt)
settles (rule ∷ rules) table h = of (λ k. settles rules table k) (fires table rule) refl h
  where
    of : (changes rules table false ≡ false → (cells_after rules table ≡ table) × AllByRecursion (Settles table) rules) → (b : Bool) →
        fires table rule ≡ b → changes rules (cells_with_if b table rule.effect) (false || b) ≡ false →
        (cells_after rules (cells_with_if b table rule.effect) ≡ table) × AllByRecursion (Settles table) (rule ∷ rules)
    of go true e k = absurd (false≢true (sym k ∙ changed_stays rules (cells_with table rule.effect)))
    of go false e k =
        let rest = go k in
        (rest.0, (settled_by (holds table rule.cause) (holds table rule.effect) e, rest.1))

-- the width of a table
wide_le : (rules : List Rule) (w : ℕ) → w ≤ width_from w rules
wide_le [] w = omega arith
wide_le (rule ∷ rules) w = let rest = wide_le rules (max w (cell rule.effect + 1)) in omega (arith, rest)

wide : (rules : List Rule) (w : ℕ) → AllByRecursion (λ rule. cell rule.effect < width_from w rules) rules
wide [] w = tt
wide (rule ∷ rules) w =
    let first = wide_le rules (max w (cell rule.effect + 1)) in
    (omega (arith, first), wide rules (max w (cell rule.effect + 1)))

pub effects_within : (start : Fact) (rules : List Rule) (n : ℕ) → n ≡ width start rules → All (λ rule. cell rule.effect < n) rules
effects_within start rules n e =
    let P : ℕ → Type 0 = λ m. All (λ rule. cell rule.effect < m) rules in
    subst P (sym e) (All-from_recursion (λ rule. cell rule.effect < width start rules) rules (wide rules (cell start + 1)))

pub start_within : (start : Fact) (rules : List Rule) (n : ℕ) → n ≡ width start rules → cell start < n
start_within start rules n e = let le = wide_le rules (cell start + 1) in omega (arith, e, le)

module _ (rules : List Rule) (start : Fact) where
  -- what is marked is marked at later moments too
  at_later : (y : Fact) (t : ℕ) → moment y ≤ t → Marked rules start y → Marked rules start (fact_of (kind y) (number y) t)
  at_later Always t h m = m
  at_later Flow t h m = m
  at_later Must t h m = m
  at_later Gives t h m = m
  at_later (Argument i) t h m = m
  at_later (Behind i) t h m = m
  at_later (Left i) t h m = m
  at_later (Apart n) t h m = m
  at_later (Leaves jump.Break n) t h m = m
  at_later (Leaves jump.Continue n) t h m = m
  at_later (Leaves jump.Return n) t h m = m
  at_later (Differs e) t h m = m
  at_later (Holds (place.Local i) s) t h m = later t h m
  at_later (Holds (place.Pointee i) s) t h m = later t h m
  at_later (Holds place.Shared s) t h m = later t h m
  at_later (Holds place.Fixed s) t h m = later t h m

  pub covers : (x y : Fact) → cell x ≡ cell y → moment y ≤ moment x → Marked rules start y → Marked rules start x
  covers x y e h m = subst (Marked rules start) (sym (in_cell x y e)) (at_later y (moment x) h m)

  sound_with : (table : List (Option ℕ)) (y : Fact) → cell y < length table → Marked rules start y →
      ((x : Fact) → holds table x ≡ true → Marked rules start x) → (x : Fact) → holds (cells_with table y) x ≡ true → Marked rules start x
  sound_with table y within m s x h = elim (cases_eq (cell x) (cell y)) [
    | inl e ↦ covers x y e (from_le (moment y) (moment x) (sym (entered_same table y x within e) ∙ h)) m
    | inr ne ↦ s x (sym (cells_with_other table y x ne) ∙ h)
  ]

  sound_passed : (part : List Rule) (table : List (Option ℕ)) (n : ℕ) → length table ≡ n → AllByRecursion (Contains rules) part →
      AllByRecursion (λ rule. cell rule.effect < n) part → IsSound rules start table → IsSound rules start (cells_after part table)
  sound_passed [] table n long among within s = s
  sound_passed (rule ∷ part) table n long among within s =
      of (λ t l i. sound_passed part t n l among.1 within.1 i) (fires table rule) refl
    where
      of : ((t : List (Option ℕ)) → length t ≡ n → IsSound rules start t → IsSound rules start (cells_after part t)) → (b : Bool) →
          fires table rule ≡ b → IsSound rules start (cells_after part (cells_with_if b table rule.effect))
      of go true e =
          let inside : cell rule.effect < length table = omega (arith, long, within.0) in
          let cause = s.1 rule.cause (and_left (holds table rule.cause) (not (holds table rule.effect)) e) in
          let new = and_right (holds table rule.cause) (holds table rule.effect) e in
          go (cells_with table rule.effect) (length-set table (cell rule.effect) (Some (moment rule.effect)) ∙ long) (
            entered_kept table rule.effect start inside new s.0,
            sound_with table rule.effect inside (by_rule among.0 cause) s.1,
          )
      of go false e = go table long s

  at_rule : (table : List (Option ℕ)) → AllByRecursion (Settles table) rules → (cause effect : Fact) →
      Contains rules (leads cause effect) → holds table cause ≡ true → holds table effect ≡ true
  at_rule table all cause effect within =
      All-contains (Settles table) rules (leads cause effect) (All-from_recursion (Settles table) rules all) within

  held_later : (table : List (Option ℕ)) (p : Place) (s t : ℕ) → s ≤ t → holds table (Holds p s) ≡ true →
      holds table (Holds p t) ≡ true
  held_later table (place.Local i) s t le h = from_more (slice_index_or table (16 * i + 12) None) s t le h
  held_later table (place.Pointee i) s t le h = from_more (slice_index_or table (16 * i + 13) None) s t le h
  held_later table place.Shared s t le h = from_more (slice_index_or table 14 None) s t le h
  held_later table place.Fixed s t le h = from_more (slice_index_or table 15 None) s t le h

  complete : (table : List (Option ℕ)) → AllByRecursion (Settles table) rules → holds table start ≡ true → (x : Fact) →
      Marked rules start x → holds table x ≡ true
  complete table all begun _ itself = begun
  complete table all begun _ (by_rule {cause = cause} {effect = effect} within m) =
      at_rule table all cause effect within (complete table all begun cause m)
  complete table all begun _ (later {place = p} {moment = s} next le m) =
      held_later table p s next le (complete table all begun (Holds p s) m)

  -- an empty table with the first fact
  pub begun : (n : ℕ) → cell start < n → IsSound rules start (cells_with (empty_table n) start)
  begun n within =
      let long : length (empty_table n) ≡ n = table_long (empty_table n) n n refl refl in
      let inside : cell start < length (empty_table n) = omega (arith, long, within) in (
        entered_same (empty_table n) start start inside refl ∙ le_from (moment start) (moment start) (omega arith),
        sound_with (empty_table n) start inside itself (λ x h. absurd (false≢true (sym (vacant n x) ∙ h))),
      )

  pub goes_on : (table : List (Option ℕ)) → All (λ rule. cell rule.effect < length table) rules → IsSound rules start table →
      IsSound rules start (cells_after rules table)
  goes_on table within s =
      sound_passed rules table (length table) refl (recursion_from_All (Contains rules) rules (All-contains_itself rules))
      (recursion_from_All (λ rule. cell rule.effect < length table) rules within) s

  pub settled : (table : List (Option ℕ)) → changes rules table false ≡ false → IsSound rules start table →
      HasMarks rules start (cells_after rules table)
  settled table h s x =
      let end = settles rules table h in
      let P : List (Option ℕ) → Type 0 = λ v. IsTrue (holds v x) ↔ Marked rules start x in
      subst P (sym end.0) (s.1 x, complete table end.1 s.0 x)

pub stays_same : (rules : List Rule) (table : List (Option ℕ)) → StaysSound rules table table
stays_same rules table = record { stays = λ start s. s }

pub stays_on : (rules : List Rule) (a b c : List (Option ℕ)) → StaysSound rules a b → StaysSound rules b c → StaysSound rules a c
stays_on rules a b c h k = record { stays = λ start s. k.stays start (h.stays start s) }

-- so does one rule
pub stays_fired : (rules : List Rule) (table next : List (Option ℕ)) (rule : Rule) →
    next ≡ cells_with_if (fires table rule) table rule.effect → Contains rules rule →
    All (λ rule. cell rule.effect < length table) rules → StaysSound rules table next
stays_fired rules table next rule e among within = record {
  stays = λ start s.
      let P : List (Option ℕ) → Type 0 = λ v. IsSound rules start v in
      subst P (sym e) (sound_passed rules start (rule ∷ []) table (length table) refl (among, tt)
      (All-contains (λ rule. cell rule.effect < length table) rules rule within among, tt) s);
}
