-- Uses, global by global.
use Rattle.std.proofs.Common.{◌≡◌, ◌≢◌, refl, sym, ap, subst, ◌∙◌, ℕ, ◌<◌, ◌⊎◌, inl, inr, List, [], ◌∷◌, Bool}
use Rattle.std.proofs.Common.{true, false, ◌&&◌, if◌then◌else◌, Option, Some, None, length, slice_index, slice_set}
use Rattle.std.proofs.Common.{nat_eq, nat_lt, bit_or, fold, arith, get_or-set_same, get_or-set_other}
use Rattle.std.proofs.lemmas.Bool.{cases_eq}
use Rattle.std.proofs.lemmas.Bool.Decides.{nat_tests}
use Rattle.std.proofs.Math.ListN.{length-set}
use Rattle.std.specs.List.{Contains}
use Rattle.shader_analysis_spec.specs.Program.{Label}
use Rattle.shader_passes.specs.Facts.{Fact}
use Rattle.shader_passes.specs.Facts.{root_at}
use Rattle.shader_passes.specs.CalleeUses.{named_once, named_by}
use Rattle.shader_passes.specs.CountsAndUses.{CountsAndUses, ref_counts_after, uses_after, bits}
use Rattle.shader_analysis_spec.proofs.ListLemmas.{nowhere, here, there, cases}
use Rattle.shader_passes.proofs.CountLemmas.{if_true, if_false}

pub eq_true : (a b : ℕ) → a ≡ b → nat_eq a b ≡ true
eq_true a b h = grind (arith, nat_tests)

pub eq_false : (a b : ℕ) → a ≢ b → nat_eq a b ≡ false
eq_false a b h = grind (arith, nat_tests)

-- the uses of g after one operand
abbrev pub put_one : Option ℕ → ℕ → ℕ → ℕ → ℕ
put_one (Some h) g n l = if nat_eq h g then bit_or n l else n
put_one None g n l = n

abbrev pub put_at : List Fact → ℕ → ℕ → (ℕ × Label) → ℕ
put_at infos g n o = put_one (root_at infos o.0) g n (bits o.1)

put_long : (r : Option ℕ) (uses : List ℕ) (l : ℕ) → length (uses_after r uses l) ≡ length uses
put_long None uses l = refl
put_long (Some h) uses l = length-set uses h (bit_or (slice_index uses h) l)

put_is : (r : Option ℕ) (uses : List ℕ) (g l : ℕ) → g < length uses →
    slice_index (uses_after r uses l) g ≡ put_one r g (slice_index uses g) l
put_is None uses g l lt = refl
put_is (Some h) uses g l lt = elim (cases_eq h g) [
  | inl same ↦
      let P : ℕ → Type 0 = λ v. slice_index (slice_set uses v (bit_or (slice_index uses v) l)) g ≡ bit_or (slice_index uses g) l in
      let at : slice_index (slice_set uses g (bit_or (slice_index uses g) l)) g ≡ bit_or (slice_index uses g) l = rw get_or-set_same in
      subst P (sym same) at ∙ sym (if_true (nat_eq h g) (bit_or (slice_index uses g) l) (slice_index uses g) (eq_true h g same))
  | inr apart ↦
      let ne : g ≢ h = λ e. apart (sym e) in
      let at : slice_index (slice_set uses h (bit_or (slice_index uses h) l)) g ≡ slice_index uses g = rw get_or-set_other in
      at ∙ sym (if_false (nat_eq h g) (bit_or (slice_index uses g) l) (slice_index uses g) (eq_false h g apart))
]

module _ (infos : List Fact) where
  pub puts_long : (t : CountsAndUses) (os : List (ℕ × Label)) → length (fold (ref_counts_after infos) t os).1 ≡ length t.1
  puts_long t [] = refl
  puts_long t (o ∷ os) = puts_long (ref_counts_after infos t o) os ∙ put_long (root_at infos o.0) t.1 (bits o.1)

  pub puts_are : (t : CountsAndUses) (os : List (ℕ × Label)) (g : ℕ) → g < length t.1 →
      slice_index (fold (ref_counts_after infos) t os).1 g ≡ fold (put_at infos g) (slice_index t.1 g) os
  puts_are t [] g lt = refl
  puts_are t (o ∷ os) g lt =
      puts_are (ref_counts_after infos t o) os g (omega (arith, put_long (root_at infos o.0) t.1 (bits o.1)))
      ∙ ap (λ v. fold (put_at infos g) v os) (put_is (root_at infos o.0) t.1 g (bits o.1) lt)

-- the uses of g after one expression is named
abbrev pub name_one : Option ℕ → ℕ → ℕ → ℕ
name_one (Some h) g n = if nat_eq h g && nat_eq n 0 then 4 else n
name_one None g n = n

abbrev pub name_at : List Fact → ℕ → ℕ → ℕ → ℕ
name_at infos g n e = name_one (root_at infos e) g n

name_long : (r : Option ℕ) (uses : List ℕ) → length (named_once uses r) ≡ length uses
name_long None uses = refl
name_long (Some h) uses = at (nat_lt h (length uses) && nat_eq (slice_index uses h) 0) refl where
  at : (b : Bool) → (nat_lt h (length uses) && nat_eq (slice_index uses h) 0) ≡ b → length (named_once uses (Some h)) ≡ length uses
  at true t = ap length (if_true _ (slice_set uses h 4) uses t) ∙ length-set uses h 4
  at false t = ap length (if_false _ (slice_set uses h 4) uses t)

name_is : (r : Option ℕ) (uses : List ℕ) (g : ℕ) → g < length uses → slice_index (named_once uses r) g ≡ name_one r g (slice_index uses g)
name_is None uses g lt = refl
name_is (Some h) uses g lt = elim (cases_eq h g) [
  | inl same ↦
      let P : ℕ → Type 0 = λ v. slice_index (named_once uses (Some v)) g ≡ name_one (Some v) g (slice_index uses g) in
      subst P (sym same) (at (nat_eq (slice_index uses g) 0) refl)
  | inr apart ↦ other (nat_lt h (length uses) && nat_eq (slice_index uses h) 0) refl apart
] where
  inside : nat_lt g (length uses) ≡ true
  inside = grind (arith, nat_tests)

  at : (b : Bool) → nat_eq (slice_index uses g) 0 ≡ b → slice_index (named_once uses (Some g)) g ≡ name_one (Some g) g (slice_index uses g)
  at true t =
      let within : nat_lt g (length uses) ≡ true = inside in
      let test : (nat_lt g (length uses) && nat_eq (slice_index uses g) 0) ≡ true = cc in
      let set : slice_index (slice_set uses g 4) g ≡ 4 = rw get_or-set_same in
      let one : nat_eq g g ≡ true = eq_true g g refl in
      let both : (nat_eq g g && nat_eq (slice_index uses g) 0) ≡ true = cc in
      ap (λ v. slice_index v g) (if_true _ (slice_set uses g 4) uses test) ∙ (set ∙ sym (if_true _ 4 (slice_index uses g) both))
  at false t =
      let within : nat_lt g (length uses) ≡ true = inside in
      let test : (nat_lt g (length uses) && nat_eq (slice_index uses g) 0) ≡ false = cc in
      let one : nat_eq g g ≡ true = eq_true g g refl in
      let both : (nat_eq g g && nat_eq (slice_index uses g) 0) ≡ false = cc in
      ap (λ v. slice_index v g) (if_false _ (slice_set uses g 4) uses test) ∙ sym (if_false _ 4 (slice_index uses g) both)

  left : (b : Bool) → (nat_lt h (length uses) && nat_eq (slice_index uses h) 0) ≡ b → h ≢ g →
      slice_index (named_once uses (Some h)) g ≡ slice_index uses g
  left true t apart =
      let ne : g ≢ h = λ e. apart (sym e) in
      let set : slice_index (slice_set uses h 4) g ≡ slice_index uses g = rw get_or-set_other in
      ap (λ v. slice_index v g) (if_true _ (slice_set uses h 4) uses t) ∙ set
  left false t apart = ap (λ v. slice_index v g) (if_false _ (slice_set uses h 4) uses t)

  other : (b : Bool) → (nat_lt h (length uses) && nat_eq (slice_index uses h) 0) ≡ b → h ≢ g →
      slice_index (named_once uses (Some h)) g ≡ name_one (Some h) g (slice_index uses g)
  other b t apart =
      let never : nat_eq h g ≡ false = eq_false h g apart in
      let both : (nat_eq h g && nat_eq (slice_index uses g) 0) ≡ false = cc in
      left b t apart ∙ sym (if_false _ 4 (slice_index uses g) both)

module _ (infos : List Fact) where
  pub names_long : (uses es : List ℕ) → length (fold (named_by infos) uses es) ≡ length uses
  names_long uses [] = refl
  names_long uses (e ∷ es) = names_long (named_by infos uses e) es ∙ name_long (root_at infos e) uses

  pub names_are : (uses es : List ℕ) (g : ℕ) → g < length uses →
      slice_index (fold (named_by infos) uses es) g ≡ fold (name_at infos g) (slice_index uses g) es
  names_are uses [] g lt = refl
  names_are uses (e ∷ es) g lt =
      names_are (named_by infos uses e) es g (omega (arith, name_long (root_at infos e) uses))
      ∙ ap (λ v. fold (name_at infos g) v es) (name_is (root_at infos e) uses g lt)

  -- the uses of a used global don't change
  used_stays : (r : Option ℕ) (g n : ℕ) → n ≢ 0 → name_one r g n ≡ n
  used_stays None g n some = refl
  used_stays (Some h) g n some = at (nat_eq h g) refl where
    at : (b : Bool) → nat_eq h g ≡ b → name_one (Some h) g n ≡ n
    at true t =
        let no : nat_eq n 0 ≡ false = eq_false n 0 some in
        let both : (nat_eq h g && nat_eq n 0) ≡ false = cc in if_false _ 4 n both
    at false t = let both : (nat_eq h g && nat_eq n 0) ≡ false = cc in if_false _ 4 n both

  pub used_named : (g n : ℕ) (es : List ℕ) → n ≢ 0 → fold (name_at infos g) n es ≡ n
  used_named g n [] some = refl
  used_named g n (e ∷ es) some = ap (λ v. fold (name_at infos g) v es) (used_stays (root_at infos e) g n some) ∙ used_named g n es some

  -- an unused global is marked if it is named
  unused_named : (g : ℕ) (r : Option ℕ) → ((r ≡ Some g) × (name_one r g 0 ≡ 4)) ⊎ ((r ≡ Some g → ⊥) × (name_one r g 0 ≡ 0))
  unused_named g None = inr ((λ e. absurd (cc)), refl)
  unused_named g (Some h) = elim (cases_eq h g) [
    | inl same ↦
        let one : nat_eq h g ≡ true = eq_true h g same in
        let both : (nat_eq h g && nat_eq 0 0) ≡ true = cc in inl (ap (λ (v : ℕ). Some v) same, if_true _ 4 0 both)
    | inr apart ↦
        let one : nat_eq h g ≡ false = eq_false h g apart in
        let both : (nat_eq h g && nat_eq 0 0) ≡ false = cc in
        inr ((λ e. apart (cc)), if_false _ 4 0 both)
  ]

  abbrev pub Named : ℕ → List ℕ → Type 0
  Named g es = (e : ℕ) × Contains es e × (root_at infos e ≡ Some g)

  pub named_cases : (g : ℕ) (es : List ℕ) → (Named g es × (fold (name_at infos g) 0 es ≡ 4)) ⊎ ((Named g es → ⊥) ×
      (fold (name_at infos g) 0 es ≡ 0))
  named_cases g [] = inr ((λ t. nowhere t.0 t.1), refl)
  named_cases g (e ∷ es) = elim (unused_named g (root_at infos e)) [
    | inl one ↦
        inl ((e, here e es, one.0), ap (λ v. fold (name_at infos g) v es) one.1 ∙ used_named g 4 es (λ h. absurd (omega arith)))
    | inr none ↦ elim (named_cases g es) [
      | inl later ↦ inl ((later.0.0, there e es later.0.0 later.0.1, later.0.2), ap (λ v. fold (name_at infos g) v es) none.1 ∙ later.1)
      | inr never ↦ inr (
        (λ t. elim (cases e es t.0 t.1) [
          | inl is ↦ let P : ℕ → Type 0 = λ v. root_at infos v ≡ Some g in none.0 (subst P (sym is) t.2)
          | inr k ↦ never.0 (t.0, k, t.2)
        ]),
        ap (λ v. fold (name_at infos g) v es) none.1 ∙ never.1,
      )
    ]
  ]
