-- The way that is found leads to a statement that is wanted, and one is found if there is one.
use Rattle.std.proofs.Common.{◌≡◌, ◌⊎◌, inl, inr, ℕ, ◌+◌, Bool, true, false, List, [], ◌∷◌, Option, Some, None, refl, subst, cond}
use Rattle.shader_ir.specs.Body.{Body, End, Then, Step, Leaf, Nested, If, Switch, Loop, Cases, NoCase, Case}
use Rattle.shader_uniformity.specs.Positions.{block_end, step_end}
use Rattle.report_places.specs.Paths.{after, is_wanted, or_else, way_in_block, way_in_cases, way_in_step, way_to}
use Rattle.report_places.specs.Ways.{Finds, Leads, LeadsInto, LeadsIntoCase, here, within, later, nested, accept, reject}
use Rattle.report_places.specs.Ways.{body, continuing, switch, this, other}
use Rattle.report_places.specs.declared.paths.PathStep.{PathStep}
use Rattle.report_places.specs.declared.paths.PathStep.TheVariants as to
use Rattle.report_places.specs.declared.paths.Wanted.{Wanted}

some_injective : {A : Type 0} (x y : A) → Some x ≡ Some y → x ≡ y
some_injective x y same = cc

no_some : {A : Type 0} (x : A) → None ≡ Some x → ⊥
no_some x same = cc

some_or_other : {A : Type 0} (c : Bool) (x y : Option A) (v : A) → cond c x y ≡ Some v → (c ≡ true) × (x ≡ Some v) ⊎ (y ≡ Some v)
some_or_other true x y v is = inl (refl, is)
some_or_other false x y v is = inr is

either : (a b : Option (List PathStep)) (v : List PathStep) → or_else a b ≡ Some v → (a ≡ Some v) ⊎ (b ≡ Some v)
either (Some way) b v is = inl is
either None b v is = inr is

-- a statement that is wanted, at the end of a way
abbrev Found : Wanted → (ℕ → Step → Type 0) → Type 0
Found w IsEnd = (p : ℕ) × (t : Step) × IsEnd p t × (is_wanted w p t ≡ true)

further : (w : Wanted) (P Q : ℕ → Step → Type 0) → ((p : ℕ) (t : Step) → P p t → Q p t) → Found w P → Found w Q
further w P Q more found = (found.0, found.1, more found.0 found.1 found.2, found.3)

entered : (w : Wanted) (step : PathStep) (o : Option (List PathStep)) (way : List PathStep)
    (Inner Outer : List PathStep → ℕ → Step → Type 0) → ((rest : List PathStep) → o ≡ Some rest → Found w (Inner rest)) →
    ((rest : List PathStep) (p : ℕ) (t : Step) → Inner rest p t → Outer (step ∷ rest) p t) → after step o ≡ Some way → Found w (Outer way)
entered w step (Some rest) way Inner Outer found into is =
    subst (λ (v : List PathStep). Found w (Outer v)) (some_injective (step ∷ rest) way is)
    (further w (Inner rest) (Outer (step ∷ rest)) (into rest) (found rest refl))
entered w step None way Inner Outer found into is = absurd (no_some way is)

mutual
  block_leads : (b : Body) (i n : ℕ) (w : Wanted) (way : List PathStep) → way_in_block i n w b ≡ Some way → Found w (Leads i n b way)
  block_leads End i n w way is = absurd (no_some way is)
  block_leads (Then s b) i n w way is =
      elim (some_or_other (is_wanted w n s) (Some (to.Statement i ∷ []))
      (or_else (after (to.Statement i) (way_in_step n w s)) (way_in_block (i + 1) (step_end n s) w b)) way is) [
        | inl both ↦ (
          n,
          s,
          subst (λ (v : List PathStep). Leads i n (Then s b) v n s)
              (some_injective (to.Statement i ∷ []) way both.1) here,
          both.0,
        )
        | inr left ↦ elim (either (after (to.Statement i) (way_in_step n w s)) (way_in_block (i + 1) (step_end n s) w b) way left) [
          | inl one ↦ entered w (to.Statement i) (way_in_step n w s) way (LeadsInto n s) (Leads i n (Then s b))
              (λ rest same. step_leads s n w rest same) (λ rest p t leads. within leads) one
          | inr two ↦ further w (Leads (i + 1) (step_end n s) b way) (Leads i n (Then s b) way) (λ p t leads. later leads)
              (block_leads b (i + 1) (step_end n s) w way two)
        ]
      ]

  step_leads : (s : Step) (n : ℕ) (w : Wanted) (way : List PathStep) → way_in_step n w s ≡ Some way → Found w (LeadsInto n s way)
  step_leads (Leaf simple) n w way is = absurd (no_some way is)
  step_leads (Nested x) n w way is =
      entered w to.Block (way_in_block 0 (n + 1) w x) way (Leads 0 (n + 1) x) (LeadsInto n (Nested x))
      (λ rest same. block_leads x 0 (n + 1) w rest same) (λ rest p t leads. nested leads) is
  step_leads (If c x y) n w way is =
      elim (either (after to.Accept (way_in_block 0 (n + 1) w x)) (after to.Reject (way_in_block 0 (block_end (n + 1) x) w y)) way is) [
        | inl one ↦ entered w to.Accept (way_in_block 0 (n + 1) w x) way (Leads 0 (n + 1) x) (LeadsInto n (If c x y))
            (λ rest same. block_leads x 0 (n + 1) w rest same) (λ rest p t leads. accept leads) one
        | inr two ↦ entered w to.Reject (way_in_block 0 (block_end (n + 1) x) w y) way (Leads 0 (block_end (n + 1) x) y)
            (LeadsInto n (If c x y))
            (λ rest same. block_leads y 0 (block_end (n + 1) x) w rest same) (λ rest p t leads. reject leads) two
      ]
  step_leads (Switch e cs) n w way is =
      further w (LeadsIntoCase 0 ((n + 1) + 1) cs way) (LeadsInto n (Switch e cs) way) (λ p t leads. switch leads)
      (cases_lead cs 0 ((n + 1) + 1) w way is)
  step_leads (Loop x y k) n w way is =
      elim (either (after to.Body (way_in_block 0 ((n + 1) + 1) w x))
      (after to.Continuing (way_in_block 0 (block_end ((n + 1) + 1) x) w y)) way is) [
        | inl one ↦ entered w to.Body (way_in_block 0 ((n + 1) + 1) w x) way (Leads 0 ((n + 1) + 1) x) (LeadsInto n (Loop x y k))
            (λ rest same. block_leads x 0 ((n + 1) + 1) w rest same) (λ rest p t leads. body leads) one
        | inr two ↦ entered w to.Continuing (way_in_block 0 (block_end ((n + 1) + 1) x) w y) way
            (Leads 0 (block_end ((n + 1) + 1) x) y) (LeadsInto n (Loop x y k))
            (λ rest same. block_leads y 0 (block_end ((n + 1) + 1) x) w rest same) (λ rest p t leads. continuing leads) two
      ]

  cases_lead : (cs : Cases) (i n : ℕ) (w : Wanted) (way : List PathStep) → way_in_cases i n w cs ≡ Some way →
      Found w (LeadsIntoCase i n cs way)
  cases_lead NoCase i n w way is = absurd (no_some way is)
  cases_lead (Case v x fall cs) i n w way is =
      elim (either (after (to.Case i) (way_in_block 0 n w x)) (way_in_cases (i + 1) (block_end n x) w cs) way is) [
        | inl one ↦ entered w (to.Case i) (way_in_block 0 n w x) way (Leads 0 n x) (LeadsIntoCase i n (Case v x fall cs))
            (λ rest same. block_leads x 0 n w rest same) (λ rest p t leads. this leads) one
        | inr two ↦ further w (LeadsIntoCase (i + 1) (block_end n x) cs way) (LeadsIntoCase i n (Case v x fall cs) way)
            (λ p t leads. other leads) (cases_lead cs (i + 1) (block_end n x) w way two)
      ]

-- nothing is found only if nothing is wanted
wanted_none : {A : Type 0} (c : Bool) (x : A) (y : Option A) → c ≡ true → cond c (Some x) y ≡ None → ⊥
wanted_none true x y is none = cc
wanted_none false x y is none = cc

other_none : {A : Type 0} (c : Bool) (x : A) (y : Option A) → cond c (Some x) y ≡ None → y ≡ None
other_none true x y none = cc
other_none false x y none = none

left_none : (a b : Option (List PathStep)) → or_else a b ≡ None → a ≡ None
left_none (Some way) b none = cc
left_none None b none = refl

right_none : (a b : Option (List PathStep)) → or_else a b ≡ None → b ≡ None
right_none (Some way) b none = cc
right_none None b none = none

inner_none : (step : PathStep) (o : Option (List PathStep)) → after step o ≡ None → o ≡ None
inner_none step (Some way) none = cc
inner_none step None none = refl

module _ (w : Wanted) where
  mutual
    block_found : (i n : ℕ) (b : Body) (way : List PathStep) (p : ℕ) (t : Step) → is_wanted w p t ≡ true → Leads i n b way p t →
        way_in_block i n w b ≡ None → ⊥
    block_found i n _ _ _ _ wanted (here {s = s} {b = b}) none = wanted_none (is_wanted w n s) (to.Statement i ∷ [])
        (or_else (after (to.Statement i) (way_in_step n w s)) (way_in_block (i + 1) (step_end n s) w b)) wanted none
    block_found i n _ _ p t wanted (within {s = s} {b = b} {way = way} leads) none =
        step_found n s way p t wanted leads
        (inner_none (to.Statement i) (way_in_step n w s)
        (left_none (after (to.Statement i) (way_in_step n w s)) (way_in_block (i + 1) (step_end n s) w b)
        (other_none (is_wanted w n s) (to.Statement i ∷ [])
        (or_else (after (to.Statement i) (way_in_step n w s)) (way_in_block (i + 1) (step_end n s) w b)) none)))
    block_found i n _ way p t wanted (later {s = s} {b = b} leads) none =
        block_found (i + 1) (step_end n s) b way p t wanted leads
        (right_none (after (to.Statement i) (way_in_step n w s)) (way_in_block (i + 1) (step_end n s) w b)
        (other_none (is_wanted w n s) (to.Statement i ∷ [])
        (or_else (after (to.Statement i) (way_in_step n w s)) (way_in_block (i + 1) (step_end n s) w b)) none))

    step_found : (n : ℕ) (s : Step) (way : List PathStep) (p : ℕ) (t : Step) → is_wanted w p t ≡ true → LeadsInto n s way p t →
        way_in_step n w s ≡ None → ⊥
    step_found n _ _ p t wanted (nested {x = x} {way = way} leads) none =
        block_found 0 (n + 1) x way p t wanted leads (inner_none to.Block (way_in_block 0 (n + 1) w x) none)
    step_found n _ _ p t wanted (accept {x = x} {y = y} {way = way} leads) none =
        block_found 0 (n + 1) x way p t wanted leads
        (inner_none to.Accept (way_in_block 0 (n + 1) w x)
        (left_none (after to.Accept (way_in_block 0 (n + 1) w x)) (after to.Reject (way_in_block 0 (block_end (n + 1) x) w y)) none))
    step_found n _ _ p t wanted (reject {x = x} {y = y} {way = way} leads) none =
        block_found 0 (block_end (n + 1) x) y way p t wanted leads
        (inner_none to.Reject (way_in_block 0 (block_end (n + 1) x) w y)
        (right_none (after to.Accept (way_in_block 0 (n + 1) w x)) (after to.Reject (way_in_block 0 (block_end (n + 1) x) w y)) none))
    step_found n _ _ p t wanted (body {x = x} {y = y} {way = way} leads) none =
        block_found 0 ((n + 1) + 1) x way p t wanted leads
        (inner_none to.Body (way_in_block 0 ((n + 1) + 1) w x)
        (left_none (after to.Body (way_in_block 0 ((n + 1) + 1) w x))
        (after to.Continuing (way_in_block 0 (block_end ((n + 1) + 1) x) w y)) none))
    step_found n _ _ p t wanted (continuing {x = x} {y = y} {way = way} leads) none =
        block_found 0 (block_end ((n + 1) + 1) x) y way p t wanted leads
        (inner_none to.Continuing (way_in_block 0 (block_end ((n + 1) + 1) x) w y)
        (right_none (after to.Body (way_in_block 0 ((n + 1) + 1) w x))
        (after to.Continuing (way_in_block 0 (block_end ((n + 1) + 1) x) w y)) none))
    step_found n _ way p t wanted (switch {cs = cs} leads) none = cases_found 0 ((n + 1) + 1) cs way p t wanted leads none

    cases_found : (i n : ℕ) (cs : Cases) (way : List PathStep) (p : ℕ) (t : Step) → is_wanted w p t ≡ true →
        LeadsIntoCase i n cs way p t → way_in_cases i n w cs ≡ None → ⊥
    cases_found i n _ _ p t wanted (this {x = x} {cs = cs} {way = way} leads) none =
        block_found 0 n x way p t wanted leads
        (inner_none (to.Case i) (way_in_block 0 n w x)
        (left_none (after (to.Case i) (way_in_block 0 n w x)) (way_in_cases (i + 1) (block_end n x) w cs) none))
    cases_found i n _ way p t wanted (other {x = x} {cs = cs} leads) none =
        cases_found (i + 1) (block_end n x) cs way p t wanted leads
        (right_none (after (to.Case i) (way_in_block 0 n w x)) (way_in_cases (i + 1) (block_end n x) w cs) none)

finds_by : (w : Wanted) (b : Body) (o : Option (List PathStep)) → way_to w b ≡ o → Finds w b o
finds_by w b (Some way) is =
    let found = block_leads b 0 1 w way is in
    record { position = found.0; statement = found.1; leads = found.2; wanted = found.3 }
finds_by w b None is = λ way there. block_found w 0 1 b way there.position there.statement there.wanted there.leads is

pub finds : (w : Wanted) (b : Body) → Finds w b (way_to w b)
finds w b = finds_by w b (way_to w b) refl
