-- Runs in lockstep keep to the marks.
use Rattle.std.proofs.Common.{◌≡◌, refl, sym, ◌∙◌, ap, subst, ◌⊎◌, inl, inr, ℕ, ◌+◌, ◌<◌, ◌≤◌, Bool, true, false, not, ◌&&◌}
use Rattle.std.proofs.Common.{◌||◌}
use Rattle.std.proofs.Common.{List, [], ◌∷◌, ◌++◌, Option, Some, None, length, arith, nat_eq}
use Rattle.std.specs.List.{AllByRecursion}
use Rattle.shader_uniformity.specs.Apart.{step_rules, block_rules, cases_rules, branch_rules, enter_case_rules, fall_rules, falls_from}
use Rattle.shader_uniformity.specs.Apart.{leave_switch_rules, break_rules, enter_loop_rules, continuing_rules, leave_loop_rules, end_rules}
use Rattle.shader_uniformity.specs.Leaves.{pass_rules, all_pass_rules, part_rules, case_rules, cases_escape}
use Rattle.shader_uniformity.specs.Marks.{leads}
use Rattle.shader_uniformity.specs.Positions.{step_end, block_end, cases_end, reads_at}
use Rattle.shader_uniformity.specs.Words.{Body, End, Then, Step, Leaf, Nested, If, Switch, Loop, Cases, NoCase, Case}
use Rattle.shader_uniformity.specs.declared.facts.Fact.{Fact}
use Rattle.shader_uniformity.specs.declared.facts.Fact.TheVariants.{Always, Apart, Differs, Leaves, Must}
use Rattle.shader_uniformity.specs.declared.facts.Fact.TheVariants as fact
use Rattle.shader_uniformity.specs.declared.facts.Jump.{Jump}
use Rattle.shader_uniformity.specs.declared.facts.Jump.TheVariants as jump
use Rattle.shader_uniformity.specs.declared.facts.Rule.{Rule}
use Rattle.std.proofs.lemmas.Bool.{false≢true}
use Rattle.std.proofs.lemmas.Bool.Decides.{nat_tests}
use Rattle.shader_uniformity.specs.Calls.{call_rules}
use Rattle.shader_uniformity.specs.Fault.{AreKnown, severity}
use Rattle.shader_uniformity.specs.Lockstep.{Status, On, Off, Left, State, Meaning, Group, Trace, enter_one, meet_one, pick, behind_body}
use Rattle.shader_uniformity.specs.Lockstep.{behind_round, behind_loop, behind_case, is_on, passes_test}
use Rattle.shader_uniformity.specs.Lockstep as run
use Rattle.shader_uniformity.specs.Places.{places}
use Rattle.shader_uniformity.specs.Words.{Function, Module}
use Rattle.shader_uniformity.proofs.CallLemmas as call
use Rattle.shader_uniformity.proofs.DoesLemmas.{Comes, Lefts, comes, reads_le, writes_le}
use Rattle.shader_uniformity.proofs.EmitLemmas.{IsKept, all_append}
use Rattle.shader_uniformity.proofs.FineLemmas.{Cl, head, tail, left, right, AreMarks, Fine, fine_later}
use Rattle.shader_uniformity.proofs.StatusLemmas.{Alike, Together, Moves, in_block, both, joins, alike_both, alike_after}
use Rattle.shader_uniformity.proofs.StatusLemmas.{enter_one_left}
use Rattle.shader_uniformity.proofs.StatusLemmas.{enter_one_false, each_jump, moves_on, is_off, move_off, behind_body_off, behind_round_off}
use Rattle.shader_uniformity.proofs.StatusLemmas.{behind_body_return, behind_round_return, return_behind_round, behind_return, behind_other}
use Rattle.shader_uniformity.proofs.StatusLemmas.{case_break, case_other, case_move, on_or_off, rounds_move, all_jumps}

-- positions grow
mutual
  pub step_after : (n : ℕ) (s : Step) → n < step_end n s
  step_after n (Leaf simple) = omega arith
  step_after n (Nested x) = let a = block_after (n + 1) x in omega (arith, a)
  step_after n (If c x y) =
      let a = block_after (n + 1) x in let b = block_after (block_end (n + 1) x) y in omega (arith, a, b)
  step_after n (Switch e cs) = let a = cases_after ((n + 1) + 1) cs in omega (arith, a)
  step_after n (Loop x y k) =
      let a = block_after ((n + 1) + 1) x in let b = block_after (block_end ((n + 1) + 1) x) y in omega (arith, a, b)

  pub block_after : (n : ℕ) (b : Body) → n < block_end n b
  block_after n End = omega arith
  block_after n (Then s b) = let a = step_after n s in let c = block_after (step_end n s) b in omega (arith, a, c)

  pub cases_after : (n : ℕ) (cs : Cases) → n ≤ cases_end n cs
  cases_after n NoCase = omega arith
  cases_after n (Case v x fall cs) = let a = block_after n x in let c = cases_after (block_end n x) cs in omega (arith, a, c)

-- what a jump out of a block of a statement leads to
module _ (M : Fact → Type 0) where
  pub passes : (p q behind : ℕ) (j : Jump) → Cl M (pass_rules p q behind j) →
      (M (Leaves j p) → M (Leaves j q)) × (M (Leaves j p) → M (Apart behind))
  passes p q behind j c = (
    head M (leads (Leaves j p) (Leaves j q)) (leads (Leaves j p) (Apart behind) ∷ []) c,
    head M (leads (Leaves j p) (Apart behind)) []
        (tail M (leads (Leaves j p) (Leaves j q)) (leads (Leaves j p) (Apart behind) ∷ []) c),
  )

  pub all_passes : (p q behind : ℕ) → Cl M (all_pass_rules p q behind) → (j : Jump) → M (Leaves j p) → M (Leaves j q) × M (Apart behind)
  all_passes p q behind c jump.Break m =
      let r = passes p q behind jump.Break (left M (pass_rules p q behind jump.Break)
      (pass_rules p q behind jump.Continue ++ pass_rules p q behind jump.Return) c) in
      (r.0 m, r.1 m)
  all_passes p q behind c jump.Continue m =
      let r = passes p q behind jump.Continue (left M (pass_rules p q behind jump.Continue) (pass_rules p q behind jump.Return)
      (right M (pass_rules p q behind jump.Break) (pass_rules p q behind jump.Continue ++ pass_rules p q behind jump.Return) c)) in
      (r.0 m, r.1 m)
  all_passes p q behind c jump.Return m =
      let r = passes p q behind jump.Return (right M (pass_rules p q behind jump.Continue) (pass_rules p q behind jump.Return)
      (right M (pass_rules p q behind jump.Break) (pass_rules p q behind jump.Continue ++ pass_rules p q behind jump.Return) c)) in
      (r.0 m, r.1 m)

  pub parts : (p behind : ℕ) → Cl M (part_rules p behind) → (j : Jump) → M (Leaves j p) → M (Apart behind)
  parts p behind c jump.Break m = head M (leads (Leaves jump.Break p) (Apart behind))
      (leads (Leaves jump.Continue p) (Apart behind) ∷ leads (Leaves jump.Return p) (Apart behind) ∷ []) c m
  parts p behind c jump.Continue m =
      head M (leads (Leaves jump.Continue p) (Apart behind)) (leads (Leaves jump.Return p) (Apart behind) ∷ [])
      (tail M (leads (Leaves jump.Break p) (Apart behind))
      (leads (Leaves jump.Continue p) (Apart behind) ∷ leads (Leaves jump.Return p) (Apart behind) ∷ []) c) m
  parts p behind c jump.Return m = head M (leads (Leaves jump.Return p) (Apart behind)) []
      (tail M (leads (Leaves jump.Continue p) (Apart behind)) (leads (Leaves jump.Return p) (Apart behind) ∷ [])
      (tail M (leads (Leaves jump.Break p) (Apart behind))
      (leads (Leaves jump.Continue p) (Apart behind) ∷ leads (Leaves jump.Return p) (Apart behind) ∷ []) c)) m

  pub gathers : (p cases : ℕ) → Cl M (case_rules p cases) → (j : Jump) → M (Leaves j p) → M (Leaves j cases)
  gathers p cases c jump.Break m = head M (leads (Leaves jump.Break p) (Leaves jump.Break cases))
      (leads (Leaves jump.Continue p) (Leaves jump.Continue cases) ∷ leads (Leaves jump.Return p) (Leaves jump.Return cases) ∷ []) c m
  gathers p cases c jump.Continue m = head M (leads (Leaves jump.Continue p) (Leaves jump.Continue cases))
      (leads (Leaves jump.Return p) (Leaves jump.Return cases) ∷ [])
      (tail M (leads (Leaves jump.Break p) (Leaves jump.Break cases))
      (leads (Leaves jump.Continue p) (Leaves jump.Continue cases) ∷ leads (Leaves jump.Return p) (Leaves jump.Return cases) ∷ []) c) m
  gathers p cases c jump.Return m = head M (leads (Leaves jump.Return p) (Leaves jump.Return cases)) []
      (tail M (leads (Leaves jump.Continue p) (Leaves jump.Continue cases)) (leads (Leaves jump.Return p) (Leaves jump.Return cases) ∷ [])
      (tail M (leads (Leaves jump.Break p) (Leaves jump.Break cases))
      (leads (Leaves jump.Continue p) (Leaves jump.Continue cases) ∷ leads (Leaves jump.Return p) (Leaves jump.Return cases) ∷ []) c)) m

  pub branches : (n c p : ℕ) → Cl M (branch_rules n c p) → (M (Apart n) → M (Apart p)) × (M (Differs c) → M (Apart p))
  branches n c p r = (
    head M (leads (Apart n) (Apart p)) (leads (Differs c) (Apart p) ∷ []) r,
    head M (leads (Differs c) (Apart p)) [] (tail M (leads (Apart n) (Apart p)) (leads (Differs c) (Apart p) ∷ []) r),
  )

  pub falls : (fallen p : ℕ) → Cl M (fall_rules (Some fallen) p) →
      (M (Apart fallen) ⊎ ((j : Jump) × M (Leaves j fallen))) → M (Apart p)
  falls fallen p c how = elim how [
    | inl m ↦ head M (leads (Apart fallen) (Apart p)) (part_rules fallen p) c m
    | inr m ↦ parts fallen p (tail M (leads (Apart fallen) (Apart p)) (part_rules fallen p) c) m.0 m.1
  ]

  pub loop_ends : (n rounds body : ℕ) (k : Option ℕ) → Cl M (enter_loop_rules n rounds body k) →
      (M (Apart n) → M (Apart rounds)) × (M (Apart rounds) → M (Apart body)) ×
      ((e : ℕ) → k ≡ Some e → M (Differs e) → M (Apart rounds))
  loop_ends n rounds body k c = (
    head M (leads (Apart n) (Apart rounds)) (leads (Apart rounds) (Apart body) ∷ end_rules rounds k) c,
    head M (leads (Apart rounds) (Apart body)) (end_rules rounds k)
        (tail M (leads (Apart n) (Apart rounds)) (leads (Apart rounds) (Apart body) ∷ end_rules rounds k) c),
    of k (tail M (leads (Apart rounds) (Apart body)) (end_rules rounds k)
        (tail M (leads (Apart n) (Apart rounds)) (leads (Apart rounds) (Apart body) ∷ end_rules rounds k) c)),
  )
    where
      of : (k : Option ℕ) → Cl M (end_rules rounds k) → (e : ℕ) → k ≡ Some e → M (Differs e) → M (Apart rounds)
      of None c e is m = absurd (cc)
      of (Some d) c e is m =
          let P : ℕ → Type 0 = λ v. M (Differs v) in
          let back : e ≡ d = cc in
          head M (leads (Differs d) (Apart rounds)) [] c (subst P back m)

-- the runs
module _ (I V : Type 0) (first : I) (t : Meaning I V) (m : Module) where
  abbrev pub sev : Function → Bool
  sev f = severity m f

  abbrev nobody : Group I V
  nobody i = Off

  -- what is so behind a block
  pub record BlockComes (M : Fact → Type 0) (k : AreMarks M) (q moment : ℕ) (g : Group I V) (u : State I V) (h : Group I V)
      (a : Trace I V) : Type 0 where
    pub fine : Fine I V M k moment u
    pub lefts : Lefts I V M k t q h
    pub moves : Moves I g h
    pub needs : AllByRecursion (IsKept I V M k t) a

  entered_lefts : (M : Fact → Type 0) (k : AreMarks M) (q : ℕ) (g : Group I V) (b : I → Bool) → Lefts I V M k t q (run.enter I V g b)
  entered_lefts M k q g b j = inl (λ i x e. absurd (enter_one_left (g i) (b i) j e))

  nobody_moves : (g : Group I V) → Moves I (in_block I g (λ i. false)) nobody
  nobody_moves g i = inl (enter_one_false (g i))

  nobody_left : (j : Jump) → Together I nobody (Left j)
  nobody_left j i x e = absurd (cc)

  all_enter : (g : Group I V) (B : Type 0) (A : Type 0) → Alike I g ⊎ A → (A → B) → Alike I (run.enter I V g (run.everyone I V)) ⊎ B
  all_enter g B A flow to = elim flow [
    | inl same ↦ inl (λ i x. ap (λ (s : Status). enter_one s true) (same i x))
    | inr y ↦ inr (to y)
  ]

  -- those that an outcome of one function leaves together are so in its caller
  needs_out : (M N : Fact → Type 0) (k : AreMarks M) (l : AreMarks N) → (N Must → M Must) → (a : Trace I V) →
      AllByRecursion (IsKept I V N l t) a → AllByRecursion (IsKept I V M k t) a
  needs_out M N k l to [] all = tt
  needs_out M N k l to (g ∷ a) all =
      (elim all.0 [ inl together ↦ inl together | inr y ↦ inr (to y) ], needs_out M N k l to a all.1)

  -- how the invocations come to the cases of a Switch that are left
  data Mode (M : Fact → Type 0) (n e : ℕ) (choice : I → ℕ) (c : ℕ) (fell : I → Bool) (fallen : Option ℕ) (g : Group I V) : Type 0 where
    uniform : Alike I g → ((i x : I) → choice i ≡ choice x) → ((i x : I) → fell i ≡ fell x) →
        ((i : I) → fell i ≡ true → choice i < c) → Mode M n e choice c fell fallen g
    passed_by : ((i : I) → choice i < c) → ((i : I) → fell i ≡ false) → Mode M n e choice c fell fallen g
    parted : ((i : I) → choice i < c) → (p : ℕ) → fallen ≡ Some p → (M (Apart p) ⊎ ((j : Jump) × M (Leaves j p))) →
        Mode M n e choice c fell fallen g
    apart : (M (Apart n) ⊎ M (Differs e)) → Mode M n e choice c fell fallen g

  abbrev chooses : (I → ℕ) → ℕ → (I → Bool) → I → Bool
  chooses choice c fell i = nat_eq (choice i) c || fell i

  different : (a c : ℕ) → a < c → nat_eq a c ≡ false
  different a c lt = grind (arith, nat_tests)

  unchosen : (a c : ℕ) (b : Bool) → a < c → b ≡ false → nat_eq a c || b ≡ false
  unchosen a c b lt e = ap (λ (v : Bool). nat_eq a c || v) e ∙ ap (λ (v : Bool). v || false) (different a c lt)

  drop_false : (b : Bool) → b || false ≡ true → b ≡ true
  drop_false true e = refl
  drop_false false e = e

  same_number : (a c : ℕ) → nat_eq a c ≡ true → a ≡ c
  same_number a c e = grind (arith, nat_tests)

  chosen_below : (a c : ℕ) (b : Bool) → (b ≡ true → a < c) → nat_eq a c || b ≡ true → a < c + 1
  chosen_below a c true below e = let lt = below refl in omega (arith, lt)
  chosen_below a c false below e = let is = same_number a c (drop_false (nat_eq a c) e) in omega (arith, is)

  module _ (M : Fact → Type 0) (n e c p : ℕ) (choice : I → ℕ) (fell : I → Bool) (fallen : Option ℕ) (g : Group I V) where
    flow_in : Cl M (enter_case_rules n e fallen p) → Mode M n e choice c fell fallen g →
        Alike I (in_block I g (chooses choice c fell)) ⊎ M (Apart p)
    flow_in r (uniform same same_choice same_fell below) = inl (λ i x.
        ap (λ (s : Status). enter_one s (chooses choice c fell i)) (same i x)
        ∙ ap (λ (v : ℕ). enter_one (g x) (nat_eq v c || fell i)) (same_choice i x)
        ∙ ap (λ (v : Bool). enter_one (g x) (nat_eq (choice x) c || v)) (same_fell i x))
    flow_in r (passed_by below unfallen) = inl (λ i x. sym (outside i) ∙ outside x)
      where
        outside : (i : I) → Off ≡ in_block I g (chooses choice c fell) i
        outside i = enter_one_false (g i)
            ∙ ap (λ (v : Bool). enter_one (g i) v) (sym (unchosen (choice i) c (fell i) (below i) (unfallen i)))
    flow_in r (parted below p' is how) =
        let P : Option ℕ → Type 0 = λ v. Cl M (fall_rules v p) in
        inr (falls M p' p (subst P is (right M (branch_rules n e p) (fall_rules fallen p) r)) how)
    flow_in r (apart how) =
        let b = branches M n e p (left M (branch_rules n e p) (fall_rules fallen p) r) in
        elim how [ inl y ↦ inr (b.0 y) | inr y ↦ inr (b.1 y) ]

  -- the next case, where p is where one stands
  module _ (M : Fact → Type 0) (n e c p : ℕ) (choice : I → ℕ) (fell : I → Bool) (fallen : Option ℕ) (g h : Group I V) (fall : Bool)
      (moves : Moves I (in_block I g (chooses choice c fell)) h) (lefts : (j : Jump) → Together I h (Left j) ⊎ M (Leaves j p)) where
    abbrev passing : Group I V
    passing i = enter_one (g i) (not (chooses choice c fell i))

    abbrev met : Group I V
    met = both I g (chooses choice c fell) (λ i. behind_case (h i)) passing

    abbrev falling : I → Bool
    falling i = fall && is_on (h i)

    abbrev Next : Type 0
    Next = Mode M n e choice (c + 1) falling (falls_from fall p) met

    case_moves : Moves I (in_block I g (chooses choice c fell)) (λ i. behind_case (h i))
    case_moves i = case_move (enter_one (g i) (chooses choice c fell i)) (h i) (moves i) (on_or_off (g i) (chooses choice c fell i))

    passing_left : (j : Jump) → Together I passing (Left j)
    passing_left j i x w = absurd (enter_one_left (g i) (not (chooses choice c fell i)) j w)

    stays_out : (i : I) → chooses choice c fell i ≡ false → h i ≡ Off
    stays_out i w = elim (moves i) [
      | inl same ↦ same ∙ ap (λ (v : Bool). enter_one (g i) v) w ∙ sym (enter_one_false (g i))
      | inr x ↦
          let wrong : Off ≡ On = enter_one_false (g i) ∙ ap (λ (v : Bool). enter_one (g i) v) (sym w) ∙ x.0 in
          absurd (cc)
    ]

    unfallen : (b : Bool) (i : I) → is_on (h i) ≡ false → b && is_on (h i) ≡ false
    unfallen true i w = w
    unfallen false i w = refl

    out_is_off : (i : I) → chooses choice c fell i ≡ false → is_on (h i) ≡ false
    out_is_off i w = ap is_on (stays_out i w)

    unfalling : (i : I) → fall ≡ false → falling i ≡ false
    unfalling i w = ap (λ (v : Bool). v && is_on (h i)) w

    -- behind a case that is parted
    behind_parted : ((i : I) → choice i < c + 1) → (M (Apart p) ⊎ ((j : Jump) × M (Leaves j p))) → (b : Bool) → fall ≡ b → Next
    behind_parted below how true w = parted below p (ap (λ (v : Bool). falls_from v p) w) how
    behind_parted below how false w = passed_by below (λ i. unfalling i w)

    none_enter : Alike I g → ((i x : I) → choice i ≡ choice x) → ((i : I) → chooses choice c fell i ≡ false) → Next
    none_enter same same_choice out = uniform
        (alike_both I (Unit {0}) (λ j. Unit {0}) g (chooses choice c fell) (λ i. behind_case (h i)) passing same case_moves (λ i. inl refl)
        (λ j i x w. let wrong : Off ≡ Left j = sym (ap behind_case (stays_out i (out i))) ∙ w in absurd (cc)) passing_left)
        same_choice
        (λ i x. unfallen fall i (out_is_off i (out i)) ∙ sym (unfallen fall x (out_is_off x (out x))))
        (λ i w. absurd (false≢true (sym (unfallen fall i (out_is_off i (out i))) ∙ w)))

    all_leave_alike : Alike I g → ((i x : I) → choice i ≡ choice x) → ((i x : I) → chooses choice c fell i ≡ chooses choice c fell x) →
        ((i : I) → choice i < c + 1) → ((j : Jump) → Together I h (Left j)) → Next
    all_leave_alike same same_choice same_chooses below together =
        let inside : Alike I (in_block I g (chooses choice c fell)) = λ i x.
        ap (λ (s : Status). enter_one s (chooses choice c fell i)) (same i x)
        ∙ ap (λ (v : Bool). enter_one (g x) v) (same_chooses i x) in
        let out = alike_after I (in_block I g (chooses choice c fell)) h inside moves (λ i. on_or_off (g i) (chooses choice c fell i))
        together in
        uniform (alike_both I (Unit {0}) (λ j. Unit {0}) g (chooses choice c fell) (λ i. behind_case (h i)) passing same case_moves
        (λ i. inl refl)
        (λ j i x w. ap behind_case (out x i) ∙ w) passing_left)
        same_choice (λ i x. ap (λ (s : Status). fall && is_on s) (out i x)) (λ i w. below i)

    next_mode : Mode M n e choice c fell fallen g → Cl M (enter_case_rules n e fallen p) → Next
    next_mode (uniform same same_choice same_fell below) r = by_first (chooses choice c fell first) refl
      where
        same_chooses : (i x : I) → chooses choice c fell i ≡ chooses choice c fell x
        same_chooses i x = ap (λ (v : ℕ). nat_eq v c || fell i) (same_choice i x)
            ∙ ap (λ (v : Bool). nat_eq (choice x) c || v) (same_fell i x)

        by_first : (b : Bool) → chooses choice c fell first ≡ b → Next
        by_first false w = none_enter same same_choice (λ i. same_chooses i first ∙ w)
        by_first true w =
            let lower : (i : I) → choice i < c + 1 = λ i. chosen_below (choice i) c (fell i) (below i) (same_chooses i first ∙ w) in
            elim (each_jump (λ j. Together I h (Left j)) ((j : Jump) × M (Leaves j p)) (λ j. elim (lefts j) [
              | inl together ↦ inl together
              | inr y ↦ inr (j, y)
            ])) [
              | inl together ↦ all_leave_alike same same_choice same_chooses lower together
              | inr how ↦ behind_parted lower (inr how) fall refl
            ]
    next_mode (passed_by below quiet) r = passed_by (λ i. let lt = below i in omega (arith, lt))
        (λ i. unfallen fall i (out_is_off i (unchosen (choice i) c (fell i) (below i) (quiet i))))
    next_mode (parted below p' is how) r =
        let P : Option ℕ → Type 0 = λ v. Cl M (fall_rules v p) in
        behind_parted (λ i. let lt = below i in omega (arith, lt))
        (inl (falls M p' p (subst P is (right M (branch_rules n e p) (fall_rules fallen p) r)) how)) fall refl
    next_mode (apart how) r = apart how

  -- what is so behind the cases of a Switch that are left, and behind rounds of a Loop
  pub record CasesCome (M : Fact → Type 0) (k : AreMarks M) (moment : ℕ) (A : Type 0) (L : Jump → Type 0) (g : Group I V) (u : State I V)
      (h : Group I V) (a : Trace I V) : Type 0 where
    pub fine : Fine I V M k moment u
    pub flow : Alike I h ⊎ A
    pub lefts : (j : Jump) → Together I h (Left j) ⊎ L j
    pub moves : Moves I g h
    pub needs : AllByRecursion (IsKept I V M k t) a

  pub record RoundsCome (M : Fact → Type 0) (k : AreMarks M) (moment : ℕ) (W : Type 0) (g : Group I V) (u : State I V) (h : Group I V)
      (a : Trace I V) : Type 0 where
    pub fine : Fine I V M k moment u
    pub returns : Together I h (Left jump.Return) ⊎ W
    pub off : (i : I) → is_off (h i) ≡ is_off (g i)
    pub over : (i : I) → is_on (h i) ≡ false
    pub needs : AllByRecursion (IsKept I V M k t) a

  abbrev return_or_none : Type 0 → Jump → Type 0
  return_or_none W jump.Break = Unit {0}
  return_or_none W jump.Continue = Unit {0}
  return_or_none W jump.Return = W

  tests_alike : (M : Fact → Type 0) (k : AreMarks M) (moment : ℕ) (w : State I V) → Fine I V M k moment w → (c : Option ℕ) (R : Type 0) →
      ((e : ℕ) → c ≡ Some e → M (Differs e) → R) → ((i x : I) → passes_test I V t w c i ≡ passes_test I V t w c x) ⊎ R
  tests_alike M k moment w fine None R to = inl (λ i x. refl)
  tests_alike M k moment w fine (Some e) R to = elim (fine.values e) [
    | inl same ↦ inl (λ i x. ap (λ (v : V). t.is_true v) (same i x))
    | inr y ↦ inr (to e refl y)
  ]

  mutual
    step : (num : ℕ) (f : Function) (x : Step) (s : State I V) (g : Group I V) (u : State I V) (h : Group I V) (a : Trace I V) →
        run.RunsStep I V t m sev num f x s g u h a → (M : Fact → Type 0) (k : AreMarks M) (callees : List (List Rule)) →
        AreKnown m callees → length callees ≡ num → (q n : ℕ) (around : Option ℕ) →
        Cl M (step_rules f.expressions (places m f.expressions) callees (sev f) q n around x) → (M (Apart n) → M (Apart (step_end n x))) →
        Fine I V M k (reads_at n around) s → Alike I g ⊎ M (Apart n) → Lefts I V M k t q g →
        Comes I V M k t q (step_end n x) (reads_at (step_end n x) around) g u h a
    step _ f _ s g u h a (run.does {x = x} d) M k callees ak long q n around c carry fine flow lefts =
        comes I V M k t m sev f callees q n around g carry flow lefts x s u h a d c fine
    step _ f _ s g _ _ a (run.calls {c = c} {d = d} {arguments = arguments} {value = value} {u = u} {w = w} {v = v} {r = r} {h = h}
        lt is b runs l taken) M k callees ak long q n around cl carry fine flow lefts =
        let e = call.earlier m callees ak c d (omega (arith, lt, long)) is in
        let all = places m f.expressions in
        let K : Option (List Rule) → Type 0 = λ v. Cl M (call_rules all n around arguments value v) in
        let own = subst K e.at cl in
        let inner = block c d d.body u (run.enter I V g (run.everyone I V)) w h a runs
        (call.Inner I V M k t m d e.before all n around arguments value)
        (call.inner_marks I V M k t m d e.before all n around arguments value)
        e.before e.are e.long 1 1 None (call.inner_block I V M k t m d e.before all n around arguments value)
        (call.begins_fine I V M k t m d e.before all n around arguments value s u fine b)
        (all_enter g _ _ flow (call.begins_flow I V M k t m d e.before all n around arguments value))
        (entered_lefts (call.Inner I V M k t m d e.before all n around arguments value)
        (call.inner_marks I V M k t m d e.before all n around arguments value) 1 g (run.everyone I V)) in
        record {
          fine = call.takes_fine I V M k t m d e.before all n around arguments value e.known e.exact own s w v fine inner.fine l
              (reads_at (n + 1) around) (reads_le n (n + 1) around (omega arith)) (writes_le n around) g r flow value refl taken;
          flow = elim flow [ inl same ↦ inl same | inr y ↦ inr (carry y) ];
          lefts = lefts;
          moves = λ i. inl refl;
          needs = needs_out M (call.Inner I V M k t m d e.before all n around arguments value) k
              (call.inner_marks I V M k t m d e.before all n around arguments value)
              (call.must_out I V M k t m d e.before all n around arguments value e.known e.exact own) a inner.needs;
        }
    step num f _ s g u _ a (run.nests {x = x} {h = h} runs) M k callees ak long q n around c carry fine flow lefts =
        let below = tail M (leads (Apart n) (Apart (n + 1)))
        (block_rules f.expressions (places m f.expressions) callees (sev f) (n + 1) (n + 1)
        around x ++ all_pass_rules (n + 1) q (block_end (n + 1) x)) c in
        let r = block num f x s (run.enter I V g (run.everyone I V)) u h a runs M k callees ak long (n + 1) (n + 1) around
        (left M (block_rules f.expressions (places m f.expressions) callees (sev f) (n + 1) (n + 1) around x)
        (all_pass_rules (n + 1) q (block_end (n + 1) x)) below)
        (fine_later I V M k (reads_at n around) (reads_at (n + 1) around) s (reads_le n (n + 1) around (omega arith)) fine)
        (all_enter g _ _ flow
        (head M (leads (Apart n) (Apart (n + 1))) (block_rules f.expressions (places m f.expressions) callees (sev f)
        (n + 1) (n + 1) around x ++ all_pass_rules (n + 1) q (block_end (n + 1) x)) c))
        (entered_lefts M k (n + 1) g (run.everyone I V)) in
        let out = all_passes M (n + 1) q (block_end (n + 1) x)
        (right M (block_rules f.expressions (places m f.expressions) callees (sev f) (n + 1) (n + 1) around x)
        (all_pass_rules (n + 1) q (block_end (n + 1) x)) below) in
        let j = joins I (M (Apart (block_end (n + 1) x))) (λ i. M (fact.Leaves i q)) g (run.everyone I V) h nobody
        (elim flow [ inl same ↦ inl same | inr y ↦ inr (carry y) ]) lefts r.moves (nobody_moves g)
        (λ i. elim (r.lefts i) [ inl together ↦ inl together | inr y ↦ inr (out i y) ]) (λ i. inl (nobody_left i)) in
        record { fine = r.fine; flow = j.flow; lefts = j.lefts; moves = j.moves; needs = r.needs }
    step num f _ s g w _ _ (run.branches {c = e} {x = x} {y = y} {u = u} {h = h} {k = z} {a = a} {b = b} one other)
        M k callees ak long q n around c carry fine flow lefts =
        let test = passes_test I V t s (Some e) in
        let p = block_end (n + 1) x in
        let end = block_end p y in
        let rules : ℕ → Body → List Rule =
        λ at body. block_rules f.expressions (places m f.expressions) callees (sev f) at at around body in
        let l1 = branch_rules n e (n + 1) in
        let l2 = rules (n + 1) x in
        let l3 = branch_rules n e p in
        let l4 = rules p y in
        let l5 = all_pass_rules (n + 1) q end in
        let l6 = all_pass_rules p q end in
        let c5 = left M ((((l1 ++ l2) ++ l3) ++ l4) ++ l5) l6 c in
        let c4 = left M (((l1 ++ l2) ++ l3) ++ l4) l5 c5 in
        let c3 = left M ((l1 ++ l2) ++ l3) l4 c4 in
        let c2 = left M (l1 ++ l2) l3 c3 in
        let b1 = branches M n e (n + 1) (left M l1 l2 c2) in
        let b2 = branches M n e p (right M (l1 ++ l2) l3 c3) in
        let inside = tests_alike M k (reads_at n around) s fine (Some e) (M (Differs e)) (λ d is y. let back : d ≡ e = cc in
        let P : ℕ → Type 0 = λ v. M (Differs v) in subst P back y) in
        let r1 = block num f x s (run.enter I V g test) u h a one M k callees ak long (n + 1) (n + 1) around (right M l1 l2 c2)
        (fine_later I V M k (reads_at n around) (reads_at (n + 1) around) s (reads_le n (n + 1) around (omega arith)) fine)
        (elim flow [
          | inr y ↦ inr (b1.0 y)
          | inl same ↦ elim inside [
            | inr y ↦ inr (b1.1 y)
            | inl tests ↦ inl (λ i y. ap (λ (v : Status). enter_one v (test i)) (same i y)
                ∙ ap (λ (v : Bool). enter_one (g y) v) (tests i y))
          ]
        ])
        (entered_lefts M k (n + 1) g test) in
        let r2 = block num f y u (run.enter I V g (λ i. not (test i))) w z b other M k callees ak long p p around
        (right M ((l1 ++ l2) ++ l3) l4 c4) r1.fine
        (elim flow [
          | inr y ↦ inr (b2.0 y)
          | inl same ↦ elim inside [
            | inr y ↦ inr (b2.1 y)
            | inl tests ↦ inl (λ i y. ap (λ (v : Status). enter_one v (not (test i))) (same i y)
                ∙ ap (λ (v : Bool). enter_one (g y) (not v)) (tests i y))
          ]
        ])
        (entered_lefts M k p g (λ i. not (test i))) in
        let out1 = all_passes M (n + 1) q end (right M (((l1 ++ l2) ++ l3) ++ l4) l5 c5) in
        let out2 = all_passes M p q end (right M ((((l1 ++ l2) ++ l3) ++ l4) ++ l5) l6 c) in
        let j = joins I (M (Apart end)) (λ i. M (fact.Leaves i q)) g test h z
        (elim flow [ inl same ↦ inl same | inr y ↦ inr (carry y) ]) lefts r1.moves r2.moves
        (λ i. elim (r1.lefts i) [ inl together ↦ inl together | inr y ↦ inr (out1 i y) ])
        (λ i. elim (r2.lefts i) [ inl together ↦ inl together | inr y ↦ inr (out2 i y) ]) in
        record {
          fine = r2.fine;
          flow = j.flow;
          lefts = j.lefts;
          moves = j.moves;
          needs =
              all_append (IsKept I V M k t) a b r1.needs r2.needs;
        }
    step num f _ s g u _ a (run.selects {e = e} {cs = cs} {h = h} runs) M k callees ak long q n around c carry fine flow lefts =
        let p = (n + 1) + 1 in
        let end = cases_end p cs in
        let l1 = cases_rules f.expressions (places m f.expressions) callees (sev f) n e None p around cs in
        let l2 = leave_switch_rules (n + 1) q end (cases_escape true cs) in
        let pc = pass_rules (n + 1) q end jump.Continue in
        let pr = pass_rules (n + 1) q end jump.Return in
        let br = break_rules (cases_escape true cs) (n + 1) end in
        let both_pass = left M (pc ++ pr) br (right M l1 l2 c) in
        let out_c = passes M (n + 1) q end jump.Continue (left M pc pr both_pass) in
        let out_r = passes M (n + 1) q end jump.Return (right M pc pr both_pass) in
        let choice : I → ℕ = λ i. t.chosen (s.values i e) cs in
        let g0 = run.enter I V g (run.everyone I V) in
        let mode : Mode M n e choice 0 (λ i. false) None g0 = elim flow [
          | inr y ↦ apart (inl y)
          | inl same ↦ elim (fine.values e) [
            | inr y ↦ apart (inr y)
            | inl vs ↦ uniform (λ i x. ap (λ (v : Status). enter_one v true) (same i x)) (λ i x. ap (λ (v : V). t.chosen v cs) (vs i x))
                (λ i x. refl) (λ i w. absurd (false≢true w))
          ]
        ] in
        let r = cases num f choice 0 (λ i. false) cs s g0 u h a runs M k callees ak long n e None p around (left M l1 l2 c) (M (Apart end))
        (λ i. M (fact.Leaves i q))
        (λ y. (out_c.0 y, out_c.1 y)) (λ y. (out_r.0 y, out_r.1 y))
        (fine_later I V M k (reads_at n around) (reads_at p around) s (reads_le n p around (omega arith)) fine)
        (all_enter g _ _ flow carry) (λ i. inl (λ x y w. absurd (enter_one_left (g x) true i w))) mode in
        let j = joins I (M (Apart end)) (λ i. M (fact.Leaves i q)) g (run.everyone I V) h nobody
        (elim flow [ inl same ↦ inl same | inr y ↦ inr (carry y) ]) lefts r.moves (nobody_moves g)
        r.lefts (λ i. inl (nobody_left i)) in
        record { fine = r.fine; flow = j.flow; lefts = j.lefts; moves = j.moves; needs = r.needs }
    step num f _ s g u _ a (run.loops {x = x} {y = y} {k = b} {h = h} runs) M k callees ak long q n around c carry fine flow lefts =
        let p = (n + 1) + 1 in
        let p' = block_end p x in
        let end = block_end p' y in
        let loop = reads_at n around in
        let l1 = enter_loop_rules n (n + 1) p b in
        let l2 = block_rules f.expressions (places m f.expressions) callees (sev f) p p (Some loop) x in
        let l3 = continuing_rules (n + 1) p' in
        let l4 = block_rules f.expressions (places m f.expressions) callees (sev f) p' p' (Some loop) y in
        let l5 = leave_loop_rules (n + 1) p p' q end in
        let c4 = left M (((l1 ++ l2) ++ l3) ++ l4) l5 c in
        let c3 = left M ((l1 ++ l2) ++ l3) l4 c4 in
        let c2 = left M (l1 ++ l2) l3 c3 in
        let ends = loop_ends M n (n + 1) p b (left M l1 l2 c2) in
        let c5 = right M (((l1 ++ l2) ++ l3) ++ l4) l5 c in
        let m1 = part_rules p (n + 1) in
        let m2 = part_rules p' (n + 1) in
        let m3 = pass_rules p q end jump.Return in
        let m4 = pass_rules p' q end jump.Return in
        let d3 = left M ((m1 ++ m2) ++ m3) m4 c5 in
        let d2 = left M (m1 ++ m2) m3 d3 in
        let out1 = passes M p q end jump.Return (right M (m1 ++ m2) m3 d3) in
        let out2 = passes M p' q end jump.Return (right M ((m1 ++ m2) ++ m3) m4 c5) in
        let W : Type 0 = M (fact.Leaves jump.Return q) × M (Apart end) in
        let g0 = run.enter I V g (run.everyone I V) in
        let r = rounds num f x y b s g0 u h a runs M k callees ak long (n + 1) p p' loop (right M l1 l2 c2)
        (right M ((l1 ++ l2) ++ l3) l4 c4)
        (parts M p (n + 1) (left M m1 m2 d2)) (parts M p' (n + 1) (right M m1 m2 d2)) ends.1
        (head M (leads (Apart (n + 1)) (Apart p')) [] (right M (l1 ++ l2) l3 c3)) ends.2 W
        (λ z. (out1.0 z, out1.1 z)) (λ z. (out2.0 z, out2.1 z)) fine (all_enter g _ _ flow ends.0)
        (inl (λ i z w. absurd (enter_one_left (g i) true jump.Return w))) in
        let behind : Group I V = λ i. behind_loop (h i) in
        let j = joins I (M (Apart end)) (λ i. M (fact.Leaves i q)) g (run.everyone I V) behind nobody
        (elim flow [ inl same ↦ inl same | inr z ↦ inr (carry z) ]) lefts
        (λ i. rounds_move (g i) (h i) (r.off i) (r.over i)) (nobody_moves g)
        (all_jumps (λ i. Together I behind (Left i) ⊎ (M (fact.Leaves i q) × M (Apart end)))
        (inl (λ i z w. absurd (behind_other (h i) jump.Break w (λ v. absurd (cc)))))
        (inl (λ i z w. absurd (behind_other (h i) jump.Continue w (λ v. absurd (cc)))))
        (elim r.returns [
          | inl together ↦ inl (λ i z w. ap behind_loop (together i z (behind_return (h i) w)))
          | inr z ↦ inr z
        ]))
        (λ i. inl (nobody_left i)) in
        record {
          fine = fine_later I V M k loop (reads_at end around) u
              (reads_le n end around (let after = step_after n (Loop x y b) in omega (arith, after)))
              r.fine;
          flow = j.flow;
          lefts = j.lefts;
          moves = j.moves;
          needs = r.needs;
        }

    pub block : (num : ℕ) (f : Function) (x : Body) (s : State I V) (g : Group I V) (u : State I V) (h : Group I V) (a : Trace I V) →
        run.RunsBlock I V t m sev num f x s g u h a → (M : Fact → Type 0) (k : AreMarks M) (callees : List (List Rule)) →
        AreKnown m callees → length callees ≡ num → (q n : ℕ) (around : Option ℕ) →
        Cl M (block_rules f.expressions (places m f.expressions) callees (sev f) q n around x) →
        Fine I V M k (reads_at n around) s → Alike I g ⊎ M (Apart n) → Lefts I V M k t q g →
        BlockComes M k q (reads_at (block_end n x) around) g u h a
    block _ f _ s g _ _ _ run.ends M k callees ak long q n around c fine flow lefts = record {
      fine = fine_later I V M k (reads_at n around) (reads_at (n + 1) around) s (reads_le n (n + 1) around (omega arith)) fine;
      lefts = lefts;
      moves = λ i. inl refl;
      needs = tt;
    }
    block num f _ s g w l _ (run.on {x = x} {b = b} {u = u} {h = h} {a = a} {c = d} one rest) M k callees ak long q n around c fine flow
        lefts =
        let own = left M (step_rules f.expressions (places m f.expressions) callees (sev f) q n around x)
        (leads (Apart n) (Apart (step_end n x)) ∷ block_rules f.expressions (places m f.expressions) callees (sev f) q (step_end n x)
        around b)
        c in
        let more = right M (step_rules f.expressions (places m f.expressions) callees (sev f) q n around x)
        (leads (Apart n) (Apart (step_end n x)) ∷ block_rules f.expressions (places m f.expressions) callees (sev f) q (step_end n x)
        around b)
        c in
        let r1 = step num f x s g u h a one M k callees ak long q n around own
        (head M (leads (Apart n) (Apart (step_end n x)))
        (block_rules f.expressions (places m f.expressions) callees (sev f) q (step_end n x) around b) more) fine flow lefts in
        let r2 = block num f b u h w l d rest M k callees ak long q (step_end n x) around
        (tail M (leads (Apart n) (Apart (step_end n x)))
        (block_rules f.expressions (places m f.expressions) callees (sev f) q (step_end n x) around b) more) r1.fine r1.flow r1.lefts in
        record {
          fine = r2.fine;
          lefts = r2.lefts;
          moves = λ i. moves_on (g i) (h i) (l i) (r1.moves i) (r2.moves i);
          needs = all_append (IsKept I V M k t) a d r1.needs r2.needs;
        }

    cases : (num : ℕ) (f : Function) (choice : I → ℕ) (c : ℕ) (fell : I → Bool) (cs : Cases) (s : State I V) (g : Group I V) (u : State I V)
        (h : Group I V) (a : Trace I V) → run.RunsCases I V t m sev num f choice c fell cs s g u h a →
        (M : Fact → Type 0) (k : AreMarks M) (callees : List (List Rule)) → AreKnown m callees → length callees ≡ num →
        (n e : ℕ) (fallen : Option ℕ) (p : ℕ) (around : Option ℕ) →
        Cl M (cases_rules f.expressions (places m f.expressions) callees (sev f) n e fallen p around cs) →
        (A : Type 0) (L : Jump → Type 0) →
        (M (fact.Leaves jump.Continue (n + 1)) → L jump.Continue × A) → (M (fact.Leaves jump.Return (n + 1)) → L jump.Return × A) →
        Fine I V M k (reads_at p around) s → Alike I g ⊎ A → ((j : Jump) → Together I g (Left j) ⊎ (L j × A)) →
        Mode M n e choice c fell fallen g →
        CasesCome M k (reads_at (cases_end p cs) around) A (λ j. L j × A) g u h a
    cases _ f choice c fell _ s g _ _ _ run.past M k callees ak long n e fallen p around cl A L lc lr fine flow lefts mode = record {
      fine = fine;
      flow = flow;
      lefts = lefts;
      moves = λ i. inl refl;
      needs = tt;
    }
    cases num f choice c fell _ s g w l _ (run.case_by {v = v} {x = x} {fall = fall} {cs = cs} {u = u} {h = h} {a = a} {b = b} one rest)
        M k callees ak long n e fallen p around cl A L lc lr fine flow lefts mode =
        let l1 = enter_case_rules n e fallen p in
        let l2 = block_rules f.expressions (places m f.expressions) callees (sev f) p p around x in
        let l3 = case_rules p (n + 1) in
        let l4 = cases_rules f.expressions (places m f.expressions) callees (sev f) n e (falls_from fall p) (block_end p x) around cs in
        let c3 = left M ((l1 ++ l2) ++ l3) l4 cl in
        let c2 = left M (l1 ++ l2) l3 c3 in
        let c1 = left M l1 l2 c2 in
        let choosing = chooses choice c fell in
        let r1 = block num f x s (run.enter I V g choosing) u h a one M k callees ak long p p around (right M l1 l2 c2) fine
        (flow_in M n e c p choice fell fallen g c1 mode) (entered_lefts M k p g choosing) in
        let gather = gathers M p (n + 1) (right M (l1 ++ l2) l3 c3) in
        let behind : Group I V = λ i. behind_case (h i) in
        let outside : Group I V = λ i. enter_one (g i) (not (choosing i)) in
        let keeps : (j : Jump) → Together I h (Left j) → behind_case (Left j) ≡ Left j → Together I behind (Left j) =
        λ j together stays i z d. ap behind_case (together i z (case_other (h i) j d)) ∙ stays in
        let joint = joins I A (λ j. L j × A) g choosing behind outside flow lefts
        (case_moves M n e c p choice fell fallen g h fall r1.moves r1.lefts) (λ i. inl refl)
        (all_jumps (λ j. Together I behind (Left j) ⊎ ((L j × A) × A))
        (inl (λ i z d. absurd (case_break (h i) d)))
        (elim (r1.lefts jump.Continue) [
          | inl together ↦ inl (keeps jump.Continue together refl)
          | inr y ↦ let o = lc (gather jump.Continue y) in inr (o, o.1)
        ])
        (elim (r1.lefts jump.Return) [
          | inl together ↦ inl (keeps jump.Return together refl)
          | inr y ↦ let o = lr (gather jump.Return y) in inr (o, o.1)
        ]))
        (λ j. inl (λ i z d. absurd (enter_one_left (g i) (not (choosing i)) j d))) in
        let r2 = cases num f choice (c + 1) (λ i. fall
        && is_on (h i)) cs u (both I g choosing behind outside) w l b rest M k callees ak long
        n e (falls_from fall p) (block_end p x) around (right M ((l1 ++ l2) ++ l3) l4 cl) A L lc lr r1.fine joint.flow joint.lefts
        (next_mode M n e c p choice fell fallen g h fall r1.moves r1.lefts mode c1) in
        record {
          fine = r2.fine;
          flow = r2.flow;
          lefts = r2.lefts;
          moves = λ i. moves_on (g i) (both I g choosing behind outside i) (l i) (joint.moves i) (r2.moves i);
          needs = all_append (IsKept I V M k t) a b r1.needs r2.needs;
        }

    rounds : (num : ℕ) (f : Function) (x y : Body) (b : Option ℕ) (s : State I V) (g : Group I V) (u : State I V) (h : Group I V) (a :
        Trace I V) →
        run.RunsRounds I V t m sev num f x y b s g u h a →
        (M : Fact → Type 0) (k : AreMarks M) (callees : List (List Rule)) → AreKnown m callees → length callees ≡ num →
        (R p p' loop : ℕ) → Cl M (block_rules f.expressions (places m f.expressions) callees (sev f) p p (Some loop) x) →
        Cl M (block_rules f.expressions (places m f.expressions) callees (sev f) p' p' (Some loop) y) →
        ((j : Jump) → M (fact.Leaves j p) → M (Apart R)) → ((j : Jump) → M (fact.Leaves j p') → M (Apart R)) →
        (M (Apart R) → M (Apart p)) → (M (Apart R) → M (Apart p')) → ((e : ℕ) → b ≡ Some e → M (Differs e) → M (Apart R)) → (W : Type 0) →
        (M (fact.Leaves jump.Return p) → W) → (M (fact.Leaves jump.Return p') → W) → Fine I V M k loop s → Alike I g ⊎ M (Apart R) →
        Together I g (Left jump.Return) ⊎ W → RoundsCome M k loop W g u h a
    rounds _ f x y b s g _ _ _ (run.over nobody_in) M k callees ak long R p p' loop cx cy px py tx ty tk W rx ry fine flow returns =
        record {
          fine = fine;
          returns = returns;
          off = λ i. refl;
          over = nobody_in;
          needs = tt;
        }
    rounds num f x y b s g z l _ (run.round {u = u} {w = w} {h = h} {j = j} {a = a} {b = a'} {c = a''} one other rest)
        M k callees ak long R p p' loop cx cy px py tx ty tk W rx ry fine flow returns =
        let everyone = run.everyone I V in
        let r1 = block num f x s (run.enter I V g everyone) u h a one M k callees ak long p p (Some loop) cx fine (all_enter g _ _ flow tx)
        (entered_lefts M k p g everyone) in
        let K : Jump → Type 0 = return_or_none W in
        let j1 = joins I (M (Apart R)) K g everyone h nobody flow
        (all_jumps (λ i. Together I g (Left i) ⊎ K i) (inr tt) (inr tt) returns) r1.moves (nobody_moves g)
        (all_jumps (λ i. Together I h (Left i) ⊎ (K i × M (Apart R)))
        (elim (r1.lefts jump.Break) [ inl together ↦ inl together | inr d ↦ inr (tt, px jump.Break d) ])
        (elim (r1.lefts jump.Continue) [ inl together ↦ inl together | inr d ↦ inr (tt, px jump.Continue d) ])
        (elim (r1.lefts jump.Return) [ inl together ↦ inl together | inr d ↦ inr (rx d, px jump.Return d) ]))
        (λ i. inl (nobody_left i)) in
        let f1 = both I g everyone h nobody in
        let g1 : Group I V = λ i. behind_body (f1 i) in
        let flow1 : Alike I g1 ⊎ M (Apart R) = elim j1.flow [
          | inl same ↦ inl (λ i d. ap behind_body (same i d))
          | inr d ↦ inr d
        ] in
        let returns1 : Together I g1 (Left jump.Return) ⊎ W = elim (j1.lefts jump.Return) [
          | inl together ↦ inl (λ i d e. ap behind_body (together i d (behind_body_return (f1 i) e)))
          | inr d ↦ inr d
        ] in
        let r2 = block num f y u (run.enter I V g1 everyone) w j a' other M k callees ak long p' p' (Some loop) cy r1.fine
        (all_enter g1 _ _ flow1 ty) (entered_lefts M k p' g1 everyone) in
        let j2 = joins I (M (Apart R)) K g1 everyone j nobody flow1
        (all_jumps (λ i. Together I g1 (Left i) ⊎ K i) (inr tt) (inr tt) returns1) r2.moves (nobody_moves g1)
        (all_jumps (λ i. Together I j (Left i) ⊎ (K i × M (Apart R)))
        (elim (r2.lefts jump.Break) [ inl together ↦ inl together | inr d ↦ inr (tt, py jump.Break d) ])
        (elim (r2.lefts jump.Continue) [ inl together ↦ inl together | inr d ↦ inr (tt, py jump.Continue d) ])
        (elim (r2.lefts jump.Return) [ inl together ↦ inl together | inr d ↦ inr (ry d, py jump.Return d) ]))
        (λ i. inl (nobody_left i)) in
        let f2 = both I g1 everyone j nobody in
        let test = passes_test I V t w b in
        let g2 : Group I V = λ i. behind_round (test i) (f2 i) in
        let flow2 : Alike I g2 ⊎ M (Apart R) = elim j2.flow [
          | inr d ↦ inr d
          | inl same ↦ elim (tests_alike M k loop w r2.fine b (M (Apart R)) tk) [
            | inr d ↦ inr d
            | inl tests ↦ inl (λ i d. ap (λ (v : Bool). behind_round v (f2 i)) (tests i d)
                ∙ ap (λ (v : Status). behind_round (test d) v) (same i d))
          ]
        ] in
        let returns2 : Together I g2 (Left jump.Return) ⊎ W = elim (j2.lefts jump.Return) [
          | inl together ↦ inl (λ i d e. ap (λ (v : Status). behind_round (test d) v) (together i d (behind_round_return (test i) (f2 i) e))
              ∙ return_behind_round (test d))
          | inr d ↦ inr d
        ] in
        let r3 = rounds num f x y b w g2 z l a'' rest M k callees ak long R p p' loop cx cy px py tx ty tk W rx ry r2.fine flow2 returns2 in
        record {
          fine = r3.fine;
          returns = r3.returns;
          off = λ i. r3.off i ∙ behind_round_off (test i) (f2 i) ∙ move_off (g1 i) (f2 i) (j2.moves i) ∙ behind_body_off (f1 i)
              ∙ move_off (g i) (f1 i) (j1.moves i);
          over = r3.over;
          needs = all_append (IsKept I V M k t) a (a' ++ a'') r1.needs (all_append (IsKept I V M k t) a' a'' r2.needs r3.needs);
        }
