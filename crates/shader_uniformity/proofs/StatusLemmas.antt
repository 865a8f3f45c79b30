-- What invocations that went into blocks alike do behind them.
use Rattle.std.proofs.Common.{◌≡◌, refl, sym, ◌∙◌, ap, subst, ◌⊎◌, inl, inr, Bool, true, false, not}
use Rattle.shader_uniformity.specs.Lockstep.{Status, On, Off, Left, enter_one, meet_one, pick, leave_one, behind_body, behind_round}
use Rattle.shader_uniformity.specs.Lockstep.{behind_loop, behind_case, is_on}
use Rattle.std.proofs.lemmas.Bool.{false≢true}
use Rattle.shader_uniformity.specs.declared.facts.Jump.{Jump}
use Rattle.shader_uniformity.specs.declared.facts.Jump.TheVariants as jump

-- one goes on as it was, or leaves
abbrev pub Move : Status → Status → Type 0
Move s h = (h ≡ s) ⊎ ((s ≡ On) × (j : Jump) × (h ≡ Left j))

off_stays : (h : Status) (j : Jump) → Move Off h → h ≡ Left j → ⊥
off_stays h j m e = elim m [
  | inl same ↦ let wrong : Off ≡ Left j = sym same ∙ e in absurd (cc)
  | inr x ↦ let wrong : Off ≡ On = x.0 in absurd (cc)
]

pub enter_one_left : (s : Status) (b : Bool) (j : Jump) → enter_one s b ≡ Left j → ⊥
enter_one_left On true j e = absurd (cc)
enter_one_left On false j e = absurd (cc)
enter_one_left Off b j e = absurd (cc)
enter_one_left (Left i) b j e = absurd (cc)

pub left_from : (s : Status) (b : Bool) (h : Status) (j : Jump) → Move (enter_one s b) h → h ≡ Left j → (s ≡ On) × (b ≡ true)
left_from On true h j m e = (refl, refl)
left_from On false h j m e = absurd (off_stays h j m e)
left_from Off b h j m e = absurd (off_stays h j m e)
left_from (Left i) b h j m e = absurd (off_stays h j m e)

pub moves_on : (s h k : Status) → Move s h → Move h k → Move s k
moves_on s h k m n = elim m [
  | inl a ↦ let P : Status → Type 0 = λ v. Move v k in subst P a n
  | inr x ↦ elim n [
    | inl b ↦ inr (x.0, x.1, b ∙ x.2)
    | inr y ↦ let wrong : Left x.1 ≡ On = sym x.2 ∙ y.0 in absurd (cc)
  ]
]

alike : (u v : Status) → Move On u → Move On v → ((j : Jump) → u ≡ Left j → v ≡ Left j) → ((j : Jump) → v ≡ Left j → u ≡ Left j) → u ≡ v
alike u v m n f g = elim m [
  | inl a ↦ elim n [ inl b ↦ a ∙ sym b | inr y ↦ g y.1 y.2 ∙ sym y.2 ]
  | inr x ↦ x.2 ∙ sym (f x.1 x.2)
]

stays_on : (u v : Status) → Move On u → Move Off v → ((j : Jump) → u ≡ Left j → v ≡ Left j) → u ≡ On
stays_on u v m n f = elim m [ inl a ↦ a | inr x ↦ absurd (off_stays v x.1 n (f x.1 x.2)) ]

abbrev Follows : Status → Status → Type 0
Follows u v = (j : Jump) → u ≡ Left j → v ≡ Left j

same_at : (x : Status) (b c : Bool) (h h' k k' : Status) → Move (enter_one x b) h → Move (enter_one x c) h' →
    Move (enter_one x (not b)) k → Move (enter_one x (not c)) k' → Follows h h' → Follows h' h → Follows k k' → Follows k' k →
    meet_one x (pick b h k) ≡ meet_one x (pick c h' k')
same_at Off b c h h' k k' m m' n n' f f' g g' = refl
same_at (Left i) b c h h' k k' m m' n n' f f' g g' = refl
same_at On true true h h' k k' m m' n n' f f' g g' = alike h h' m m' f f'
same_at On false false h h' k k' m m' n n' f f' g g' = alike k k' n n' g g'
same_at On true false h h' k k' m m' n n' f f' g g' = stays_on h h' m m' f ∙ sym (stays_on k' k n' n g')
same_at On false true h h' k k' m m' n n' f f' g g' = stays_on k k' n n' g ∙ sym (stays_on h' h m' m f')

pub same_joined : (x y : Status) → y ≡ x → (b c : Bool) (h h' k k' : Status) → Move (enter_one x b) h → Move (enter_one y c) h' →
    Move (enter_one x (not b)) k → Move (enter_one y (not c)) k' → Follows h h' → Follows h' h → Follows k k' → Follows k' k →
    meet_one x (pick b h k) ≡ meet_one y (pick c h' k')
same_joined x y e b c h h' k k' m m' n n' f f' g g' =
    let P : Status → Type 0 = λ v. Move (enter_one v c) h' in
    let Q : Status → Type 0 = λ v. Move (enter_one v (not c)) k' in
    same_at x b c h h' k k' m (subst P e m') n (subst Q e n') f f' g g'
    ∙ ap (λ (v : Status). meet_one v (pick c h' k')) (sym e)

not_true : (c : Bool) → not c ≡ true → c ≡ false
not_true true e = sym e
not_true false e = refl

pub left_joined : (x y : Status) (b c : Bool) (h h' k k' : Status) (j : Jump) → Move (enter_one y c) h' → Move (enter_one y (not c)) k' →
    (x ≡ Left j → y ≡ Left j) → (h ≡ Left j → h' ≡ Left j) → (k ≡ Left j → k' ≡ Left j) →
    meet_one x (pick b h k) ≡ Left j → meet_one y (pick c h' k') ≡ Left j
left_joined Off y b c h h' k k' j m n f g p e = absurd (cc)
left_joined (Left i) y b c h h' k k' j m n f g p e = ap (λ (v : Status). meet_one v (pick c h' k')) (f e)
left_joined On y true c h h' k k' j m n f g p e =
    let at = left_from y c h' j m (g e) in
    ap (λ (v : Status). meet_one v (pick c h' k')) at.0 ∙ ap (λ (v : Bool). pick v h' k') at.1 ∙ g e
left_joined On y false c h h' k k' j m n f g p e =
    let at = left_from y (not c) k' j n (p e) in
    ap (λ (v : Status). meet_one v (pick c h' k')) at.0 ∙ ap (λ (v : Bool). pick v h' k') (not_true c at.1) ∙ p e

pub move_joined : (x : Status) (b : Bool) (h k : Status) → Move (enter_one x b) h → Move (enter_one x (not b)) k →
    Move x (meet_one x (pick b h k))
move_joined On true h k m n = m
move_joined On false h k m n = n
move_joined Off b h k m n = inl refl
move_joined (Left i) b h k m n = inl refl

pub all_jumps : (P : Jump → Type 0) → P jump.Break → P jump.Continue → P jump.Return → (j : Jump) → P j
all_jumps P p q r jump.Break = p
all_jumps P p q r jump.Continue = q
all_jumps P p q r jump.Return = r

pub same_jump : (i j : Jump) → (i ≡ j) ⊎ (i ≡ j → ⊥)
same_jump jump.Break jump.Break = inl refl
same_jump jump.Break jump.Continue = inr (λ e. absurd (cc))
same_jump jump.Break jump.Return = inr (λ e. absurd (cc))
same_jump jump.Continue jump.Break = inr (λ e. absurd (cc))
same_jump jump.Continue jump.Continue = inl refl
same_jump jump.Continue jump.Return = inr (λ e. absurd (cc))
same_jump jump.Return jump.Break = inr (λ e. absurd (cc))
same_jump jump.Return jump.Continue = inr (λ e. absurd (cc))
same_jump jump.Return jump.Return = inl refl

-- each has P, or some have A
pub each_jump : (P : Jump → Type 0) (A : Type 0) → ((j : Jump) → P j ⊎ A) → ((j : Jump) → P j) ⊎ A
each_jump P A f = elim (f jump.Break) [
  | inl p ↦ elim (f jump.Continue) [
    | inl q ↦ elim (f jump.Return) [ inl r ↦ inl (all_jumps P p q r) | inr a ↦ inr a ]
    | inr a ↦ inr a
  ]
  | inr a ↦ inr a
]

pub enter_one_move : (s : Status) (b : Bool) → Move (enter_one s b) (enter_one s b)
enter_one_move s b = inl refl

pub leave_one_moves : (s : Status) (j : Jump) → Move s (leave_one s j)
leave_one_moves On j = inr (refl, j, refl)
leave_one_moves Off j = inl refl
leave_one_moves (Left i) j = inl refl

left_is : (i j : Jump) → Left i ≡ Left j → i ≡ j
left_is i j e = cc

-- another jump doesn't hide one
pub leave_one_other : (s : Status) (i j : Jump) → leave_one s i ≡ Left j → (i ≡ j) ⊎ (s ≡ Left j)
leave_one_other On i j e = inl (left_is i j e)
leave_one_other Off i j e = absurd (cc)
leave_one_other (Left k) i j e = inr e

pub enter_one_false : (s : Status) → Off ≡ enter_one s false
enter_one_false On = refl
enter_one_false Off = refl
enter_one_false (Left j) = refl

abbrev pub is_off : Status → Bool
is_off Off = true
is_off _ = false

pub move_off : (s h : Status) → Move s h → is_off h ≡ is_off s
move_off s h m = elim m [
  | inl e ↦ ap is_off e
  | inr x ↦ ap is_off x.2 ∙ sym (ap is_off x.0)
]

pub behind_body_off : (s : Status) → is_off (behind_body s) ≡ is_off s
behind_body_off On = refl
behind_body_off Off = refl
behind_body_off (Left jump.Break) = refl
behind_body_off (Left jump.Continue) = refl
behind_body_off (Left jump.Return) = refl

pub behind_round_off : (b : Bool) (s : Status) → is_off (behind_round b s) ≡ is_off s
behind_round_off true On = refl
behind_round_off true Off = refl
behind_round_off true (Left jump.Break) = refl
behind_round_off true (Left jump.Continue) = refl
behind_round_off true (Left jump.Return) = refl
behind_round_off false s = behind_body_off s

pub behind_body_return : (s : Status) → behind_body s ≡ Left jump.Return → s ≡ Left jump.Return
behind_body_return On e = absurd (cc)
behind_body_return Off e = absurd (cc)
behind_body_return (Left jump.Break) e = absurd (cc)
behind_body_return (Left jump.Continue) e = absurd (cc)
behind_body_return (Left jump.Return) e = refl

pub behind_round_return : (b : Bool) (s : Status) → behind_round b s ≡ Left jump.Return → s ≡ Left jump.Return
behind_round_return true On e = absurd (cc)
behind_round_return true Off e = absurd (cc)
behind_round_return true (Left jump.Break) e = absurd (cc)
behind_round_return true (Left jump.Continue) e = absurd (cc)
behind_round_return true (Left jump.Return) e = refl
behind_round_return false s e = behind_body_return s e

pub return_behind_round : (b : Bool) → behind_round b (Left jump.Return) ≡ Left jump.Return
return_behind_round true = refl
return_behind_round false = refl

pub behind_return : (s : Status) → behind_loop s ≡ Left jump.Return → s ≡ Left jump.Return
behind_return On e = absurd (cc)
behind_return Off e = absurd (cc)
behind_return (Left jump.Break) e = absurd (cc)
behind_return (Left jump.Continue) e = absurd (cc)
behind_return (Left jump.Return) e = refl

pub behind_other : (s : Status) (j : Jump) → behind_loop s ≡ Left j → (j ≡ jump.Return → ⊥) → ⊥
behind_other On j e unlike = absurd (cc)
behind_other Off j e unlike = absurd (cc)
behind_other (Left jump.Break) j e unlike = absurd (cc)
behind_other (Left jump.Continue) j e unlike = absurd (cc)
behind_other (Left jump.Return) j e unlike = let is : Left jump.Return ≡ Left j = e in unlike (sym (left_is jump.Return j is))

pub case_break : (s : Status) → behind_case s ≡ Left jump.Break → ⊥
case_break On e = absurd (cc)
case_break Off e = absurd (cc)
case_break (Left jump.Break) e = absurd (cc)
case_break (Left jump.Continue) e = absurd (cc)
case_break (Left jump.Return) e = absurd (cc)

pub case_other : (s : Status) (j : Jump) → behind_case s ≡ Left j → s ≡ Left j
case_other On j e = e
case_other Off j e = e
case_other (Left jump.Break) j e = absurd (cc)
case_other (Left jump.Continue) j e = e
case_other (Left jump.Return) j e = e

pub case_move : (s h : Status) → Move s h → (s ≡ On) ⊎ (s ≡ Off) → Move s (behind_case h)
case_move s h m is = elim m [
  | inl e ↦ elim is [
    | inl o ↦ inl (ap behind_case (e ∙ o) ∙ sym o)
    | inr o ↦ inl (ap behind_case (e ∙ o) ∙ sym o)
  ]
  | inr x ↦ of x.1 x.2
]
  where
    of : (j : Jump) → h ≡ Left j → Move s (behind_case h)
    of jump.Break e = elim m [
      | inl f ↦ elim is [
        | inl o ↦ inl (ap behind_case (f ∙ o) ∙ sym o)
        | inr o ↦ inl (ap behind_case (f ∙ o) ∙ sym o)
      ]
      | inr x ↦ inl (ap behind_case e ∙ sym x.0)
    ]
    of jump.Continue e = elim m [
      | inl f ↦ elim is [
        | inl o ↦ inl (ap behind_case (f ∙ o) ∙ sym o)
        | inr o ↦ inl (ap behind_case (f ∙ o) ∙ sym o)
      ]
      | inr x ↦ inr (x.0, jump.Continue, ap behind_case e)
    ]
    of jump.Return e = elim m [
      | inl f ↦ elim is [
        | inl o ↦ inl (ap behind_case (f ∙ o) ∙ sym o)
        | inr o ↦ inl (ap behind_case (f ∙ o) ∙ sym o)
      ]
      | inr x ↦ inr (x.0, jump.Return, ap behind_case e)
    ]

pub on_or_off : (s : Status) (b : Bool) → (enter_one s b ≡ On) ⊎ (enter_one s b ≡ Off)
on_or_off On true = inl refl
on_or_off On false = inr refl
on_or_off Off b = inr refl
on_or_off (Left j) b = inr refl

pub rounds_move : (x h : Status) → is_off h ≡ is_off (enter_one x true) → is_on h ≡ false → Move (enter_one x true) (behind_loop h)
rounds_move On On o e = absurd (false≢true (sym e))
rounds_move On Off o e = absurd (false≢true (sym o))
rounds_move On (Left jump.Break) o e = inl refl
rounds_move On (Left jump.Continue) o e = inl refl
rounds_move On (Left jump.Return) o e = inr (refl, jump.Return, refl)
rounds_move Off On o e = absurd (false≢true o)
rounds_move Off Off o e = inl refl
rounds_move Off (Left j) o e = absurd (false≢true o)
rounds_move (Left i) On o e = absurd (false≢true o)
rounds_move (Left i) Off o e = inl refl
rounds_move (Left i) (Left j) o e = absurd (false≢true o)

-- groups
module _ (I : Type 0) where
  abbrev pub Alike : (I → Status) → Type 0
  Alike g = (i k : I) → g i ≡ g k

  abbrev pub Together : (I → Status) → Status → Type 0
  Together g s = (i k : I) → g i ≡ s → g k ≡ s

  abbrev pub Moves : (I → Status) → (I → Status) → Type 0
  Moves g h = (i : I) → Move (g i) (h i)

  abbrev pub in_block : (I → Status) → (I → Bool) → I → Status
  in_block g b i = enter_one (g i) (b i)

  abbrev pub both : (I → Status) → (I → Bool) → (I → Status) → (I → Status) → I → Status
  both g b h k i = meet_one (g i) (pick (b i) (h i) (k i))

  pub alike_together : (g : I → Status) (s : Status) → Alike g → Together g s
  alike_together g s same i k e = same k i ∙ e

  -- a block that all enter alike, and another that the others do: what leaves has L, and parts what is behind, A
  module _ (A : Type 0) (L : Jump → Type 0) (g : I → Status) (b : I → Bool) (h k : I → Status) where
    pub record IsJoined : Type 0 where
      pub flow : Alike (both g b h k) ⊎ A
      pub lefts : (j : Jump) → Together (both g b h k) (Left j) ⊎ L j
      pub moves : Moves g (both g b h k)

    pub alike_both : Alike g → Moves (in_block g b) h → Moves (in_block g (λ i. not (b i))) k → ((j : Jump) → Together h (Left j)) →
        ((j : Jump) → Together k (Left j)) → Alike (both g b h k)
    alike_both same m n th tk i x = same_joined (g i) (g x) (same x i) (b i) (b x) (h i) (h x) (k i) (k x) (m i) (m x) (n i) (n x)
        (λ j. th j i x) (λ j. th j x i) (λ j. tk j i x) (λ j. tk j x i)

    pub joins : Alike g ⊎ A → ((j : Jump) → Together g (Left j) ⊎ L j) → Moves (in_block g b) h →
        Moves (in_block g (λ i. not (b i))) k → ((j : Jump) → Together h (Left j) ⊎ (L j × A)) →
        ((j : Jump) → Together k (Left j) ⊎ (L j × A)) → IsJoined
    joins flow lefts m n p q = record {
      flow = flow_of flow;
      lefts = λ j. left_of j (lefts j) (p j) (q j);
      moves = λ i. move_joined (g i) (b i) (h i) (k i) (m i) (n i);
    }
      where
        alike_if : Alike g → ((j : Jump) → Together h (Left j)) → ((j : Jump) → Together k (Left j)) → Alike (both g b h k)
        alike_if same th tk i x = same_joined (g i) (g x) (same x i) (b i) (b x) (h i) (h x) (k i) (k x) (m i) (m x) (n i) (n x)
            (λ j. th j i x) (λ j. th j x i) (λ j. tk j i x) (λ j. tk j x i)

        drop_left : (j : Jump) → Together h (Left j) ⊎ (L j × A) → Together h (Left j) ⊎ A
        drop_left j w = elim w [ inl t ↦ inl t | inr a ↦ inr a.1 ]

        drop_right : (j : Jump) → Together k (Left j) ⊎ (L j × A) → Together k (Left j) ⊎ A
        drop_right j w = elim w [ inl t ↦ inl t | inr a ↦ inr a.1 ]

        flow_of : Alike g ⊎ A → Alike (both g b h k) ⊎ A
        flow_of f = elim f [
          | inr a ↦ inr a
          | inl same ↦ elim (each_jump (λ j. Together h (Left j)) A (λ j. drop_left j (p j))) [
            | inr a ↦ inr a
            | inl th ↦ elim (each_jump (λ j. Together k (Left j)) A (λ j. drop_right j (q j))) [
              | inr a ↦ inr a
              | inl tk ↦ inl (alike_if same th tk)
            ]
          ]
        ]

        left_of : (j : Jump) → Together g (Left j) ⊎ L j → Together h (Left j) ⊎ (L j × A) → Together k (Left j) ⊎ (L j × A) →
            Together (both g b h k) (Left j) ⊎ L j
        left_of j tg th tk = elim tg [
          | inr l ↦ inr l
          | inl a ↦ elim th [
            | inr l ↦ inr l.0
            | inl c ↦ elim tk [
              | inr l ↦ inr l.0
              | inl d ↦ inl (λ i x. left_joined (g i) (g x) (b i) (b x) (h i) (h x) (k i) (k x) j (m x) (n x) (a i x) (c i x) (d i x))
            ]
          ]
        ]

  -- a block that all enter alike and leave together
  pub alike_after : (g h : I → Status) → Alike g → Moves g h → ((i : I) → (g i ≡ On) ⊎ (g i ≡ Off)) →
      ((j : Jump) → Together h (Left j)) → Alike h
  alike_after g h same m is th i x = elim (is i) [
    | inl on ↦
        let P : Status → Type 0 = λ v. Move v (h i) in
        let Q : Status → Type 0 = λ v. Move v (h x) in
        alike (h i) (h x) (subst P on (m i)) (subst Q (sym (same i x) ∙ on) (m x)) (λ j. th j i x) (λ j. th j x i)
    | inr off ↦ off_is (h i) (m i) off ∙ sym (off_is (h x) (m x) (sym (same i x) ∙ off))
  ]
    where
      off_is : {s : Status} (z : Status) → Move s z → s ≡ Off → z ≡ Off
      off_is z m o = elim m [ inl e ↦ e ∙ o | inr y ↦ let wrong : On ≡ Off = sym y.0 ∙ o in absurd (cc) ]
