-- The recursion that gives the disruptor of the flow agrees with the one that decides disruption.
use Rattle.std.proofs.Common.{◌≡◌, refl, sym, ap, ◌∙◌, ℕ, List, [], ◌∷◌, ◌++◌, Bool, true, false, ◌||◌, ◌&&◌, Option, Some, None, is_some}
use Rattle.std.specs.Option.{option_map, option_or}
use Rattle.std.specs.List.{list_any}
use Rattle.std.proofs.Math.Bool.{or_assoc}
use Rattle.std.proofs.lemmas.List.Folds.{list_any-append}
use Rattle.shader_analysis_spec.specs.Program.{Simple, Emit, Return, Kill, Call, Step, Leaf, Nested, If, Switch, Loop, Body}
use Rattle.shader_analysis_spec.specs.Program.{End, Then, Cases, NoCase, Case, statements, statements_within, case_statements}
use Rattle.shader_analysis_spec.proofs.Flags.{simple_exits, step_exits, block_exits, cases_exit, found, found_within, found_in_cases}
use Rattle.shader_arena.specs.Positions.{positions_between}
use Rattle.shader_passes.specs.Facts.{Fact}
use Rattle.shader_info.specs.declared.error.UniformityDisruptor.{UniformityDisruptor}
use Rattle.shader_info.specs.declared.error.UniformityDisruptor.TheVariants as cause
use Rattle.shader_passes.specs.declared.flow.Exits.{Exits}
use Rattle.shader_pass_laws.proofs.FlowWords.{any_requires, calls_kill, emits_requiring, is_kill}
use Rattle.shader_passes.specs.Ends.{either, exit_of, disruptor_after, case_disruptor, requires_uniform_flow, leaf_ends}
use Rattle.shader_passes.specs.Ends.{leaf_fault, on_branch, step_ends}
use Rattle.shader_passes.specs.Ends.{block_ends, cases_end, requiring_or, first_requiring, flow_violation, step_fault, block_fault}
use Rattle.shader_passes.specs.Ends.{cases_fault}

or_none : (a : Bool) → (a || false) ≡ a
or_none true = refl
or_none false = refl

pub or_same : (a : Bool) → (a || a) ≡ a
or_same true = refl
or_same false = refl

or_two : {a b c d : Bool} → a ≡ b → c ≡ d → (a || c) ≡ (b || d)
or_two {a} {b} {c} {d} p q = ap (λ v. v || c) p ∙ ap (λ v. b || v) q

-- four and six flags in other orders
four : (a b c d : Bool) → ((a || b) || (c || d)) ≡ ((a || c) || (b || d))
four true b c d = refl
four false true true d = refl
four false true false d = refl
four false false c d = refl

six : (p q r t u v : Bool) → (((p || q) || (r || t)) || (u || v)) ≡ ((p || (q || u)) || (r || (t || v)))
six true q r t u v = refl
six false true r t u v = refl
six false false true t true v = refl
six false false true t false v = refl
six false false false true true v = refl
six false false false true false v = refl
six false false false false u v = refl

leaf_flag : (d : Bool) → false ≡ (((d && false) || false) || (false || false))
leaf_flag true = refl
leaf_flag false = refl

kill_flag : (d : Bool) → d ≡ (((d && true) || false) || (false || false))
kill_flag true = refl
kill_flag false = refl

call_flag : (d k : Bool) → k ≡ (((d && false) || false) || (k || false))
call_flag true k = sym (or_none k)
call_flag false k = sym (or_none k)

child_flag : (d a b : Bool) → (a || b) ≡ (((d && false) || a) || (false || b))
child_flag true a b = refl
child_flag false a b = refl

no_leaf : (d : Bool) → false ≡ ((d && false) || false)
no_leaf true = refl
no_leaf false = refl

in_part : (d a : Bool) → a ≡ ((d && false) || a)
in_part true a = refl
in_part false a = refl

first_some_of : {X : Type 0} (a b : Option X) → is_some (option_or a b) ≡ (is_some a || is_some b)
first_some_of (Some x) b = refl
first_some_of None b = refl

abbrev pub leaves : Exits → Bool
leaves e = e.returns || e.kills

leaves_either : (a b : Exits) → leaves (either a b) ≡ (leaves a || leaves b)
leaves_either a b = four a.returns b.returns a.kills b.kills

pub exit_some : (returns kills : Bool) → is_some (exit_of returns kills) ≡ (returns || kills)
exit_some true kills = refl
exit_some false true = refl
exit_some false false = refl

pub behind_some : (o : Option UniformityDisruptor) (e : Exits) → is_some (disruptor_after o e) ≡ (is_some o || leaves e)
behind_some o e = first_some_of o (exit_of e.returns e.kills) ∙ ap (λ v. is_some o || v) (exit_some e.returns e.kills)

-- a case is disrupted if the branches of the switch are
abbrev pub Covers : Option UniformityDisruptor → Option UniformityDisruptor → Type 0
Covers o here = (is_some o || is_some here) ≡ is_some here

entered_some : (o here : Option UniformityDisruptor) (fall : Bool) (e : Exits) → Covers o here →
    is_some (case_disruptor o here fall e) ≡ (is_some o || (fall && (is_some here || leaves e)))
entered_some o here true e le = behind_some here e ∙ (ap (λ v. v || leaves e) (sym le) ∙ or_assoc (is_some o) (is_some here) (leaves e))
entered_some o here false e le = sym (or_none (is_some o))

pub entered_covers : (o here : Option UniformityDisruptor) (fall : Bool) (e : Exits) → Covers o here →
    Covers o (case_disruptor o here fall e)
entered_covers o here true e le =
    ap (λ v. is_some o || v) (behind_some here e)
    ∙ (sym (or_assoc (is_some o) (is_some here) (leaves e)) ∙ (ap (λ v. v || leaves e) le ∙ sym (behind_some here e)))
entered_covers o here false e le = or_same (is_some o)

module _ (origin : ℕ → Option ℕ) (V : ℕ → Bool) (same : (e : ℕ) → is_some (origin e) ≡ V e) (K : ℕ → Bool) where
  map_some : (o : Option ℕ) → is_some (option_map (λ h. cause.Expression h) o) ≡ is_some o
  map_some (Some h) = refl
  map_some None = refl

  pub branch_some : (o : Option UniformityDisruptor) (e : ℕ) → is_some (on_branch origin o e) ≡ (is_some o || V e)
  branch_some o e =
      first_some_of o (option_map (λ h. cause.Expression h) (origin e)) ∙ ap (λ v. is_some o || v) (map_some (origin e) ∙ same e)

  entered_is : (x : Body) (fall : Bool) (o here : Option UniformityDisruptor) → Covers o here →
      leaves (block_ends origin K here x) ≡ block_exits V K (is_some here) x →
      is_some (case_disruptor o here fall (block_ends origin K here x))
      ≡ (is_some o || (fall && (is_some here || block_exits V K (is_some here) x)))
  entered_is x fall o here le is =
      entered_some o here fall (block_ends origin K here x) le ∙ ap (λ v. is_some o || (fall && (is_some here || v))) is

  leaf_is : (simple : Simple) (o : Option UniformityDisruptor) → leaves (leaf_ends K o simple) ≡ simple_exits V K (is_some o) simple
  leaf_is (Return v) o = or_none (is_some o)
  leaf_is Kill o = refl
  leaf_is (Call c arguments result) o = refl
  leaf_is s o = refl

  mutual
    pub block_is : (b : Body) (o : Option UniformityDisruptor) → leaves (block_ends origin K o b) ≡ block_exits V K (is_some o) b
    block_is End o = refl
    block_is (Then s b) o =
        let here = step_ends origin K o s in
        leaves_either here (block_ends origin K (disruptor_after o here) b)
        ∙ or_two (step_is s o) (block_is b (disruptor_after o here) ∙ ap (λ v. block_exits V K v b) (behind_some o here
        ∙ ap (λ v. is_some o || v) (step_is s o)))

    pub step_is : (s : Step) (o : Option UniformityDisruptor) → leaves (step_ends origin K o s) ≡ step_exits V K (is_some o) s
    step_is (Leaf simple) o = leaf_is simple o
    step_is (Nested x) o = block_is x o
    step_is (If c x y) o =
        leaves_either (block_ends origin K (on_branch origin o c) x) (block_ends origin K (on_branch origin o c) y)
        ∙ or_two (block_is x (on_branch origin o c) ∙ ap (λ v. block_exits V K v x) (branch_some o c))
        (block_is y (on_branch origin o c) ∙ ap (λ v. block_exits V K v y) (branch_some o c))
    step_is (Switch e cs) o =
        cases_are cs (on_branch origin o e) (on_branch origin o e) (or_same (is_some (on_branch origin o e)))
        ∙ ap (λ v. cases_exit V K v v cs) (branch_some o e)
    step_is (Loop x y k) o =
        let left = block_ends origin K o x in
        leaves_either left (block_ends origin K (disruptor_after o left) y)
        ∙ or_two (block_is x o) (block_is y (disruptor_after o left) ∙ ap (λ v. block_exits V K v y) (behind_some o left
        ∙ ap (λ v. is_some o || v) (block_is x o)))

    cases_are : (cs : Cases) (o here : Option UniformityDisruptor) → Covers o here →
        leaves (cases_end origin K o here cs) ≡ cases_exit V K (is_some o) (is_some here) cs
    cases_are NoCase o here le = refl
    cases_are (Case v x fall cs) o here le =
        let one = block_ends origin K here x in
        leaves_either one (cases_end origin K o (case_disruptor o here fall one) cs)
        ∙ or_two (block_is x here) (cases_are cs o (case_disruptor o here fall one) (entered_covers o here fall one le)
        ∙ ap (λ v. cases_exit V K (is_some o) v cs) (entered_is x fall o here le (block_is x here)))

  pub flag_behind : (s : Step) (o : Option UniformityDisruptor) →
      is_some (disruptor_after o (step_ends origin K o s)) ≡ (is_some o || step_exits V K (is_some o) s)
  flag_behind s o = behind_some o (step_ends origin K o s) ∙ ap (λ v. is_some o || v) (step_is s o)

  pub flag_continuing : (x : Body) (o : Option UniformityDisruptor) →
      is_some (disruptor_after o (block_ends origin K o x)) ≡ (is_some o || block_exits V K (is_some o) x)
  flag_continuing x o = behind_some o (block_ends origin K o x) ∙ ap (λ v. is_some o || v) (block_is x o)

  pub flag_entered : (x : Body) (fall : Bool) (o here : Option UniformityDisruptor) → Covers o here →
      is_some (case_disruptor o here fall (block_ends origin K here x))
      ≡ (is_some o || (fall && (is_some here || block_exits V K (is_some here) x)))
  flag_entered x fall o here le = entered_is x fall o here le (block_is x here)

  -- exits by kills: a disrupted Kill, or a call
  abbrev F : Bool → Body → Bool
  F = found V K is_kill

  abbrev C : List Step → Bool
  C = list_any (calls_kill K)

  leaf_kills : (simple : Simple) (o : Option UniformityDisruptor) →
      (leaf_ends K o simple).kills ≡ (((is_some o && is_kill (Leaf simple)) || false) || (calls_kill K (Leaf simple) || false))
  leaf_kills Kill o = kill_flag (is_some o)
  leaf_kills (Call c arguments result) o = call_flag (is_some o) (K c)
  leaf_kills s o = leaf_flag (is_some o)

  mutual
    pub block_kills : (b : Body) (o : Option UniformityDisruptor) → (block_ends origin K o b).kills ≡ (F (is_some o) b || C (statements b))
    block_kills End o = refl
    block_kills (Then s b) o =
        let d = is_some o in
        or_two (step_kills s o) (block_kills b (disruptor_after o (step_ends origin K o s))
        ∙ ap (λ v. F v b || C (statements b)) (flag_behind s o))
        ∙ (six (d && is_kill s) (found_within V K is_kill d s) (calls_kill K s) (C (statements_within s))
        (F (d || step_exits V K d s) b) (C (statements b))
        ∙ ap (λ v. ((d && is_kill s) || (found_within V K is_kill d s || F (d || step_exits V K d s) b)) || (calls_kill K s || v))
        (sym (list_any-append (calls_kill K) (statements_within s) (statements b))))

    step_kills : (s : Step) (o : Option UniformityDisruptor) →
        (step_ends origin K o s).kills ≡ (((is_some o && is_kill s) || found_within V K is_kill (is_some o) s)
        || (calls_kill K s || C (statements_within s)))
    step_kills (Leaf simple) o = leaf_kills simple o
    step_kills (Nested x) o = block_kills x o ∙ child_flag (is_some o) (F (is_some o) x) (C (statements x))
    step_kills (If c x y) o =
        let d = is_some o || V c in
        or_two (block_kills x (on_branch origin o c) ∙ ap (λ v. F v x || C (statements x)) (branch_some o c))
        (block_kills y (on_branch origin o c) ∙ ap (λ v. F v y || C (statements y)) (branch_some o c))
        ∙ (four (F d x) (C (statements x)) (F d y) (C (statements y))
        ∙ (ap (λ v. (F d x || F d y) || v) (sym (list_any-append (calls_kill K) (statements x) (statements y)))
        ∙ child_flag (is_some o) (F d x || F d y) (C (statements x ++ statements y))))
    step_kills (Loop x y k) o =
        let d = is_some o in
        let e = d || block_exits V K d x in
        or_two (block_kills x o) (block_kills y (disruptor_after o (block_ends origin K o x))
        ∙ ap (λ v. F v y || C (statements y)) (flag_continuing x o))
        ∙ (four (F d x) (C (statements x)) (F e y) (C (statements y))
        ∙ (ap (λ v. (F d x || F e y) || v) (sym (list_any-append (calls_kill K) (statements x) (statements y)))
        ∙ child_flag d (F d x || F e y) (C (statements x ++ statements y))))
    step_kills (Switch e cs) o =
        let d = is_some o || V e in
        cases_kill cs (on_branch origin o e) (on_branch origin o e) (or_same (is_some (on_branch origin o e)))
        ∙ (ap (λ v. found_in_cases V K is_kill v v cs || C (case_statements cs)) (branch_some o e)
        ∙ child_flag (is_some o) (found_in_cases V K is_kill d d cs) (C (case_statements cs)))

    cases_kill : (cs : Cases) (o here : Option UniformityDisruptor) → Covers o here →
        (cases_end origin K o here cs).kills ≡ (found_in_cases V K is_kill (is_some o) (is_some here) cs || C (case_statements cs))
    cases_kill NoCase o here le = refl
    cases_kill (Case v x fall cs) o here le =
        let one = block_ends origin K here x in
        let d' = is_some o || (fall && (is_some here || block_exits V K (is_some here) x)) in
        or_two (block_kills x here) (cases_kill cs o (case_disruptor o here fall one) (entered_covers o here fall one le)
        ∙ ap (λ v. found_in_cases V K is_kill (is_some o) v cs || C (case_statements cs)) (flag_entered x fall o here le))
        ∙ (four (F (is_some here) x) (C (statements x)) (found_in_cases V K is_kill (is_some o) d' cs) (C (case_statements cs))
        ∙ ap (λ v. (F (is_some here) x || found_in_cases V K is_kill (is_some o) d' cs) || v)
        (sym (list_any-append (calls_kill K) (statements x) (case_statements cs))))

  -- a violation is detected exactly if the recursion decides so
  module _ (E : List Fact) where
    first_some : (es : List ℕ) → is_some (first_requiring E es) ≡ any_requires E es
    first_some [] = refl
    first_some (e ∷ es) = at (requires_uniform_flow E e) (first_some es) where
      at : (b : Bool) → is_some (first_requiring E es) ≡ any_requires E es →
          is_some (requiring_or b e (first_requiring E es)) ≡ (b || any_requires E es)
      at true rest = refl
      at false rest = rest

    emit_some : (o : Option UniformityDisruptor) (r : Option ℕ) → is_some (flow_violation E o r) ≡ ((is_some o && is_some r) || false)
    emit_some (Some d) (Some e) = refl
    emit_some (Some d) None = refl
    emit_some None r = refl

    abbrev N : Bool → Body → Bool
    N = found V K (emits_requiring E)

    leaf_first : (simple : Simple) (o : Option UniformityDisruptor) →
        is_some (leaf_fault E o simple) ≡ ((is_some o && emits_requiring E (Leaf simple)) || false)
    leaf_first (Emit start finish) o =
        emit_some o (first_requiring E (positions_between start finish))
        ∙ ap (λ v. (is_some o && v) || false) (first_some (positions_between start finish))
    leaf_first s o = no_leaf (is_some o)

    mutual
      pub block_first : (b : Body) (o : Option UniformityDisruptor) → is_some (block_fault origin K E o b) ≡ N (is_some o) b
      block_first End o = refl
      block_first (Then s b) o =
          let d = is_some o in
          first_some_of (step_fault origin K E o s) (block_fault origin K E (disruptor_after o (step_ends origin K o s)) b)
          ∙ (or_two (step_first s o) (block_first b (disruptor_after o (step_ends origin K o s)) ∙ ap (λ v. N v b) (flag_behind s o))
          ∙ or_assoc (d && emits_requiring E s) (found_within V K (emits_requiring E) d s) (N (d || step_exits V K d s) b))

      step_first : (s : Step) (o : Option UniformityDisruptor) →
          is_some (step_fault origin K E o s) ≡ ((is_some o && emits_requiring E s) || found_within V K (emits_requiring E) (is_some o) s)
      step_first (Leaf simple) o = leaf_first simple o
      step_first (Nested x) o = block_first x o ∙ in_part (is_some o) (N (is_some o) x)
      step_first (If c x y) o =
          let d = is_some o || V c in
          first_some_of (block_fault origin K E (on_branch origin o c) x) (block_fault origin K E (on_branch origin o c) y)
          ∙ (or_two (block_first x (on_branch origin o c) ∙ ap (λ v. N v x) (branch_some o c)) (block_first y (on_branch origin o c)
          ∙ ap (λ v. N v y) (branch_some o c))
          ∙ in_part (is_some o) (N d x || N d y))
      step_first (Loop x y k) o =
          let d = is_some o in
          let e = d || block_exits V K d x in
          first_some_of (block_fault origin K E o x) (block_fault origin K E (disruptor_after o (block_ends origin K o x)) y)
          ∙ (or_two (block_first x o) (block_first y (disruptor_after o (block_ends origin K o x)) ∙ ap (λ v. N v y) (flag_continuing x o))
          ∙ in_part d (N d x || N e y))
      step_first (Switch e cs) o =
          let d = is_some o || V e in
          cases_first cs (on_branch origin o e) (on_branch origin o e) (or_same (is_some (on_branch origin o e)))
          ∙ (ap (λ v. found_in_cases V K (emits_requiring E) v v cs) (branch_some o e)
          ∙ in_part (is_some o) (found_in_cases V K (emits_requiring E) d d cs))

      cases_first : (cs : Cases) (o here : Option UniformityDisruptor) → Covers o here →
          is_some (cases_fault origin K E o here cs) ≡ found_in_cases V K (emits_requiring E) (is_some o) (is_some here) cs
      cases_first NoCase o here le = refl
      cases_first (Case v x fall cs) o here le =
          let one = block_ends origin K here x in
          first_some_of (block_fault origin K E here x) (cases_fault origin K E o (case_disruptor o here fall one) cs)
          ∙ or_two (block_first x here) (cases_first cs o (case_disruptor o here fall one) (entered_covers o here fall one le)
          ∙ ap (λ v. found_in_cases V K (emits_requiring E) (is_some o) v cs) (flag_entered x fall o here le))
