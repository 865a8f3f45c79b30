-- The recursion decides the least relations of disruption and exits.
use Rattle.std.proofs.Common.{refl, sym, subst, ℕ, Bool, true, false, ◌&&◌, ◌||◌, inl, inr, IsTrue}
use Rattle.std.proofs.lemmas.Bool.{or_cases}
use Rattle.shader_ir.specs.declared.statement.SwitchValue.{SwitchValue}
use Rattle.shader_analysis_spec.specs.Program.{Step, Leaf, Simple, Emit, Break, Continue, Return, Kill, ControlBarrier, MemoryBarrier}
use Rattle.shader_analysis_spec.specs.Program.{Store, ImageStore, Atomic, ImageAtomic, WorkGroupUniformLoad, Call, RayQuery, RayPipeline}
use Rattle.shader_analysis_spec.specs.Program.{SubgroupBallot, SubgroupGather, SubgroupCollectiveOperation, CooperativeStore}
use Rattle.shader_analysis_spec.specs.Program.{Nested, If, Switch, Loop, Body, End, Then, Cases, NoCase, Case}
use Rattle.shader_analysis_spec.specs.Flow.{At, start, rest, inside, Child, inner, accept, reject, body, continuing, case_of, CasesIn}
use Rattle.shader_analysis_spec.specs.Flow.{from_first}
use Rattle.shader_analysis_spec.specs.Flow.{after, BranchOn, accepts, rejects, selects, Disrupted, Exits, BlockExits, in_disrupted}
use Rattle.shader_analysis_spec.specs.Flow.{in_branch}
use Rattle.shader_analysis_spec.specs.Flow.{in_continuing, fallen_into, fallen_out, later, behind, returns, kills, calls, contains, first}
use Rattle.shader_analysis_spec.specs.Flow.{further}
use Rattle.shader_analysis_spec.proofs.Flags.{simple_exits, step_exits, block_exits, cases_exit, case_flag, child_flag, flag, FlagsAreLeast}

or_left : (a b : Bool) → IsTrue a → IsTrue (a || b)
or_left true b h = refl
or_left false b h = cc

or_right : (a b : Bool) → IsTrue b → IsTrue (a || b)
or_right true b h = refl
or_right false b h = h

module _ (varies is_killing : ℕ → Bool) (root : Body) where
  abbrev V : ℕ → Type 0
  V e = IsTrue (varies e)

  abbrev K : ℕ → Type 0
  K c = IsTrue (is_killing c)

  abbrev D : (b : Body) → At root b → Type 0
  D b p = Disrupted V K root b p

  abbrev X : (s : Step) (b : Body) → At root (Then s b) → Type 0
  X s b p = Exits V K root s b p

  abbrev BX : (b : Body) → At root b → Type 0
  BX b p = BlockExits V K root b p

  abbrev F : {b : Body} → At root b → Bool
  F p = flag varies is_killing p

  abbrev sx : Bool → Step → Bool
  sx = step_exits varies is_killing

  abbrev bx : Bool → Body → Bool
  bx = block_exits varies is_killing

  abbrev cx : Bool → Bool → Cases → Bool
  cx = cases_exit varies is_killing

  -- from the relation to the recursion
  case_stays : (all cs : Cases) (k : CasesIn all cs) → IsTrue (case_flag varies is_killing true k)
  case_stays all _ from_first = refl
  case_stays all _ (after k) = refl

  child_stays : (s : Step) (x : Body) (child : Child s x) → IsTrue (child_flag varies is_killing true child)
  child_stays _ x inner = refl
  child_stays _ x accept = refl
  child_stays _ x reject = refl
  child_stays _ x body = refl
  child_stays _ x continuing = refl
  child_stays _ x (case_of {all = all} {v = t} {fall = fall} {cs = cs} k) = case_stays all (Case t x fall cs) k

  branch_flag : (e : ℕ) (d : Bool) (s : Step) (x : Body) (child : Child s x) → BranchOn e s x child → V e →
      IsTrue (child_flag varies is_killing d child)
  branch_flag e d _ x _ accepts v = or_right d (varies e) v
  branch_flag e d _ x _ rejects v = or_right d (varies e) v
  branch_flag e d _ x _ (selects {all = all} {v = t} {fall = fall} {cs = cs} k) v =
      subst (λ f. IsTrue (case_flag varies is_killing f k)) (sym (or_right d (varies e) v)) (case_stays all (Case t x fall cs) k)

  cases_from : (d : Bool) (all cs : Cases) (k : CasesIn all cs) → IsTrue (cx d (case_flag varies is_killing d k) cs) → IsTrue (cx d d all)
  cases_from d all _ from_first h = h
  cases_from d all cs (after {v = t} {x = x} {fall = fall} k) h =
      cases_from d all (Case t x fall cs) k (or_right (bx (case_flag varies is_killing d k) x) _ h)

  exits_by_child : (d : Bool) (s : Step) (x : Body) (child : Child s x) → IsTrue (bx (child_flag varies is_killing d child) x) →
      IsTrue (sx d s)
  exits_by_child d _ x inner h = h
  exits_by_child d _ x (accept {c = c} {y = y}) h = or_left (bx (d || varies c) x) (bx (d || varies c) y) h
  exits_by_child d _ y (reject {c = c} {x = x}) h = or_right (bx (d || varies c) x) (bx (d || varies c) y) h
  exits_by_child d _ x (body {y = y}) h = or_left (bx d x) (bx (d || bx d x) y) h
  exits_by_child d _ y (continuing {x = x}) h = or_right (bx d x) (bx (d || bx d x) y) h
  exits_by_child d _ x (case_of {e = e} {all = all} {v = t} {fall = fall} {cs = cs} k) h =
      cases_from (d || varies e) all (Case t x fall cs) k (or_left (bx (case_flag varies is_killing (d || varies e) k) x) _ h)

  fallen_flag : (d f r : Bool) → IsTrue (f || r) → IsTrue (d || (true && (f || r)))
  fallen_flag true f r h = refl
  fallen_flag false f r h = h

  mutual
    of_disrupted : (b : Body) (p : At root b) → D b p → IsTrue (F p)
    of_disrupted _ _ (in_disrupted {s = s} {x = x} {p = p} {child = child} d) =
        subst (λ f. IsTrue (child_flag varies is_killing f child)) (sym (of_disrupted _ _ d)) (child_stays s x child)
    of_disrupted _ _ (in_branch {s = s} {x = x} {e = e} p {child = child} o v) = branch_flag e (F p) s x child o v
    of_disrupted _ _ (in_continuing {x = x} {p = p} h) = or_right (F p) (bx (F p) x) (of_blocks _ _ h)
    of_disrupted _ _ (fallen_into {x = x} {e = e} {p = p} {k = k} d) =
        fallen_flag (F p || varies e) (case_flag varies is_killing (F p || varies e) k)
        (bx (case_flag varies is_killing (F p || varies e) k) x)
        (or_left _ _ (of_disrupted _ _ d))
    of_disrupted _ _ (fallen_out {x = x} {e = e} {p = p} {k = k} h) =
        fallen_flag (F p || varies e) (case_flag varies is_killing (F p || varies e) k)
        (bx (case_flag varies is_killing (F p || varies e) k) x)
        (or_right _ _ (of_blocks _ _ h))
    of_disrupted _ _ (later {s = s} {p = p} d) = or_left (F p) (sx (F p) s) (of_disrupted _ _ d)
    of_disrupted _ _ (behind {s = s} {p = p} x) = or_right (F p) (sx (F p) s) (of_exits _ _ _ x)

    of_exits : (s : Step) (b : Body) (p : At root (Then s b)) → X s b p → IsTrue (sx (F p) s)
    of_exits _ _ _ (returns d) = of_disrupted _ _ d
    of_exits _ _ _ (kills d) = of_disrupted _ _ d
    of_exits _ _ _ (calls p k) = k
    of_exits _ _ _ (contains {s = s} {x = x} {p = p} {child = child} h) = exits_by_child (F p) s x child (of_blocks _ _ h)

    of_blocks : (b : Body) (p : At root b) → BX b p → IsTrue (bx (F p) b)
    of_blocks _ _ (first {s = s} {b = b} {p = p} x) = or_left (sx (F p) s) (bx (F p || sx (F p) s) b) (of_exits _ _ _ x)
    of_blocks _ _ (further {s = s} {b = b} {p = p} h) = or_right (sx (F p) s) (bx (F p || sx (F p) s) b) (of_blocks _ _ h)

  -- from the recursion to the relation
  abbrev CaseHolds : {e : ℕ} {all : Cases} {b : Body} (p : At root (Then (Switch e all) b)) (cs : Cases) → CasesIn all cs → Type 0
  CaseHolds p NoCase k = Unit {0}
  CaseHolds {e} p (Case t x fall cs) k = IsTrue (case_flag varies is_killing (F p || varies e) k) → D x (inside p (case_of k))

  next_holds : (e : ℕ) (all : Cases) (b : Body) (p : At root (Then (Switch e all) b)) (t : SwitchValue) (x : Body) (fall : Bool)
      (cs : Cases) (k : CasesIn all (Case t x fall cs)) →
      (IsTrue (F p) → D _ p) → CaseHolds p (Case t x fall cs) k →
      (IsTrue (bx (case_flag varies is_killing (F p || varies e) k) x) → BX x (inside p (case_of k))) → CaseHolds p cs (after k)
  next_holds e all b p t x fall NoCase k hd hk hx = tt
  next_holds e all b p t x false (Case u y fall' cs) k hd hk hx =
      λ h. elim (or_cases (F p || varies e) false h) [
        | inl f ↦ elim (or_cases (F p) (varies e) f)
            [ inl d ↦ in_disrupted (hd d) | inr v ↦ in_branch p (selects (after k)) v ]
        | inr never ↦ absurd (cc)
      ]
  next_holds e all b p t x true (Case u y fall' cs) k hd hk hx =
      λ h. elim (or_cases (F p || varies e) (case_flag varies is_killing (F p || varies e) k
      || bx (case_flag varies is_killing (F p || varies e) k) x) h) [
        | inl f ↦ elim (or_cases (F p) (varies e) f) [ inl d ↦ in_disrupted (hd d) | inr v ↦ in_branch p (selects (after k)) v ]
        | inr g ↦ elim (or_cases (case_flag varies is_killing (F p || varies e) k) (bx (case_flag varies is_killing (F p || varies e) k) x)
            g) [
              | inl c ↦ fallen_into (hk c)
              | inr c ↦ fallen_out (hx c)
            ]
      ]

  first_holds : (e : ℕ) (all : Cases) (b : Body) (p : At root (Then (Switch e all) b)) → (IsTrue (F p) → D _ p) → CaseHolds p all from_first
  first_holds e NoCase b p hd = tt
  first_holds e (Case t x fall cs) b p hd = λ h. elim (or_cases (F p) (varies e) h)
      [ inl d ↦ in_disrupted (hd d) | inr v ↦ in_branch p (selects from_first) v ]

  leaf_exits : (l : Simple) (b : Body) (p : At root (Then (Leaf l) b)) → (IsTrue (F p) → D _ p) →
      IsTrue (simple_exits varies is_killing (F p) l) → X (Leaf l) b p
  leaf_exits (Emit from to) b p hd h = absurd (cc)
  leaf_exits Break b p hd h = absurd (cc)
  leaf_exits Continue b p hd h = absurd (cc)
  leaf_exits (Return value) b p hd h = returns (hd h)
  leaf_exits Kill b p hd h = kills (hd h)
  leaf_exits (ControlBarrier barrier) b p hd h = absurd (cc)
  leaf_exits (MemoryBarrier barrier) b p hd h = absurd (cc)
  leaf_exits (Store pointer value) b p hd h = absurd (cc)
  leaf_exits (ImageStore image coordinate array_index value) b p hd h = absurd (cc)
  leaf_exits (Atomic pointer fun value result) b p hd h = absurd (cc)
  leaf_exits (ImageAtomic image coordinate array_index fun value) b p hd h = absurd (cc)
  leaf_exits (WorkGroupUniformLoad pointer result) b p hd h = absurd (cc)
  leaf_exits (Call c arguments result) b p hd h = calls p h
  leaf_exits (RayQuery query fun) b p hd h = absurd (cc)
  leaf_exits (RayPipeline fun) b p hd h = absurd (cc)
  leaf_exits (SubgroupBallot result predicate) b p hd h = absurd (cc)
  leaf_exits (SubgroupGather mode argument result) b p hd h = absurd (cc)
  leaf_exits (SubgroupCollectiveOperation op collective argument result) b p hd h = absurd (cc)
  leaf_exits (CooperativeStore target tile) b p hd h = absurd (cc)

  mutual
    to_exits : (s : Step) (b : Body) (p : At root (Then s b)) → (IsTrue (F p) → D _ p) → IsTrue (sx (F p) s) → X s b p
    to_exits (Leaf simple) b p hd h = leaf_exits simple b p hd h
    to_exits (Nested x) b p hd h = contains (to_blocks x (inside p inner) (λ f. in_disrupted (hd f)) h)
    to_exits (If c x y) b p hd h = elim (or_cases (bx (F p || varies c) x) (bx (F p || varies c) y) h) [
      | inl g ↦ contains (to_blocks x (inside p accept) (λ f. elim (or_cases (F p) (varies c) f)
          [ inl d ↦ in_disrupted (hd d) | inr v ↦ in_branch p accepts v ]) g)
      | inr g ↦ contains (to_blocks y (inside p reject) (λ f. elim (or_cases (F p) (varies c) f)
          [ inl d ↦ in_disrupted (hd d) | inr v ↦ in_branch p rejects v ]) g)
    ]
    to_exits (Loop x y k) b p hd h = elim (or_cases (bx (F p) x) (bx (F p || bx (F p) x) y) h) [
      | inl g ↦ contains (to_blocks x (inside p body) (λ f. in_disrupted (hd f)) g)
      | inr g ↦ contains (to_blocks y (inside p continuing)
          (λ f. elim (or_cases (F p) (bx (F p) x) f) [
            | inl d ↦ in_disrupted (hd d)
            | inr i ↦ in_continuing
                (to_blocks x (inside p body) (λ f'. in_disrupted (hd f')) i)
          ]) g)
    ]
    to_exits (Switch e cs) b p hd h = to_cases cs e cs b p from_first hd (first_holds e cs b p hd) h

    to_blocks : (b : Body) (p : At root b) → (IsTrue (F p) → D b p) → IsTrue (bx (F p) b) → BX b p
    to_blocks End p hd h = absurd (cc)
    to_blocks (Then s b) p hd h = elim (or_cases (sx (F p) s) (bx (F p || sx (F p) s) b) h) [
      | inl g ↦ first (to_exits s b p hd g)
      | inr g ↦ further (to_blocks b (rest p) (λ f. elim (or_cases (F p) (sx (F p) s) f)
          [ inl d ↦ later (hd d) | inr i ↦ behind (to_exits s b p hd i) ]) g)
    ]

    to_cases : (cs : Cases) (e : ℕ) (all : Cases) (b : Body) (p : At root (Then (Switch e all) b)) (k : CasesIn all cs) →
        (IsTrue (F p) → D _ p) →
        CaseHolds p cs k → IsTrue (cx (F p || varies e) (case_flag varies is_killing (F p || varies e) k) cs) → X (Switch e all) b p
    to_cases NoCase e all b p k hd hk h = absurd (cc)
    to_cases (Case t x fall cs) e all b p k hd hk h =
        elim (or_cases (bx (case_flag varies is_killing (F p || varies e) k) x)
        (cx (F p || varies e) (case_flag varies is_killing (F p || varies e) (after k)) cs) h) [
          | inl g ↦ contains (to_blocks x (inside p (case_of k)) hk g)
          | inr g ↦ to_cases cs e all b p (after k) hd (next_holds e all b p t x fall cs k hd hk
              (λ g'. to_blocks x (inside p (case_of k)) hk g')) g
        ]

  case_holds : (e : ℕ) (all cs : Cases) (b : Body) (p : At root (Then (Switch e all) b)) → (IsTrue (F p) → D _ p) → (k : CasesIn all cs) →
      CaseHolds p cs k
  case_holds e all _ b p hd from_first = first_holds e all b p hd
  case_holds e all cs b p hd (after {v = t} {x = x} {fall = fall} k) =
      let before = case_holds e all (Case t x fall cs) b p hd k in
      next_holds e all b p t x fall cs k hd before (to_blocks x (inside p (case_of k)) before)

  child_holds : (s : Step) (b x : Body) (p : At root (Then s b)) (child : Child s x) → (IsTrue (F p) → D _ p) →
      IsTrue (child_flag varies is_killing (F p) child) → D x (inside p child)
  child_holds _ b x p inner hd h = in_disrupted (hd h)
  child_holds _ b x p body hd h = in_disrupted (hd h)
  child_holds _ b x p (accept {c = c}) hd h = elim (or_cases (F p) (varies c) h)
      [ inl d ↦ in_disrupted (hd d) | inr v ↦ in_branch p accepts v ]
  child_holds _ b x p (reject {c = c}) hd h = elim (or_cases (F p) (varies c) h)
      [ inl d ↦ in_disrupted (hd d) | inr v ↦ in_branch p rejects v ]
  child_holds _ b y p (continuing {x = x}) hd h =
      elim (or_cases (F p) (bx (F p) x) h) [
        | inl d ↦ in_disrupted (hd d)
        | inr i ↦ in_continuing
            (to_blocks x (inside p body) (λ f. in_disrupted (hd f)) i)
      ]
  child_holds _ b x p (case_of {e = e} {all = all} {v = t} {fall = fall} {cs = cs} k) hd h = case_holds e all (Case t x fall cs) b p hd k h

  to_disrupted : (b : Body) (p : At root b) → IsTrue (F p) → D b p
  to_disrupted _ start h = absurd (cc)
  to_disrupted _ (rest {s = s} {b = b} p) h = elim (or_cases (F p) (sx (F p) s) h) [
    | inl f ↦ later (to_disrupted _ p f)
    | inr x ↦ behind (to_exits s b p (λ f. to_disrupted _ p f) x)
  ]
  to_disrupted _ (inside {s = s} {b = b} {x = x} p child) h = child_holds s b x p child (λ f. to_disrupted _ p f) h

pub flags_are_least : FlagsAreLeast
flags_are_least varies is_killing root = (
  λ b p. (to_disrupted varies is_killing root b p, of_disrupted varies is_killing root b p),
  λ s b p. (to_exits varies is_killing root s b p (to_disrupted varies is_killing root _ p), of_exits varies is_killing root s b p),
)
