-- Two walks that agree on uniform choices pass the same undisrupted path points.
use Rattle.std.proofs.Common.{◌≡◌, refl, sym, ◌∙◌, ℕ, ◌+◌, ◌≤◌, ◌<◌, Bool, true, false, List}
use Rattle.std.proofs.Common.{Option, Some, None, ◌⊎◌, inl, inr, arith, subst, IsTrue}
use Rattle.std.proofs.lemmas.Option.{same_Some}
use Rattle.std.proofs.Math.Nat.{eq-or-lt_of_le, min-eq_left, min-eq_right, min-le_right}
use Rattle.shader_ir.specs.declared.statement.SwitchValue.{SwitchValue}
use Rattle.shader_analysis_spec.specs.Program.{Function, Module, Step, Leaf, Simple, Emit, Break, Continue, Return, Kill, ControlBarrier}
use Rattle.shader_analysis_spec.specs.Program.{MemoryBarrier, Store, ImageStore, Atomic, ImageAtomic, WorkGroupUniformLoad, Call, RayQuery}
use Rattle.shader_analysis_spec.specs.Program.{RayPipeline, SubgroupBallot, SubgroupGather, SubgroupCollectiveOperation, CooperativeStore}
use Rattle.shader_analysis_spec.specs.Program.{Nested, If, Switch, Loop, Body, End, Then, Cases, NoCase, Case}
use Rattle.shader_analysis_spec.specs.Flow.{At, start, rest, inside, Child, inner, accept, reject, body, continuing, case_of, CasesIn}
use Rattle.shader_analysis_spec.specs.Flow.{from_first}
use Rattle.shader_analysis_spec.specs.Flow.{after, BranchOn, accepts, rejects, selects, Disrupted, Exits, BlockExits, in_disrupted}
use Rattle.shader_analysis_spec.specs.Flow.{in_branch}
use Rattle.shader_analysis_spec.specs.Flow.{in_continuing, fallen_into, fallen_out, later, behind, returns, kills, calls, contains, first}
use Rattle.shader_analysis_spec.specs.Flow.{further}
use Rattle.shader_analysis_spec.specs.Walks.{HasNoLoop, Walk, count, case_number, Enters, to_inner, to_accept, to_reject, selected, fallen}
use Rattle.shader_analysis_spec.specs.Walks.{Finishes}
use Rattle.shader_analysis_spec.specs.Walks.{at_end, on, Leaves, simply, call, through, past, Passes, starts, into, Alike, AlikeWalksAgree}
use Rattle.shader_ir.specs.declared.module.Severity.TheVariants as severity
use Rattle.shader_analysis_spec.specs.Exact.{IsExact}
use Rattle.shader_analysis_spec.specs.Faults.{Settings, Cause, NonUniformControlFlow, IsFault, IsOriginOf, PairAt, flow_violation}
use Rattle.shader_analysis_spec.specs.Filters.{Governs}
use Rattle.shader_analysis_spec.specs.Infos.{Info}
use Rattle.shader_analysis_spec.specs.Needs.{Need, ExpressionNeeds, by_form, by_callee, has_need}
use Rattle.shader_analysis_spec.proofs.NeedsLemmas.{bit_of}
use Rattle.shader_analysis_spec.proofs.FlowLemmas.{more_disrupted}
use Rattle.shader_analysis_spec.proofs.ReasonLemmas.{reason}
use Rattle.shader_analysis_spec.specs.Kills.{HasOrigin, KillsAt}
use Rattle.shader_analysis_spec.specs.Disruption.{DisruptionMeansDivergence, AcceptedWalksAgree, InfosDecide}
use Rattle.shader_analysis_spec.proofs.KillsLemmas.{origin_within}
use Rattle.std.specs.List.{slice_get, slice_index}
use Rattle.std.proofs.lemmas.Option.{slice_get-get_or, slice_get_within}
use Rattle.std.proofs.lemmas.Bool.{cases_lt}
use Rattle.std.proofs.Common.{length, get_or, min}

-- a case and those behind it are not more than all
cases_within : {all cs : Cases} (k : CasesIn all cs) → case_number k + count cs ≡ count all
cases_within from_first = omega arith
cases_within (after k) = omega (arith, cases_within k)

-- two walks that choose alike enter the same case
same_case : (n a b k : ℕ) → min n a ≡ min n b → a ≡ k → k < n → b ≡ k
same_case n a b k alike is lt = elim (cases_lt b n) [
  | inl below ↦ sym (min-eq_right {n = b} {m = n} (omega (arith, below))) ∙ (sym alike ∙ (entered ∙ is))
  | inr beyond ↦ absurd (omega (arith, lt, is, sym entered ∙ (alike ∙ min-eq_left {n = n} {m = b} (omega (arith, beyond)))))
]
  where
    entered : min n a ≡ a
    entered = min-eq_right {n = a} {m = n} (omega (arith, is, lt))

-- and where one enters none, neither does the other
both_past : (n a b : ℕ) → min n a ≡ min n b → n ≤ a → n ≤ b
both_past n a b alike outside = omega (arith, sym (min-eq_left {n = n} {m = a} outside) ∙ alike, min-le_right n b)

module _ (V K : ℕ → Type 0) (decided : (e : ℕ) → V e ⊎ (V e → ⊥)) (root : Body) where
  abbrev D : (b : Body) → At root b → Type 0
  D b p = Disrupted V K root b p

  abbrev X : (s : Step) (b : Body) → At root (Then s b) → Type 0
  X s b p = Exits V K root s b p

  abbrev BX : (b : Body) → At root b → Type 0
  BX b p = BlockExits V K root b p

  -- the reason why a block of a statement is disrupted: the statement is, or it exits, or it enters the block by a value that varies
  data Reason (s : Step) (b x : Body) (p : At root (Then s b)) (child : Child s x) : Type 0 where
    by_statement : D _ p → Reason s b x p child
    by_exit : X _ _ p → Reason s b x p child
    by_branch : (e : ℕ) → BranchOn e s x child → V e → Reason s b x p child

  abbrev Why : (b : Body) → At root b → Type 0
  Why _ start = Unit {0}
  Why _ (rest p) = D _ p ⊎ X _ _ p
  Why _ (inside p child) = Reason _ _ _ p child

  next_branch : {n e : ℕ} {all cs : Cases} {t u : SwitchValue} {x y : Body} {fall : Bool}
      (k : CasesIn all (Case t x true (Case u y fall cs))) →
      BranchOn n (Switch e all) x (case_of k) → BranchOn n (Switch e all) y (case_of (after k))
  next_branch _ (selects k) = selects (after k)

  next_case : {e : ℕ} {all cs : Cases} {t u : SwitchValue} {b x y : Body} {fall : Bool} {p : At root (Then (Switch e all) b)}
      {k : CasesIn all (Case t x true (Case u y fall cs))} →
      Reason (Switch e all) b x p (case_of k) → Reason (Switch e all) b y p (case_of (after k))
  next_case (by_statement d) = by_statement d
  next_case (by_exit x) = by_exit x
  next_case {k = k} (by_branch e o v) = by_branch e (next_branch k o) v

  why : (b : Body) (p : At root b) → D b p → Why b p
  why _ _ (in_disrupted d) = by_statement d
  why _ _ (in_branch {e = e} p o v) = by_branch e o v
  why _ _ (in_continuing bx) = by_exit (contains bx)
  why _ _ (fallen_into d) = next_case (why _ _ d)
  why _ _ (fallen_out bx) = by_exit (contains bx)
  why _ _ (later d) = inl d
  why _ _ (behind x) = inr x

  -- path points that stay undisrupted
  rest_stays : (s : Step) (b : Body) (p : At root (Then s b)) → (D _ p → ⊥) → (X _ _ p → ⊥) → D _ (rest p) → ⊥
  rest_stays s b p nd nx d = elim (why _ _ d) [ inl d' ↦ nd d' | inr x ↦ nx x ]

  child_stays : (s : Step) (b x : Body) (p : At root (Then s b)) (child : Child s x) → (D _ p → ⊥) → (X _ _ p → ⊥) →
      ((e : ℕ) → BranchOn e s x child → V e → ⊥) → D _ (inside p child) → ⊥
  child_stays s b x p child nd nx nb d = of (why _ _ d)
    where
      of : Reason s b x p child → ⊥
      of (by_statement d') = nd d'
      of (by_exit x') = nx x'
      of (by_branch e o v) = nb e o v

  abbrev decided_by : {s : Step} {x : Body} → Child s x → Option ℕ
  decided_by (accept {c = c}) = Some c
  decided_by (reject {c = c}) = Some c
  decided_by (case_of {e = e} k) = Some e
  decided_by _ = None

  decides : (e : ℕ) (s : Step) (x : Body) (child : Child s x) → BranchOn e s x child → decided_by child ≡ Some e
  decides e _ _ _ accepts = refl
  decides e _ _ _ rejects = refl
  decides e _ _ _ (selects k) = refl

  abbrev Varied : (s : Step) (x : Body) → Child s x → Type 0
  Varied s x child = (e : ℕ) × BranchOn e s x child × V e

  steady_if : (s : Step) (x : Body) (child : Child s x) (c : ℕ) → decided_by child ≡ Some c → BranchOn c s x child →
      (Varied s x child → ⊥) ⊎ Varied s x child
  steady_if s x child c is branch = elim (decided c) [
    | inl v ↦ inr (c, branch, v)
    | inr never ↦ inl (λ h. never (subst V (same_Some h.0 c (sym (decides h.0 s x child h.1) ∙ is)) h.2))
  ]

  steady_or_varied : (s : Step) (x : Body) (child : Child s x) → (Varied s x child → ⊥) ⊎ Varied s x child
  steady_or_varied _ _ inner = inl (λ h. absurd (cc (decides h.0 _ _ inner h.1)))
  steady_or_varied _ _ (accept {c = c}) = steady_if _ _ accept c refl accepts
  steady_or_varied _ _ (reject {c = c}) = steady_if _ _ reject c refl rejects
  steady_or_varied _ _ body = inl (λ h. absurd (cc (decides h.0 _ _ body h.1)))
  steady_or_varied _ _ continuing = inl (λ h. absurd (cc (decides h.0 _ _ continuing h.1)))
  steady_or_varied _ _ (case_of {e = e} k) = steady_if _ _ (case_of k) e refl (selects k)

  -- each case of the switch at p is disrupted
  abbrev EachCase : {e : ℕ} {all : Cases} {b : Body} → At root (Then (Switch e all) b) → Type 0
  EachCase {e} {all} {b} p = (t : SwitchValue) (x : Body) (fall : Bool) (cs : Cases) (k : CasesIn all (Case t x fall cs)) →
      D x (inside p (case_of k))

  module _ (plain : HasNoLoop root) where
    true_or_false : (b : Bool) → (b ≡ true) ⊎ (b ≡ false)
    true_or_false true = inl refl
    true_or_false false = inr refl

    -- a walk reaches the end of a disrupted block that doesn't exit
    module _ (v : Walk K root) where
      call_passed : {c : ℕ} {arguments : List ℕ} {result : Option ℕ} {b : Body} (p : At root (Then (Leaf (Call c arguments result)) b)) →
          (X _ _ p → ⊥) → v.ends p ≡ false
      call_passed p nx = elim (true_or_false (v.ends p)) [ inl e ↦ absurd (nx (calls p (v.ends_by_kill p e))) | inr e ↦ e ]

      by_choice : {c : ℕ} {x y b : Body} (p : At root (Then (If c x y) b)) → Finishes v x (inside p accept) →
          Finishes v y (inside p reject) →
          Leaves v (If c x y) b p
      by_choice p to_x to_y =
          elim (true_or_false (v.accepts p)) [ inl e ↦ through (to_accept e) to_x refl | inr e ↦ through (to_reject e) to_y refl ]

      leaves_leaf : (l : Simple) (b : Body) (q : At root (Then (Leaf l) b)) → D _ q → (X (Leaf l) b q → ⊥) → Leaves v (Leaf l) b q
      leaves_leaf (Emit from to) b q d n = simply refl
      leaves_leaf Break b q d n = absurd (cc (plain (Leaf Break) b q))
      leaves_leaf Continue b q d n = absurd (cc (plain (Leaf Continue) b q))
      leaves_leaf (Return value) b q d n = absurd (n (returns d))
      leaves_leaf Kill b q d n = absurd (n (kills d))
      leaves_leaf (ControlBarrier barrier) b q d n = simply refl
      leaves_leaf (MemoryBarrier barrier) b q d n = simply refl
      leaves_leaf (Store pointer value) b q d n = simply refl
      leaves_leaf (ImageStore image coordinate array_index value) b q d n = simply refl
      leaves_leaf (Atomic pointer fun value result) b q d n = simply refl
      leaves_leaf (ImageAtomic image coordinate array_index fun value) b q d n = simply refl
      leaves_leaf (WorkGroupUniformLoad pointer result) b q d n = simply refl
      leaves_leaf (Call c arguments result) b q d n = call (call_passed q n)
      leaves_leaf (RayQuery query fun) b q d n = simply refl
      leaves_leaf (RayPipeline fun) b q d n = simply refl
      leaves_leaf (SubgroupBallot result predicate) b q d n = simply refl
      leaves_leaf (SubgroupGather mode argument result) b q d n = simply refl
      leaves_leaf (SubgroupCollectiveOperation op collective argument result) b q d n = simply refl
      leaves_leaf (CooperativeStore target tile) b q d n = simply refl

      mutual
        always : (b : Body) (q : At root b) → D b q → (BX b q → ⊥) → Finishes v b q
        always End q d n = at_end
        always (Then s b) q d n =
            on (leaves s b q d (λ x. n (first x))) (always b (rest q) (later d) (λ bx. n (further bx)))

        leaves : (s : Step) (b : Body) (q : At root (Then s b)) → D _ q → (X s b q → ⊥) → Leaves v s b q
        leaves (Leaf simple) b q d n = leaves_leaf simple b q d n
        leaves (Loop x y k) b q d n = absurd (cc (plain (Loop x y k) b q))
        leaves (Nested x) b q d n = through to_inner (always x (inside q inner) (in_disrupted d) (λ bx. n (contains bx))) refl
        leaves (If c x y) b q d n =
            by_choice q (always x (inside q accept) (in_disrupted d) (λ bx. n (contains bx)))
            (always y (inside q reject) (in_disrupted d) (λ bx. n (contains bx)))
        leaves (Switch e cs) b q d n = find cs e cs b q from_first n (λ _ _ _ _ k. in_disrupted d) (omega arith) (omega arith)

        find : (cs : Cases) (e : ℕ) (all : Cases) (b : Body) (p : At root (Then (Switch e all) b)) (k : CasesIn all cs) → (X _ _ p → ⊥) →
            EachCase p →
            case_number k + count cs ≡ count all → case_number k ≤ v.selects p → Leaves v (Switch e all) b p
        find NoCase e all b p k n d is le = past (omega arith)
        find (Case t x fall cs) e all b p k n d is le =
            elim (eq-or-lt_of_le le) [
              | inl same ↦ run cs t x fall e all b p k n d (selected k (sym same))
                  (always x (inside p (case_of k)) (d t x fall cs k) (λ bx. n (contains bx)))
              | inr lt ↦ find cs e all b p (after k) n d (omega arith) lt
            ]

        run : (cs : Cases) (t : SwitchValue) (x : Body) (fall : Bool) (e : ℕ) (all : Cases) (b : Body) (p : At root (Then (Switch e all) b))
            (k : CasesIn all (Case t x fall cs)) → (X _ _ p → ⊥) →
            EachCase p →
            Enters v _ _ x p (case_of k) → Finishes v x (inside p (case_of k)) → Leaves v (Switch e all) b p
        run NoCase t x true e all b p k n d enters finishes = through enters finishes refl
        run NoCase t x false e all b p k n d enters finishes = through enters finishes refl
        run (Case u y fall' cs) t x false e all b p k n d enters finishes = through enters finishes refl
        run (Case u y fall' cs) t x true e all b p k n d enters finishes =
            run cs u y fall' e all b p (after k) n d (fallen enters finishes)
            (always y (inside p (case_of (after k))) (d u y fall' cs (after k)) (λ bx. n (contains bx)))

      -- a walk completes a Switch that selects by a value that varies
      varying_switch : (e : ℕ) (all : Cases) (b : Body) (p : At root (Then (Switch e all) b)) → V e → (X _ b p → ⊥) →
          Leaves v (Switch e all) b p
      varying_switch e all b p ve nx =
          find all e all b p from_first nx (λ _ _ _ _ k. in_branch p (selects k) ve) (omega arith) (omega arith)

      -- a walk completes a statement that enters any block by such a value
      varying_child : (s : Step) (b x : Body) (p : At root (Then s b)) (child : Child s x) (e : ℕ) → BranchOn e s x child → V e →
          (X s b p → ⊥) → Leaves v s b p
      varying_child _ b x p _ e (accepts {y = y}) ve nx =
          by_choice p (always x (inside p accept) (in_branch p accepts ve) (λ bx. nx (contains bx)))
          (always y (inside p reject) (in_branch p rejects ve) (λ bx. nx (contains bx)))
      varying_child _ b y p _ e (rejects {x = x}) ve nx =
          by_choice p (always x (inside p accept) (in_branch p accepts ve) (λ bx. nx (contains bx)))
          (always y (inside p reject) (in_branch p rejects ve) (λ bx. nx (contains bx)))
      varying_child _ b x p _ e (selects {all = all} k) ve nx = varying_switch e all b p ve nx

    -- two walks that agree on uniform choices
    module _ (w v : Walk K root) (alike : Alike V w v) where
      of_past : (e : ℕ) (all : Cases) (b : Body) (p : At root (Then (Switch e all) b)) → count all ≤ w.selects p → Passes w _ p →
          Passes v _ p →
          (X _ b p → ⊥) → Leaves v (Switch e all) b p
      of_past e all b p le pw pv nx = elim (decided e) [
        | inl ve ↦ varying_switch v e all b p ve nx
        | inr never ↦ past (both_past (count all) (w.selects p) (v.selects p) (alike.cases p pw pv never) le)
      ]

      -- if the first walk enters an undisrupted block, so does the second; if it reaches the end of a block that doesn't exit, so does the
      -- second
      mutual
        enters_too : (s : Step) (b x : Body) (p : At root (Then s b)) (child : Child s x) → Enters w s b x p child →
            Passes w _ p → Passes v _ p → (D x (inside p child) → ⊥) → Enters v s b x p child
        enters_too _ _ _ p _ to_inner pw pv nd = to_inner
        enters_too _ _ _ p _ (to_accept e) pw pv nd = to_accept (sym (alike.branches p pw pv (λ vc. nd (in_branch p accepts vc))) ∙ e)
        enters_too _ _ _ p _ (to_reject e) pw pv nd = to_reject (sym (alike.branches p pw pv (λ vc. nd (in_branch p rejects vc))) ∙ e)
        enters_too _ _ _ p _ (selected {all = all} k e) pw pv nd =
            let alike = alike.cases p pw pv (λ ve. nd (in_branch p (selects k) ve)) in
            selected k (same_case (count all) (w.selects p) (v.selects p) (case_number k) alike e (omega (arith, cases_within k)))
        enters_too _ _ _ p _ (fallen {k = k} enters finishes) pw pv nd =
            let before = enters_too _ _ _ p (case_of k) enters pw pv (λ d. nd (fallen_into d)) in
            fallen before (finishes_too _ (inside p (case_of k)) finishes (into pw enters) (into pv before) (λ d. nd (fallen_into d))
            (λ bx. nd (fallen_out bx)))

        finishes_too : (b : Body) (q : At root b) → Finishes w b q → Passes w b q → Passes v b q → (D b q → ⊥) → (BX b q → ⊥) →
            Finishes v b q
        finishes_too _ q at_end pw pv nd nbx = at_end
        finishes_too _ q (on l f) pw pv nd nbx =
            let l' = leaves_too _ _ q l pw pv nd (λ x. nbx (first x)) in
            on l' (finishes_too _ (rest q) f (on pw l) (on pv l') (rest_stays _ _ q nd (λ x. nbx (first x))) (λ bx. nbx (further bx)))

        leaves_too : (s : Step) (b : Body) (p : At root (Then s b)) → Leaves w s b p → Passes w _ p → Passes v _ p → (D _ p → ⊥) →
            (X s b p → ⊥) →
            Leaves v s b p
        leaves_too _ _ p (simply t) pw pv nd nx = simply t
        leaves_too _ _ p (call e) pw pv nd nx = call (call_passed v p nx)
        leaves_too _ b p (past {e = e} {all = all} le) pw pv nd nx = of_past e all b p le pw pv nx
        leaves_too s b p (through {x = x} {child = child} enters finishes last) pw pv nd nx =
            elim (steady_or_varied s x child) [
              | inr h ↦ varying_child v s b x p child h.0 h.1 h.2 nx
              | inl steady ↦
                  let stays : D x (inside p child) → ⊥ = child_stays s b x p child nd nx (λ e o ve. steady (e, o, ve)) in
                  let too = enters_too s b x p child enters pw pv stays in
                  through too (finishes_too x (inside p child) finishes (into pw enters) (into pv too) stays (λ bx. nx (contains bx))) last
            ]

      passes_too : (b : Body) (p : At root b) → Passes w b p → (D b p → ⊥) → Passes v b p
      passes_too _ _ starts nd = starts
      passes_too _ _ (on {p = p} pw l) nd =
          let pv = passes_too _ p pw (λ d. nd (later d)) in
          on pv (leaves_too _ _ p l pw pv (λ d. nd (later d)) (λ x. nd (behind x)))
      passes_too _ _ (into {p = p} {child = child} pw enters) nd =
          let pv = passes_too _ p pw (λ d. nd (in_disrupted d)) in
          into pv (enters_too _ _ _ p child enters pw pv nd)

  turned : (w v : Walk K root) → Alike V w v → Alike V v w
  turned w v alike = record {
    branches = λ p pv pw n. sym (alike.branches p pw pv n);
    cases = λ p pv pw n. sym (alike.cases p pw pv n);
  }

pub alike_walks_agree : (V K : ℕ → Type 0) → ((e : ℕ) → V e ⊎ (V e → ⊥)) → (root : Body) → HasNoLoop root → AlikeWalksAgree V K root
alike_walks_agree V K decided root plain w v alike b p nd = (
  λ pw. passes_too V K decided root plain w v alike b p pw nd,
  λ pv. passes_too V K decided root plain v w (turned V K decided root w v alike) b p pv nd,
)

pub disruption_means_divergence : DisruptionMeansDivergence
disruption_means_divergence m f decided plain = alike_walks_agree (HasOrigin m f) (KillsAt m) decided f.body plain

pub infos_decide : InfosDecide
infos_decide m f info exact e = elim (cases_lt e (length info.non_uniform)) [
  | inl lt ↦ at (get_or info.non_uniform e None) (slice_get-get_or info.non_uniform e None lt)
  | inr outside ↦ inr (λ h. absurd (let lt = origin_within m f e h.0 h.1 h.2 in omega (arith, exact.tables.non_uniform)))
]
  where
    at : (r : Option ℕ) → slice_get info.non_uniform e ≡ Some r → HasOrigin m f e ⊎ (HasOrigin m f e → ⊥)
    at (Some k) is = let (r, origin) = exact.origins e (Some k) is in inl (r, k, origin)
    at None is = inr (λ h. exact.origins e None is h.1 (h.0, h.2))

-- a disrupted Emit of an expression that needs undisrupted flow is a fault
module _ (m : Module) (settings : Settings) (f : Function) (info : Info) (exact : IsExact m f info) where
  abbrev by_source : ℕ → Type 0
  by_source e = (h : ℕ) × IsOriginOf m f e h

  need_within : (n : Need) (e : ℕ) → ExpressionNeeds m n f e → e < length f.expressions
  need_within n e (by_form {x = x} is_there required) = slice_get_within f.expressions e x is_there
  need_within n e (by_callee is_there is needs) = slice_get_within f.expressions e _ is_there

  turned_origin : (e : ℕ) → HasOrigin m f e → by_source e
  turned_origin e (r, h, origin) = (h, (r, origin))

  pub flow_fault : (i j e : ℕ) (n : Need) (b : Body) (p : At f.body (Then (Leaf (Emit i j)) b)) →
      Disrupted (HasOrigin m f) (KillsAt m) f.body _ p →
      i ≤ e → e < j → ExpressionNeeds m n f e → IsTrue settings.checks_flow →
      Governs m.diagnostic_filters f.diagnostic_filter_leaf severity.Error →
      (cause : Cause) × IsFault m f settings cause
  flow_fault i j e n b p d le lt needs checks grave =
      let same : Disrupted by_source (KillsAt m) f.body _ p =
      more_disrupted (HasOrigin m f) by_source (KillsAt m) (KillsAt m) f.body turned_origin (λ c arguments result b q k. k) _ p d in
      let (disruptor, disrupts) = reason (IsOriginOf m f) (KillsAt m) (λ n e. ExpressionNeeds m n f e) (PairAt m) m settings f _ p same in (
        NonUniformControlFlow (has_need (slice_index info.expression_needs e)) e disruptor,
        flow_violation checks grave (record {
          start = i;
          finish = j;
          left = b;
          at = p;
          from = le;
          to = lt;
          disrupted = same;
          need = n;
          needed = needs;
          all = λ need.
              let bit = bit_of (slice_index info.expression_needs e) need in
              let exact = exact.expression_needs need e (need_within n e needs) in
              (λ is. exact.0 (bit.0 is), λ needed. bit.1 (exact.1 needed));
          disrupts = disrupts;
        }),
      )

pub accepted_walks_agree : AcceptedWalksAgree
accepted_walks_agree m settings f info exact plain checks grave clean w v alike i j e n b p le lt needs =
    disruption_means_divergence m f (infos_decide m f info exact) plain w v alike _ p
    (λ d. let (cause, fault) = flow_fault m settings f info exact i j e n b p d le lt needs checks grave in clean cause fault)
