-- What a statement without blocks does keeps to the marks.
use Rattle.std.proofs.Common.{◌≡◌, refl, sym, ◌∙◌, ap, subst, ◌⊎◌, inl, inr, ℕ, ◌+◌, ◌≤◌, Bool, true}
use Rattle.std.proofs.Common.{List, [], ◌∷◌, Option, Some, None, arith}
use Rattle.std.specs.List.{AllByRecursion}
use Rattle.shader_ir.specs.declared.statement.RayQueryFunction.TheVariants as query
use Rattle.shader_uniformity.specs.Apart.{simple_rules, query_rules, value_rules}
use Rattle.shader_uniformity.specs.Differs.{store_rule, store_rules}
use Rattle.shader_uniformity.specs.Lockstep.{Status, On, Off, Left, State, Meaning, Group, Trace, Writes, Does, at_in, leave, leave_one}
use Rattle.shader_uniformity.specs.Lockstep.{anything}
use Rattle.shader_uniformity.specs.Lockstep as run
use Rattle.shader_uniformity.specs.Marks.{leads}
use Rattle.shader_uniformity.specs.Places.{place_at, places}
use Rattle.shader_uniformity.specs.Positions.{reads_at, writes_at}
use Rattle.shader_uniformity.specs.Words.{Function, Module, Simple, RayQueryFunction, positions_between}
use Rattle.shader_uniformity.specs.declared.facts.Fact.{Fact}
use Rattle.shader_uniformity.specs.declared.facts.Fact.TheVariants.{Always, Apart, Differs, Holds, Leaves, Must}
use Rattle.shader_uniformity.specs.declared.facts.Fact.TheVariants as fact
use Rattle.shader_uniformity.specs.declared.facts.Jump.{Jump}
use Rattle.shader_uniformity.specs.declared.facts.Jump.TheVariants as jump
use Rattle.shader_uniformity.specs.declared.facts.Place.{Place}
use Rattle.shader_uniformity.specs.declared.facts.Rule.{Rule}
use Rattle.shader_uniformity.proofs.EmitLemmas.{emitted, IsKept}
use Rattle.shader_uniformity.proofs.FineLemmas.{Cl, head, tail, AreMarks, is_own, Fine, fine_later, assigned, written, given}
use Rattle.shader_uniformity.proofs.StatusLemmas.{Alike, Together, Moves, alike_together, leave_one_moves, leave_one_other, same_jump}

pub reads_le : (n p : ℕ) (around : Option ℕ) → n ≤ p → reads_at n around ≤ reads_at p around
reads_le n p None le = le
reads_le n p (Some loop) le = omega arith

pub writes_le : (n : ℕ) (around : Option ℕ) → writes_at n around ≤ reads_at (n + 1) around
writes_le n None = omega arith
writes_le n (Some loop) = omega arith

pub reads_writes : (n : ℕ) (around : Option ℕ) → reads_at n around ≤ writes_at n around
reads_writes n None = omega arith
reads_writes n (Some loop) = omega arith

module _ (I V : Type 0) (M : Fact → Type 0) (k : AreMarks M) (t : Meaning I V) where
  abbrev pub Lefts : ℕ → Group I V → Type 0
  Lefts q g = (j : Jump) → Together I g (Left j) ⊎ M (Leaves j q)

  -- what is so behind a statement of the block at q
  pub record Comes (q behind moment : ℕ) (g : Group I V) (u : State I V) (h : Group I V) (a : Trace I V) : Type 0 where
    pub fine : Fine I V M k moment u
    pub flow : Alike I h ⊎ M (Apart behind)
    pub lefts : Lefts q h
    pub moves : Moves I g h
    pub needs : AllByRecursion (IsKept I V M k t) a

  module _ (m : Module) (severity : Function → Bool) (f : Function) (callees : List (List Rule)) (q n : ℕ) (around : Option ℕ)
      (g : Group I V) (carry : M (Apart n) → M (Apart (n + 1))) (flow : Alike I g ⊎ M (Apart n)) (lefts : Lefts q g) where
    abbrev all : List Place
    all = places m f.expressions

    abbrev CameBy : State I V → Group I V → Trace I V → Type 0
    CameBy u h a = Comes q (n + 1) (reads_at (n + 1) around) g u h a

    go_on : Alike I g ⊎ M (Apart (n + 1))
    go_on = elim flow [ inl same ↦ inl same | inr x ↦ inr (carry x) ]

    stays : (u : State I V) (a : Trace I V) → Fine I V M k (reads_at (n + 1) around) u → AllByRecursion (IsKept I V M k t) a → CameBy u g a
    stays u a fine needs = record { fine = fine; flow = go_on; lefts = lefts; moves = λ i. inl refl; needs = needs }

    on : (u : State I V) → Fine I V M k (reads_at n around) u → Fine I V M k (reads_at (n + 1) around) u
    on u fine = fine_later I V M k (reads_at n around) (reads_at (n + 1) around) u (reads_le n (n + 1) around (omega arith)) fine

    one_need : (M (Apart n) → M Must) → AllByRecursion (IsKept I V M k t) (g ∷ [])
    one_need to = (elim flow [ inl same ↦ inl (alike_together I g On same) | inr x ↦ inr (to x) ], tt)

    leaves : (j : Jump) (u : State I V) → Fine I V M k (reads_at n around) u → (M (Apart n) → M (Leaves j q)) → CameBy u (leave I V g j) []
    leaves j u fine to = record {
      fine = on u fine;
      flow = elim flow [ inl same ↦ inl (λ i x. ap (λ (s : Status). leave_one s j) (same i x)) | inr x ↦ inr (carry x) ];
      lefts = λ i. elim flow [
        | inl same ↦ inl (alike_together I (leave I V g j) (Left i) (λ y z. ap (λ (s : Status). leave_one s j) (same y z)))
        | inr x ↦ elim (lefts i) [
          | inr y ↦ inr y
          | inl together ↦ of i together (to x)
        ]
      ];
      moves = λ i. leave_one_moves (g i) j;
      needs = tt;
    }
      where
        -- another jump than j stays together
        of : (i : Jump) → Together I g (Left i) → M (Leaves j q) → Together I (leave I V g j) (Left i) ⊎ M (Leaves i q)
        of i together x = elim (same_jump j i) [
          | inl is ↦ let P : Jump → Type 0 = λ v. M (Leaves v q) in inr (subst P is x)
          | inr unlike ↦ inl (λ y z e. elim (leave_one_other (g y) j i e) [
            | inl wrong ↦ absurd (unlike wrong)
            | inr was ↦ ap (λ (s : Status). leave_one s j) (together y z was)
          ])
        ]

    -- a place is written with anything
    overwrites : (p : ℕ) (s u : State I V) → Fine I V M k (reads_at n around) s →
        Writes I V g (at_in I V t m severity f p) (anything I V) s u →
        M (Holds (place_at all p) (writes_at n around)) → Fine I V M k (reads_at (n + 1) around) u
    overwrites p s u fine w x =
        written I V M k (reads_at n around) (reads_at (n + 1) around) g (place_at all p) (anything I V) s u
        (reads_le n (n + 1) around (omega arith)) fine w
        (λ own same. inl (k.later (place_at all p) (writes_at n around) (reads_at (n + 1) around) (writes_le n around) x))

    -- and with a value
    stored_value : (p v : ℕ) (rest : List Rule) (s u : State I V) → Fine I V M k (reads_at n around) s →
        Writes I V g (place_at all p) (λ i c. c ≡ t.stored (s.memory i (place_at all p)) (s.values i p) (s.values i v)) s u →
        Cl M (store_rules all n around p v) → Fine I V M k (reads_at (n + 1) around) u
    stored_value p v rest s u fine w c =
        written I V M k (reads_at n around) (reads_at (n + 1) around) g (place_at all p)
        (λ i c. c ≡ t.stored (s.memory i (place_at all p)) (s.values i p) (s.values i v)) s u
        (reads_le n (n + 1) around (omega arith)) fine w how
      where
        late : M (Holds (place_at all p) (writes_at n around)) → M (Holds (place_at all p) (reads_at (n + 1) around))
        late x = k.later (place_at all p) (writes_at n around) (reads_at (n + 1) around) (writes_le n around) x

        by_flow : M (Apart n) → M (Holds (place_at all p) (reads_at (n + 1) around))
        by_flow x = late (head M (store_rule all n around p (Apart n)) []
            (tail M (store_rule all n around p (Differs p)) (store_rule all n around p (Apart n) ∷ [])
            (tail M (store_rule all n around p (Differs v))
            (store_rule all n around p (Differs p) ∷ store_rule all n around p (Apart n) ∷ [])
            c)) x)

        by_pointer : M (Differs p) → M (Holds (place_at all p) (reads_at (n + 1) around))
        by_pointer x = late (head M (store_rule all n around p (Differs p)) (store_rule all n around p (Apart n) ∷ [])
            (tail M (store_rule all n around p (Differs v))
            (store_rule all n around p (Differs p) ∷ store_rule all n around p (Apart n) ∷ [])
            c) x)

        by_value : M (Differs v) → M (Holds (place_at all p) (reads_at (n + 1) around))
        by_value x = late (head M (store_rule all n around p (Differs v))
            (store_rule all n around p (Differs p) ∷ store_rule all n around p (Apart n) ∷ []) c x)

        how : is_own (place_at all p) ≡ true → ((i x : I) → s.memory i (place_at all p) ≡ s.memory x (place_at all p)) →
            M (Holds (place_at all p) (reads_at (n + 1) around)) ⊎ (Alike I g × ((i x : I) (a b : V) →
            a ≡ t.stored (s.memory i (place_at all p)) (s.values i p) (s.values i v) →
            b ≡ t.stored (s.memory x (place_at all p)) (s.values x p) (s.values x v) → a ≡ b))
        how own same = elim flow [
          | inr x ↦ inl (by_flow x)
          | inl alike ↦ elim (fine.values p) [
            | inr x ↦ inl (by_pointer x)
            | inl ps ↦ elim (fine.values v) [
              | inr x ↦ inl (by_value x)
              | inl vs ↦ inr (
                alike,
                λ i x a b d e. d
                    ∙ ap (λ (y : V). t.stored y (s.values i p) (s.values i v)) (same i x)
                    ∙ ap (λ (y : V). t.stored (s.memory x (place_at all p)) y (s.values i v)) (ps i x)
                    ∙ ap (λ (y : V). t.stored (s.memory x (place_at all p)) (s.values x p) y) (vs i x)
                    ∙ sym e,
              )
            ]
          ]
        ]

    source : (r : ℕ) (s u : State I V) → Fine I V M k (reads_at n around) s → run.Assigns I V g r (anything I V) s u → M (Differs r) →
        Fine I V M k (reads_at n around) u
    source r s u fine a x = assigned I V M k (reads_at n around) g r (anything I V) s u fine a (inl x)

    pub comes : (x : Simple) (s u : State I V) (h : Group I V) (a : Trace I V) → Does I V t m severity f g x s u h a →
        Cl M (simple_rules f.expressions all callees (severity f) q n around x) → Fine I V M k (reads_at n around) s → CameBy u h a
    comes _ s u _ a (run.emits {a = b} {b = d} e) c fine =
        let r = emitted I V M k t m severity f n around g (positions_between b d) s u a e c flow fine in
        stays u a (on u r.0) r.1
    comes _ s _ _ _ run.breaks c fine = leaves jump.Break s fine (head M (leads (Apart n) (Leaves jump.Break q)) [] c)
    comes _ s _ _ _ run.continues c fine = leaves jump.Continue s fine (head M (leads (Apart n) (Leaves jump.Continue q)) [] c)
    comes _ s _ _ _ run.returns c fine = leaves jump.Return s fine (head M (leads (Apart n) (Leaves jump.Return q)) (value_rules n None) c)
    comes _ s u _ _ (run.gives {v = v} w) c fine =
        let below = tail M (leads (Apart n) (Leaves jump.Return q)) (value_rules n (Some v)) c in
        let by_value = head M (leads (Differs v) fact.Gives) (leads (Apart n) fact.Gives ∷ []) below in
        let by_flow = head M (leads (Apart n) fact.Gives) []
        (tail M (leads (Differs v) fact.Gives) (leads (Apart n) fact.Gives ∷ []) below) in
        leaves jump.Return u (given I V M k (reads_at n around) g v s u fine w (elim flow [
          | inr x ↦ inl (by_flow x)
          | inl same ↦ elim (fine.values v) [ inl vs ↦ inr (same, vs) | inr x ↦ inl (by_value x) ]
        ])) (head M (leads (Apart n) (Leaves jump.Return q)) (value_rules n (Some v)) c)
    comes _ s _ _ _ run.waits c fine = stays s (g ∷ []) (on s fine) (one_need (head M (leads (Apart n) Must) [] c))
    comes _ s _ _ _ run.orders c fine = stays s (g ∷ []) (on s fine) (one_need (head M (leads (Apart n) Must) [] c))
    comes _ s u _ _ (run.stores {p = p} {v = v} w) c fine = stays u [] (stored_value p v [] s u fine w c) tt
    comes _ s w _ _ (run.changes {p = p} {r = r} {u = u} a b) c fine =
        stays w [] (overwrites p u w
        (source r s u fine a (head M (leads Always (Differs r)) (store_rule all n around p Always ∷ []) c k.always)) b
        (head M (store_rule all n around p Always) [] (tail M (leads Always (Differs r)) (store_rule all n around p Always ∷ []) c)
        k.always)) tt
    comes _ s u _ _ (run.loads {p = p} {r = r} v a) c fine =
        let one = head M (leads (Apart n) Must) (leads (Differs p) Must ∷ leads (Apart n) (Differs r) ∷ []) c in
        let last = head M (leads (Apart n) (Differs r)) [] (tail M (leads (Differs p) Must) (leads (Apart n) (Differs r) ∷ [])
        (tail M (leads (Apart n) Must) (leads (Differs p) Must ∷ leads (Apart n) (Differs r) ∷ []) c)) in
        stays u (g ∷ []) (on u (assigned I V M k (reads_at n around) g r (λ i d. d ≡ v) s u fine a (elim flow [
          | inl same ↦ inr (same, λ i x y z d e. d ∙ sym e)
          | inr x ↦ inl (last x)
        ]))) (one_need one)
    comes _ s u _ _ (run.queries {q = p} {fun = fun} w) c fine = stays u [] (overwrites p s u fine w (of fun c)) tt
      where
        of : (fun : RayQueryFunction) → Cl M (query_rules all n around p fun) → M (Holds (place_at all p) (writes_at n around))
        of (query.Proceed r) c = head M (store_rule all n around p Always) []
            (tail M (leads Always (Differs r)) (store_rule all n around p Always ∷ []) c) k.always
        of (query.Initialize a b) c = head M (store_rule all n around p Always) [] c k.always
        of (query.GenerateIntersection a) c = head M (store_rule all n around p Always) [] c k.always
        of query.ConfirmIntersection c = head M (store_rule all n around p Always) [] c k.always
        of query.Terminate c = head M (store_rule all n around p Always) [] c k.always
    comes _ s w _ _ (run.proceeds {q = p} {r = r} {u = u} a b) c fine =
        stays w [] (overwrites p u w
        (source r s u fine a (head M (leads Always (Differs r)) (store_rule all n around p Always ∷ []) c k.always)) b
        (head M (store_rule all n around p Always) [] (tail M (leads Always (Differs r)) (store_rule all n around p Always ∷ []) c)
        k.always)) tt
    comes _ s u _ _ (run.traces {p = p} w) c fine =
        stays u [] (overwrites p s u fine w (head M (store_rule all n around p Always) [] c k.always)) tt
    comes _ s u _ _ (run.votes {r = r} a) c fine =
        stays u [] (on u (source r s u fine a (head M (leads Always (Differs r)) [] c k.always))) tt
    comes _ s u _ _ (run.gathers {r = r} a) c fine =
        stays u [] (on u (source r s u fine a (head M (leads Always (Differs r)) [] c k.always))) tt
    comes _ s u _ _ (run.collects {r = r} a) c fine =
        stays u [] (on u (source r s u fine a (head M (leads Always (Differs r)) [] c k.always))) tt
    comes _ s u _ _ (run.puts {v = v} {tile = tile} w) c fine =
        stays u (g ∷ []) (stored_value tile.pointer v [] s u fine w
        (tail M (leads (Apart n) Must) (store_rules all n around tile.pointer v) c))
        (one_need (head M (leads (Apart n) Must) (store_rules all n around tile.pointer v) c))
    comes _ s _ _ _ run.helps c fine = stays s [] (on s fine) tt
    comes _ s _ _ _ run.paints c fine = stays s [] (on s fine) tt
    comes _ s _ _ _ run.repaints c fine = stays s [] (on s fine) tt
