-- What emitted expressions give keeps to the marks.
use Rattle.std.proofs.Common.{◌≡◌, refl, sym, ◌∙◌, ap, subst, ◌⊎◌, inl, inr, ℕ, Bool, true, false}
use Rattle.std.proofs.Common.{List, [], ◌∷◌, ◌++◌, Option, Some, None, map}
use Rattle.std.specs.List.{AllByRecursion, flat_map}
use Rattle.shader_uniformity.specs.Differs.{emit_rules, emitted_rules, form_rules, operand_rule}
use Rattle.shader_uniformity.specs.Lockstep.{Status, On, State, Meaning, Group, Trace, Assigns, Content, Read, GivenBy, read_of, is_source}
use Rattle.shader_uniformity.specs.Lockstep.{needs_all, need_of, Emits, at_in}
use Rattle.shader_uniformity.specs.Lockstep as run
use Rattle.shader_uniformity.specs.Marks.{leads}
use Rattle.shader_uniformity.specs.Places.{place_at, places}
use Rattle.shader_uniformity.specs.Positions.{reads_at}
use Rattle.shader_uniformity.specs.Words.{Expression, Function, Label, Module, expression_operands}
use Rattle.shader_uniformity.specs.declared.facts.Fact.{Fact}
use Rattle.shader_uniformity.specs.declared.facts.Fact.TheVariants.{Apart, Differs, Holds, Must}
use Rattle.shader_uniformity.specs.declared.facts.Place.{Place}
use Rattle.shader_uniformity.specs.declared.facts.Place.TheVariants.{Local, Pointee, Shared, Fixed}
use Rattle.shader_uniformity.specs.declared.facts.Rule.{Rule}
use Rattle.shader_uniformity.proofs.FineLemmas.{Cl, head, tail, left, right, AreMarks, formed, Fine, assigned}
use Rattle.shader_uniformity.proofs.StatusLemmas.{Alike, Together, alike_together}

pub all_append : {X : Type 0} (P : X → Type 0) (xs ys : List X) → AllByRecursion P xs → AllByRecursion P ys → AllByRecursion P (xs ++ ys)
all_append P [] ys h k = k
all_append P (x ∷ xs) ys h k = (h.0, all_append P xs ys h.1 k)

module _ (I V : Type 0) (M : Fact → Type 0) (k : AreMarks M) (t : Meaning I V) where
  -- a statement that needs all invocations is passed by all, or none, or that is marked
  abbrev pub IsKept : Group I V → Type 0
  IsKept g = Together I g On ⊎ M Must

  module _ (all : List Place) (n : ℕ) (around : Option ℕ) (severe : Bool) where
    operands_same : (h : ℕ) (moment : ℕ) (s : State I V) → Fine I V M k moment s → (ops : List (ℕ × Label)) (rest : List Rule) →
        Cl M (map (operand_rule h) ops ++ rest) →
        M (Differs h) ⊎ ((i x : I) → map (λ o. s.values i o.0) ops ≡ map (λ o. s.values x o.0) ops)
    operands_same h moment s f [] rest c = inr (λ i x. refl)
    operands_same h moment s f (o ∷ ops) rest c =
        elim (operands_same h moment s f ops rest (tail M (operand_rule h o) (map (operand_rule h) ops ++ rest) c)) [
          | inl m ↦ inl m
          | inr others ↦ elim (f.values o.0) [
            | inl same ↦ inr (λ i x. ap (λ (v : V). v ∷ map (λ p. s.values i p.0) ops) (same i x)
                ∙ ap (λ (vs : List V). s.values x o.0 ∷ vs) (others i x))
            | inr m ↦ inl (head M (operand_rule h o) (map (operand_rule h) ops ++ rest) c m)
          ]
        ]

    content_same : (D : Type 0) (moment : ℕ) (s : State I V) → Fine I V M k moment s → (q : Place) → (M (Holds q moment) → D) →
        D ⊎ ((i x : I) (c d : V) → Content I V t q (s.memory i q) c → Content I V t q (s.memory x q) d → c ≡ d)
    content_same D moment s f (Local l) to = elim (f.memory (Local l) refl) [
      | inl same ↦ inr (λ i x c d a b. a ∙ same i x ∙ sym b)
      | inr m ↦ inl (to m)
    ]
    content_same D moment s f (Pointee l) to = elim (f.memory (Pointee l) refl) [
      | inl same ↦ inr (λ i x c d a b. a ∙ same i x ∙ sym b)
      | inr m ↦ inl (to m)
    ]
    content_same D moment s f Shared to = inl (to (k.shared moment))
    content_same D moment s f Fixed to = inr (λ i x c d a b. a ∙ sym b)

    read_same : (D : Type 0) (s : State I V) → Fine I V M k (reads_at n around) s → (op : Option ℕ) →
        ((p : ℕ) → op ≡ Some p → M (Holds (place_at all p) (reads_at n around)) → D) →
        D ⊎ ((i x : I) (c d : V) → Read I V t (place_at all) s i op c → Read I V t (place_at all) s x op d → c ≡ d)
    read_same D s f None to = inr (λ i x c d a b. a ∙ sym b)
    read_same D s f (Some p) to = content_same D (reads_at n around) s f (place_at all p) (to p refl)

    -- how an emitted expression comes to be the same
    how_given : (h : ℕ) (x : Expression) (g : Group I V) (s : State I V) → Cl M (emitted_rules all n around severe h (Some x)) →
        Alike I g ⊎ M (Apart n) → Fine I V M k (reads_at n around) s → (b : Bool) → is_source x ≡ b →
        M (Differs h) ⊎ (Alike I g × ((i y : I) (v w : V) → GivenBy I V t (place_at all) s b x i v →
        GivenBy I V t (place_at all) s b x y w → v ≡ w))
    how_given h x g s c flow f b e = elim flow [
      | inr m ↦ inl (head M (leads (Apart n) (Differs h)) (map (operand_rule h) (expression_operands x)
          ++ form_rules all n around severe h x) c m)
      | inl same ↦ by b e same
    ]
      where
        by : (b : Bool) → is_source x ≡ b → Alike I g →
            M (Differs h) ⊎ (Alike I g × ((i y : I) (v w : V) → GivenBy I V t (place_at all) s b x i v →
            GivenBy I V t (place_at all) s b x y w → v ≡ w))
        by true e same =
            let inner = right M (map (operand_rule h) (expression_operands x)) (form_rules all n around severe h x)
            (tail M (leads (Apart n) (Differs h)) (map (operand_rule h) (expression_operands x)
            ++ form_rules all n around severe h x) c) in
            inl ((formed M all n around severe h x inner).source e k.always)
        by false e same =
            let below = tail M (leads (Apart n) (Differs h)) (map (operand_rule h) (expression_operands x)
            ++ form_rules all n around severe h x) c in
            let inner = right M (map (operand_rule h) (expression_operands x)) (form_rules all n around severe h x) below in
            elim (operands_same h (reads_at n around) s f (expression_operands x) (form_rules all n around severe h x) below) [
              | inl m ↦ inl m
              | inr ops ↦ elim (read_same (M (Differs h)) s f (read_of x) (formed M all n around severe h x inner).read) [
                | inl m ↦ inl m
                | inr read ↦ inr (
                  same,
                  λ i y v w a b. a.2
                      ∙ ap (λ (vs : List V). t.given x vs a.0) (ops i y)
                      ∙ ap (λ (d : V). t.given x (map (λ o. s.values y o.0) (expression_operands x)) d) (read i y a.0 b.0 a.1 b.1)
                      ∙ sym b.2,
                )
              ]
            ]

  kept_need : (n : ℕ) (b : Bool) (g : Group I V) → (b ≡ true → M (Apart n) → M Must) → Alike I g ⊎ M (Apart n) →
      AllByRecursion IsKept (need_of I V b g)
  kept_need n true g to flow = (elim flow [ inl same ↦ inl (alike_together I g On same) | inr m ↦ inr (to refl m) ], tt)
  kept_need n false g to flow = tt

  -- a range of them
  module _ (m : Module) (severity : Function → Bool) (f : Function) (n : ℕ) (around : Option ℕ) where
    abbrev at_all : List Place
    at_all = places m f.expressions

    pub emitted : (g : Group I V) (hs : List ℕ) (s u : State I V) (a : Trace I V) → Emits I V t m severity f g hs s u a →
        Cl M (flat_map (emit_rules at_all n around (severity f) f.expressions) hs) → Alike I g ⊎ M (Apart n) →
        Fine I V M k (reads_at n around) s → Fine I V M k (reads_at n around) u × AllByRecursion IsKept a
    emitted g _ s _ _ run.none c flow fine = (fine, tt)
    emitted g _ s w _ (run.missing {h = h} {hs = hs} {needs = needs} is e) c flow fine =
        emitted g hs s w needs e
        (right M (emit_rules at_all n around (severity f) f.expressions h)
        (flat_map (emit_rules at_all n around (severity f) f.expressions) hs) c) flow fine
    emitted g _ s w _ (run.one {h = h} {hs = hs} {u = u} {needs = needs} x is a e) c flow fine =
        let O : Option Expression → Type 0 = λ v. Cl M (emitted_rules at_all n around (severity f) h v) in
        let own = subst O is (left M (emit_rules at_all n around (severity f) f.expressions h)
        (flat_map (emit_rules at_all n around (severity f) f.expressions) hs) c) in
        let inner = right M (map (operand_rule h) (expression_operands x)) (form_rules at_all n around (severity f) h x)
        (tail M (leads (Apart n) (Differs h)) (map (operand_rule h) (expression_operands x)
        ++ form_rules at_all n around (severity f) h x)
        own) in
        let how = how_given at_all n around (severity f) h x g s own flow fine (is_source x) refl in
        let next = assigned I V M k (reads_at n around) g h (GivenBy I V t (place_at at_all) s (is_source x) x) s u fine a how in
        let rest = emitted g hs u w needs e (right M (emit_rules at_all n around (severity f) f.expressions h)
        (flat_map (emit_rules at_all n around (severity f) f.expressions) hs) c) flow next in (
          rest.0,
          all_append IsKept (need_of I V (needs_all (severity f) x) g) needs
              (kept_need n (needs_all (severity f) x) g (formed M at_all n around (severity f) h x inner).need flow) rest.1,
        )
