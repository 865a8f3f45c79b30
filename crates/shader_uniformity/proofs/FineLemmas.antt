-- What a group's state keeps to, by marks that the rules are closed under.
use Rattle.std.proofs.Common.{◌≡◌, refl, sym, ◌∙◌, ap, subst, ◌⊎◌, inl, inr, ℕ, ◌≤◌, Bool, true, false, ◌&&◌}
use Rattle.std.proofs.Common.{List, [], ◌∷◌, ◌++◌, Option, Some, None, if◌then◌else◌}
use Rattle.std.proofs.lemmas.Bool.{cases_eq, false≢true}
use Rattle.std.proofs.lemmas.List.Elements.{Contains-append_left, Contains-append_right, Contains-push}
use Rattle.std.specs.List.{Contains}
use Rattle.shader_ir.specs.declared.expression.Expression.TheVariants as form
use Rattle.shader_uniformity.specs.Differs.{form_rules, load_rule}
use Rattle.shader_uniformity.specs.Lockstep.{State, Group, Assigns, Writes, Gives}
use Rattle.shader_uniformity.specs.Lockstep.{read_of, is_source, needs_all}
use Rattle.shader_uniformity.specs.Marks.{leads}
use Rattle.shader_uniformity.specs.Needs.{emitted_need, is_implicit, need}
use Rattle.shader_uniformity.specs.Places.{place_at}
use Rattle.shader_uniformity.specs.Positions.{reads_at}
use Rattle.shader_uniformity.specs.Words.{Expression}
use Rattle.shader_uniformity.specs.declared.facts.Fact.{Fact}
use Rattle.shader_uniformity.specs.declared.facts.Fact.TheVariants.{Always, Apart, Differs, Holds, Must}
use Rattle.shader_uniformity.specs.declared.facts.Fact.TheVariants as fact
use Rattle.shader_uniformity.specs.declared.facts.Place.{Place}
use Rattle.shader_uniformity.specs.declared.facts.Place.TheVariants.{Local, Pointee, Shared, Fixed}
use Rattle.shader_uniformity.specs.declared.facts.Rule.{Rule}
use Rattle.shader_uniformity.proofs.StatusLemmas.{Alike}

module _ {X : Type 0} where
  pub here : (x : X) (xs : List X) → Contains (x ∷ xs) x
  here x xs = Contains-append_left (x ∷ []) xs x (Contains-push [] x)

  pub there : (x : X) (xs : List X) (y : X) → Contains xs y → Contains (x ∷ xs) y
  there x xs y h = Contains-append_right (x ∷ []) xs y h

-- what a closed set of facts is closed under
module _ (M : Fact → Type 0) where
  abbrev pub Cl : List Rule → Type 0
  Cl rules = (r : Rule) → Contains rules r → M r.cause → M r.effect

  pub head : (r : Rule) (rs : List Rule) → Cl (r ∷ rs) → M r.cause → M r.effect
  head r rs c m = c r (here r rs) m

  pub tail : (r : Rule) (rs : List Rule) → Cl (r ∷ rs) → Cl rs
  tail r rs c x h m = c x (there r rs x h) m

  pub left : (xs ys : List Rule) → Cl (xs ++ ys) → Cl xs
  left xs ys c x h m = c x (Contains-append_left xs ys x h) m

  pub right : (xs ys : List Rule) → Cl (xs ++ ys) → Cl ys
  right xs ys c x h m = c x (Contains-append_right xs ys x h) m

  -- and which facts it has whatever is passed
  pub record AreMarks : Type 0 where
    pub always : M Always
    pub shared : (t : ℕ) → M (Holds Shared t)
    pub later : (p : Place) (s t : ℕ) → s ≤ t → M (Holds p s) → M (Holds p t)

abbrev pub is_own : Place → Bool
is_own (Local l) = true
is_own (Pointee k) = true
is_own _ = false

place_number : Place → ℕ
place_number (Local l) = l
place_number (Pointee k) = k
place_number _ = 0

pub same_place : (p q : Place) → (p ≡ q) ⊎ (p ≡ q → ⊥)
same_place (Local l) (Local n) = elim (cases_eq l n) [ inl e ↦ inl (ap (λ (v : ℕ). Local v) e) | inr unlike ↦ inr (λ e. unlike (cc)) ]
same_place (Local l) (Pointee n) = inr (λ e. absurd (cc))
same_place (Local l) Shared = inr (λ e. absurd (cc))
same_place (Local l) Fixed = inr (λ e. absurd (cc))
same_place (Pointee l) (Pointee n) = elim (cases_eq l n) [ inl e ↦ inl (ap (λ (v : ℕ). Pointee v) e) | inr unlike ↦ inr (λ e. unlike (cc)) ]
same_place (Pointee l) (Local n) = inr (λ e. absurd (cc))
same_place (Pointee l) Shared = inr (λ e. absurd (cc))
same_place (Pointee l) Fixed = inr (λ e. absurd (cc))
same_place Shared (Local n) = inr (λ e. absurd (cc))
same_place Shared (Pointee n) = inr (λ e. absurd (cc))
same_place Shared Shared = inl refl
same_place Shared Fixed = inr (λ e. absurd (cc))
same_place Fixed (Local n) = inr (λ e. absurd (cc))
same_place Fixed (Pointee n) = inr (λ e. absurd (cc))
same_place Fixed Shared = inr (λ e. absurd (cc))
same_place Fixed Fixed = inl refl

-- the rules of an expression's form, by what it reads and what it is
need_form : (M : Fact → Type 0) (n : ℕ) (severe : Bool) → Cl M (emitted_need severe n) → severe ≡ true → M (Apart n) → M Must
need_form M n true c e m = head M (leads (Apart n) Must) [] c m
need_form M n false c e m = absurd (false≢true e)

module _ (M : Fact → Type 0) (all : List Place) (n : ℕ) (around : Option ℕ) (severe : Bool) (h : ℕ) where
  pub record IsFormed (x : Expression) : Type 0 where
    pub read : (p : ℕ) → read_of x ≡ Some p → M (Holds (place_at all p) (reads_at n around)) → M (Differs h)
    pub source : is_source x ≡ true → M Always → M (Differs h)
    pub need : needs_all severe x ≡ true → M (Apart n) → M Must

  sampled : (b : Bool) → Cl M (if b then leads Always (Differs h) ∷ emitted_need severe n else []) →
      (b ≡ true → M Always → M (Differs h)) × (b && severe ≡ true → M (Apart n) → M Must)
  sampled true c = (
    λ e m. head M (leads Always (Differs h)) (emitted_need severe n) c m,
    λ e m. need_form M n severe (tail M (leads Always (Differs h)) (emitted_need severe n) c) e m,
  )
  sampled false c = (λ e m. absurd (false≢true e), λ e m. absurd (false≢true e))

  loaded : (p q : ℕ) → Some p ≡ Some q → (M (Holds (place_at all p) (reads_at n around)) → M (Differs h)) →
      M (Holds (place_at all q) (reads_at n around)) → M (Differs h)
  loaded p q e f m =
      let P : ℕ → Type 0 = λ v. M (Holds (place_at all v) (reads_at n around)) in
      let back : q ≡ p = cc in
      f (subst P back m)

  plain : (x : Expression) → read_of x ≡ None → is_source x ≡ false → needs_all severe x ≡ false → IsFormed x
  plain x a b d = record {
    read = λ p e m. let wrong : None ≡ Some p = sym a ∙ e in absurd (cc);
    source = λ e m. absurd (false≢true (sym b ∙ e));
    need = λ e m. absurd (false≢true (sym d ∙ e));
  }

  reads : (x : Expression) (p : ℕ) → read_of x ≡ Some p → is_source x ≡ false → needs_all severe x ≡ false →
      (M (Holds (place_at all p) (reads_at n around)) → M (Differs h)) → IsFormed x
  reads x p a b d f = record {
    read = λ q e m. loaded p q (sym a ∙ e) f m;
    source = λ e m. absurd (false≢true (sym b ∙ e));
    need = λ e m. absurd (false≢true (sym d ∙ e));
  }

  pub formed : (x : Expression) → Cl M (form_rules all n around severe h x) → IsFormed x
  formed (form.Load pointer) c = reads (form.Load pointer) pointer refl refl refl (head M (load_rule all n around h pointer) [] c)
  formed (form.ImageLoad image coordinate array_index sample level) c =
      reads (form.ImageLoad image coordinate array_index sample level) image refl refl refl (head M (load_rule all n around h image) [] c)
  formed (form.RayQueryVertexPositions query committed) c =
      reads (form.RayQueryVertexPositions query committed) query refl refl refl (head M (load_rule all n around h query) [] c)
  formed (form.RayQueryGetIntersection query committed) c =
      reads (form.RayQueryGetIntersection query committed) query refl refl refl (head M (load_rule all n around h query) [] c)
  formed (form.ImageSample image sampler gather clamp_to_edge coordinate array_index offset level depth_ref) c =
      let s = sampled (is_implicit level) c in
      record { read = λ p e m. absurd (cc); source = s.0; need = s.1 }
  formed (form.Derivative axis ctrl expr) c = record {
    read = λ p e m. absurd (cc);
    source = λ e m. head M (leads Always (Differs h)) (emitted_need severe n) c m;
    need = λ e m. need_form M n severe (tail M (leads Always (Differs h)) (emitted_need severe n) c) e m;
  }
  formed (form.CooperativeLoad columns rows role tile) c = record {
    read = λ p e m. loaded tile.pointer p e (head M (load_rule all n around h tile.pointer) (need n) c) m;
    source = λ e m. absurd (false≢true e);
    need = λ e m. head M (leads (Apart n) Must) [] (tail M (load_rule all n around h tile.pointer) (need n) c) m;
  }
  formed (form.CooperativeMultiplyAdd a b d) c = record {
    read = λ p e m. absurd (cc);
    source = λ e m. absurd (false≢true e);
    need = λ e m. head M (leads (Apart n) Must) [] c m;
  }
  formed x c = plain x refl refl refl

module _ (I V : Type 0) (M : Fact → Type 0) (k : AreMarks M) where
  -- what isn't marked is the same for all
  pub record Fine (t : ℕ) (s : State I V) : Type 0 where
    pub values : (e : ℕ) → ((i x : I) → s.values i e ≡ s.values x e) ⊎ M (Differs e)
    pub memory : (p : Place) → is_own p ≡ true → ((i x : I) → s.memory i p ≡ s.memory x p) ⊎ M (Holds p t)
    pub results : ((i x : I) → s.results i ≡ s.results x) ⊎ M fact.Gives

  pub fine_later : (t u : ℕ) (s : State I V) → t ≤ u → Fine t s → Fine u s
  fine_later t u s le f = record {
    values = f.values;
    memory = λ p own. elim (f.memory p own) [ inl same ↦ inl same | inr m ↦ inr (k.later p t u le m) ];
    results = f.results;
  }

  -- an expression is given values
  pub assigned : (t : ℕ) (g : Group I V) (h : ℕ) (P : I → V → Type 0) (s u : State I V) → Fine t s → Assigns I V g h P s u →
      (M (Differs h) ⊎ (Alike I g × ((i x : I) (v w : V) → P i v → P x w → v ≡ w))) → Fine t u
  assigned t g h P s u f a how = record {
    values = values;
    memory = λ p own. elim (f.memory p own) [
      | inl same ↦ inl (λ i x. a.memory i p ∙ same i x ∙ sym (a.memory x p))
      | inr m ↦ inr m
    ];
    results = elim f.results [
      | inl same ↦ inl (λ i x. a.results i ∙ same i x ∙ sym (a.results x))
      | inr m ↦ inr m
    ];
  }
    where
      two : (e : ℕ) → Alike I g → ((i x : I) (v w : V) → P i v → P x w → v ≡ w) → ((i x : I) → s.values i e ≡ s.values x e) →
          (i x : I) → u.values i e ≡ u.values x e
      two e alike fun same i x = elim (a.values i e) [
        | inl b ↦ elim (a.values x e) [
          | inl c ↦ fun i x (u.values i e) (u.values x e) b.2 c.2
          | inr c ↦ absurd (c.0 b.0 (alike x i ∙ b.1))
        ]
        | inr b ↦ elim (a.values x e) [
          | inl c ↦ absurd (b.0 c.0 (alike i x ∙ c.1))
          | inr c ↦ b.1 ∙ same i x ∙ sym c.1
        ]
      ]

      other : (e : ℕ) → (e ≡ h → ⊥) → (i : I) → u.values i e ≡ s.values i e
      other e unlike i = elim (a.values i e) [ inl b ↦ absurd (unlike b.0) | inr b ↦ b.1 ]

      values : (e : ℕ) → ((i x : I) → u.values i e ≡ u.values x e) ⊎ M (Differs e)
      values e = elim (f.values e) [
        | inr m ↦ inr m
        | inl same ↦ elim how [
          | inl m ↦ elim (cases_eq e h) [
            | inl is ↦ let P' : ℕ → Type 0 = λ v. M (Differs v) in inr (subst P' (sym is) m)
            | inr unlike ↦ inl (λ i x. other e unlike i ∙ same i x ∙ sym (other e unlike x))
          ]
          | inr both ↦ inl (two e both.0 both.1 same)
        ]
      ]

  -- a place is written
  pub written : (t n : ℕ) (g : Group I V) (q : Place) (P : I → V → Type 0) (s u : State I V) → t ≤ n → Fine t s → Writes I V g q P s u →
      (is_own q ≡ true → ((i x : I) → s.memory i q ≡ s.memory x q) →
      M (Holds q n) ⊎ (Alike I g × ((i x : I) (v w : V) → P i v → P x w → v ≡ w))) → Fine n u
  written t n g q P s u le f a how = record {
    values = λ e. elim (f.values e) [
      | inl same ↦ inl (λ i x. a.values i e ∙ same i x ∙ sym (a.values x e))
      | inr m ↦ inr m
    ];
    memory = memory;
    results = elim f.results [
      | inl same ↦ inl (λ i x. a.results i ∙ same i x ∙ sym (a.results x))
      | inr m ↦ inr m
    ];
  }
    where
      two : (p : Place) → Alike I g → ((i x : I) (v w : V) → P i v → P x w → v ≡ w) → ((i x : I) → s.memory i p ≡ s.memory x p) →
          (i x : I) → u.memory i p ≡ u.memory x p
      two p alike fun same i x = elim (a.memory i p) [
        | inl b ↦ elim (a.memory x p) [
          | inl c ↦ fun i x (u.memory i p) (u.memory x p) b.2 c.2
          | inr c ↦ absurd (c.0 b.0 (alike x i ∙ b.1))
        ]
        | inr b ↦ elim (a.memory x p) [
          | inl c ↦ absurd (b.0 c.0 (alike i x ∙ c.1))
          | inr c ↦ b.1 ∙ same i x ∙ sym c.1
        ]
      ]

      other : (p : Place) → (p ≡ q → ⊥) → (i : I) → u.memory i p ≡ s.memory i p
      other p unlike i = elim (a.memory i p) [ inl b ↦ absurd (unlike b.0) | inr b ↦ b.1 ]

      at_place : (p : Place) → p ≡ q → is_own p ≡ true → ((i x : I) → s.memory i p ≡ s.memory x p) →
          ((i x : I) → u.memory i p ≡ u.memory x p) ⊎ M (Holds p n)
      at_place p is own same =
          let O : Place → Type 0 = λ v. is_own v ≡ true in
          let S : Place → Type 0 = λ v. (i x : I) → s.memory i v ≡ s.memory x v in
          let H : Place → Type 0 = λ v. M (Holds v n) in
          elim (how (subst O is own) (subst S is same)) [
            | inl m ↦ inr (subst H (sym is) m)
            | inr both ↦ inl (two p both.0 both.1 same)
          ]

      memory : (p : Place) → is_own p ≡ true → ((i x : I) → u.memory i p ≡ u.memory x p) ⊎ M (Holds p n)
      memory p own = elim (f.memory p own) [
        | inr m ↦ inr (k.later p t n le m)
        | inl same ↦ elim (same_place p q) [
          | inl is ↦ at_place p is own same
          | inr unlike ↦ inl (λ i x. other p unlike i ∙ same i x ∙ sym (other p unlike x))
        ]
      ]

  -- a result is given
  pub given : (t : ℕ) (g : Group I V) (v : ℕ) (s u : State I V) → Fine t s → Gives I V g v s u →
      (M fact.Gives ⊎ (Alike I g × ((i x : I) → s.values i v ≡ s.values x v))) → Fine t u
  given t g v s u f a how = record {
    values = λ e. elim (f.values e) [
      | inl same ↦ inl (λ i x. a.values i e ∙ same i x ∙ sym (a.values x e))
      | inr m ↦ inr m
    ];
    memory = λ p own. elim (f.memory p own) [
      | inl same ↦ inl (λ i x. a.memory i p ∙ same i x ∙ sym (a.memory x p))
      | inr m ↦ inr m
    ];
    results = results;
  }
    where
      two : Alike I g → ((i x : I) → s.values i v ≡ s.values x v) → ((i x : I) → s.results i ≡ s.results x) →
          (i x : I) → u.results i ≡ u.results x
      two alike vs same i x = elim (a.results i) [
        | inl b ↦ elim (a.results x) [
          | inl c ↦ b.1 ∙ vs i x ∙ sym c.1
          | inr c ↦ absurd (c.0 (alike x i ∙ b.0))
        ]
        | inr b ↦ elim (a.results x) [
          | inl c ↦ absurd (b.0 (alike i x ∙ c.0))
          | inr c ↦ b.1 ∙ same i x ∙ sym c.1
        ]
      ]

      results : ((i x : I) → u.results i ≡ u.results x) ⊎ M fact.Gives
      results = elim f.results [
        | inr m ↦ inr m
        | inl same ↦ elim how [ inl m ↦ inr m | inr both ↦ inl (two both.0 both.1 same) ]
      ]
