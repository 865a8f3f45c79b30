-- Facts with which calls of functions may begin.
use Rattle.std.proofs.Common.{◌≡◌, refl, sym, ◌∙◌, ap, subst, ℕ, zero, suc, ◌<◌, ◌≤◌, ◌==◌, inl, inr, Bool, true, false, List, [], ◌∷◌}
use Rattle.std.proofs.Common.{◌++◌, Option, arith, append_assoc, if◌then◌else◌, length, slice_index_or, slice_set}
use Rattle.std.proofs.lemmas.Bool.{cases_eq, eq-eqb, eqb-true}
use Rattle.std.proofs.lemmas.Grind.{flat_map-append}
use Rattle.std.proofs.lemmas.List.{append-nil}
use Rattle.std.specs.Global.{Vec}
use Rattle.std.specs.List.{Contains, flat_map}
use Rattle.shader_uniformity.proofs.KnownLemmas.{nowhere}
use Rattle.shader_uniformity.specs.declared.facts.Fact.{Fact}
use Rattle.shader_uniformity_needs.specs.Notes.{begun_at, fact_for, passed_to, Notes}
use Rattle.shader_uniformity_needs.specs.declared.needs.Pass.{Pass}

abbrev pub AreEmpty : List (Vec Fact) → Type 0
AreEmpty begun = (i : ℕ) → begun_at begun i ≡ []

pub none_more : (begun : List (Vec Fact)) (v : Vec Fact) → AreEmpty begun → v.items ≡ [] → AreEmpty (begun ++ v ∷ [])
none_more [] v h e zero = e
none_more [] v h e (suc i) = refl
none_more (x ∷ begun) v h e zero = h 0
none_more (x ∷ begun) v h e (suc i) = none_more begun v (λ p. h (suc p)) e i

-- a function has facts only if it is left
pub begun_within : (begun : List (Vec Fact)) (i : ℕ) (fact : Fact) → Contains (begun_at begun i) fact → i < length begun
begun_within [] i fact h = absurd (nowhere fact h)
begun_within (x ∷ begun) zero fact h = omega arith
begun_within (x ∷ begun) (suc i) fact h = let rest = begun_within begun i fact h in omega (arith, rest)

set_same : (begun : List (Vec Fact)) (i : ℕ) (v : Vec Fact) → i < length begun → begun_at (slice_set begun i v) i ≡ v.items
set_same [] i v within = absurd (omega arith)
set_same (x ∷ begun) zero v within = refl
set_same (x ∷ begun) (suc i) v within = set_same begun i v (omega arith)

set_other : (begun : List (Vec Fact)) (i other : ℕ) (v : Vec Fact) → (other ≡ i → ⊥) →
    begun_at (slice_set begun i v) other ≡ begun_at begun other
set_other [] i other v ne = refl
set_other (x ∷ begun) zero zero v ne = absurd (ne refl)
set_other (x ∷ begun) zero (suc other) v ne = refl
set_other (x ∷ begun) (suc i) zero v ne = refl
set_other (x ∷ begun) (suc i) (suc other) v ne = set_other begun i other v (λ e. ne (ap suc e))

read_at : (begun : List (Vec Fact)) (i : ℕ) (d : Vec Fact) → i < length begun → begun_at begun i ≡ (slice_index_or begun i d).items
read_at [] i d within = absurd (omega arith)
read_at (x ∷ begun) zero d within = refl
read_at (x ∷ begun) (suc i) d within = read_at begun i d (omega arith)

pub fact_same : (function i : ℕ) (fact : Fact) → function ≡ i → fact_for function i fact ≡ fact ∷ []
fact_same function i fact e = ap (λ (b : Bool). if b then fact ∷ [] else []) (eq-eqb function i e)

fact_other : (function i : ℕ) (fact : Fact) → (i ≡ function → ⊥) → fact_for function i fact ≡ []
fact_other function i fact ne = of (function == i) refl
  where
    of : (b : Bool) → function == i ≡ b → (if b then fact ∷ [] else []) ≡ []
    of true e = absurd (ne (sym (eqb-true function i e)))
    of false e = refl

-- the fact is noted of its function
pub noted_within : (begun : List (Vec Fact)) (function : ℕ) (fact : Fact) (old new : Vec Fact) → function < length begun →
    old ≡ slice_index_or begun function old → new.items ≡ old.items ++ fact ∷ [] → (i : ℕ) → i < length begun →
    begun_at (slice_set begun function new) i ≡ begun_at begun i ++ fact_for function i fact
noted_within begun function fact old new within is e i lt = elim (cases_eq i function) [
  | inl same ↦
      let P : ℕ → Type 0 = λ v. begun_at (slice_set begun function new) v ≡ begun_at begun v ++ fact_for function v fact in
      subst P (sym same) (set_same begun function new within ∙ e
      ∙ ap (λ (v : Vec Fact). v.items ++ fact ∷ []) is
      ∙ ap (λ (v : List Fact). v ++ fact ∷ []) (sym (read_at begun function old within))
      ∙ ap (λ (v : List Fact). begun_at begun function ++ v) (sym (fact_same function function fact refl)))
  | inr ne ↦
      set_other begun function i new ne ∙ sym (append-nil (begun_at begun i))
      ∙ ap (λ (v : List Fact). begun_at begun i ++ v) (sym (fact_other function i fact ne))
]

-- and of no function that isn't left
pub noted_outside : (begun : List (Vec Fact)) (function : ℕ) (fact : Fact) → length begun ≤ function → (i : ℕ) → i < length begun →
    begun_at begun i ≡ begun_at begun i ++ fact_for function i fact
noted_outside begun function fact le i lt =
    sym (append-nil (begun_at begun i))
    ∙ ap (λ (v : List Fact). begun_at begun i ++ v) (sym (fact_other function i fact (λ e. omega (arith, le, lt, e))))

module _ (table : List (Option ℕ)) where
  pub notes_none : (begun : List (Vec Fact)) → Notes table [] begun begun
  notes_none begun = record { long = refl; noted = λ i lt. sym (append-nil (begun_at begun i)) }

  pub notes_more : (passes : List Pass) (pass : Pass) (a b c : List (Vec Fact)) → Notes table passes a b →
      Notes table (pass ∷ []) b c → Notes table (passes ++ pass ∷ []) a c
  notes_more passes pass a b c first second = record {
    long = second.long ∙ first.long;
    noted = λ i lt.
        second.noted i (let long = first.long in omega (arith, long, lt))
        ∙ ap (λ (v : List Fact). v ++ flat_map (passed_to table i) (pass ∷ [])) (first.noted i lt)
        ∙ append_assoc (begun_at a i) (flat_map (passed_to table i) passes) (flat_map (passed_to table i) (pass ∷ []))
        ∙ ap (λ (v : List Fact). begun_at a i ++ v) (sym (flat_map-append (passed_to table i) passes (pass ∷ [])));
  }

  -- of one pass
  pub notes_one : (pass : Pass) (a b : List (Vec Fact)) → length b ≡ length a →
      ((i : ℕ) → i < length a → begun_at b i ≡ begun_at a i ++ passed_to table i pass) → Notes table (pass ∷ []) a b
  notes_one pass a b long h = record {
    long = long;
    noted = λ i lt. h i lt ∙ ap (λ (v : List Fact). begun_at a i ++ v) (sym (append-nil (passed_to table i pass)));
  }
