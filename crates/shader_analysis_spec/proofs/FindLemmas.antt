-- The recursion detects a bad statement exactly if there is a disrupted one.
use Rattle.std.proofs.Common.{refl, ℕ, Bool, true, false, ◌&&◌, ◌||◌, inl, inr, IsTrue}
use Rattle.std.proofs.lemmas.Bool.{or_cases, or_left, or_right}
use Rattle.shader_analysis_spec.specs.Program.{Step, Leaf, Nested, If, Switch, Loop, Body, End, Then, Cases, NoCase, Case}
use Rattle.shader_analysis_spec.specs.Flow.{At, start, rest, inside, Child, inner, accept, reject}
use Rattle.shader_analysis_spec.specs.Flow.{body, continuing, case_of, CasesIn, from_first, after}
use Rattle.shader_analysis_spec.proofs.Flags.{step_exits, block_exits, case_flag, child_flag, flag, found, found_within, found_in_cases}
use Rattle.shader_analysis_spec.proofs.Flags.{FlagsFindStatements}
use Rattle.shader_analysis_spec.proofs.PassLemmas.{flags_are_least}

and_both : (a b : Bool) → IsTrue (a && b) → IsTrue a × IsTrue b
and_both true b h = (refl, h)
and_both false b h = absurd (cc)

and_join : (a b : Bool) → IsTrue a → IsTrue b → IsTrue (a && b)
and_join true b h g = g
and_join false b h g = absurd (cc)

module _ (varies is_killing : ℕ → Bool) (bad : Step → Bool) (root : Body) where
  abbrev F : {b : Body} → At root b → Bool
  F p = flag varies is_killing p

  abbrev fd : Bool → Body → Bool
  fd = found varies is_killing bad

  abbrev fw : Bool → Step → Bool
  fw = found_within varies is_killing bad

  abbrev fc : Bool → Bool → Cases → Bool
  fc = found_in_cases varies is_killing bad

  abbrev cf : {all cs : Cases} → Bool → CasesIn all cs → Bool
  cf = case_flag varies is_killing

  abbrev Bad : Type 0
  Bad = (s : Step) × (b : Body) × (p : At root (Then s b)) × IsTrue (bad s) × IsTrue (F p)

  mutual
    down : (b : Body) (p : At root b) → IsTrue (fd (F p) b) → Bad
    down End p h = absurd (cc)
    down (Then s b) p h = elim (or_cases (F p && bad s) (fw (F p) s || fd (F p || step_exits varies is_killing (F p) s) b) h) [
      | inl g ↦ let (f, is) = and_both (F p) (bad s) g in (s, b, p, is, f)
      | inr g ↦ elim (or_cases (fw (F p) s) (fd (F p || step_exits varies is_killing (F p) s) b) g) [
        | inl i ↦ down_within s b p i
        | inr i ↦ down b (rest p) i
      ]
    ]

    down_within : (s : Step) (b : Body) (p : At root (Then s b)) → IsTrue (fw (F p) s) → Bad
    down_within (Leaf simple) b p h = absurd (cc)
    down_within (Nested x) b p h = down x (inside p inner) h
    down_within (If c x y) b p h = elim (or_cases (fd (F p || varies c) x) (fd (F p || varies c) y) h) [
      | inl g ↦ down x (inside p accept) g
      | inr g ↦ down y (inside p reject) g
    ]
    down_within (Loop x y k) b p h = elim (or_cases (fd (F p) x) (fd (F p || block_exits varies is_killing (F p) x) y) h) [
      | inl g ↦ down x (inside p body) g
      | inr g ↦ down y (inside p continuing) g
    ]
    down_within (Switch e cs) b p h = down_cases cs e cs b p from_first h

    down_cases : (cs : Cases) (e : ℕ) (all : Cases) (b : Body) (p : At root (Then (Switch e all) b)) (k : CasesIn all cs) →
        IsTrue (fc (F p || varies e) (cf (F p || varies e) k) cs) → Bad
    down_cases NoCase e all b p k h = absurd (cc)
    down_cases (Case t x fall cs) e all b p k h =
        elim (or_cases (fd (cf (F p || varies e) k) x) (fc (F p || varies e) (cf (F p || varies e) (after k)) cs) h) [
          | inl g ↦ down x (inside p (case_of k)) g
          | inr g ↦ down_cases cs e all b p (after k) g
        ]

  up_cases : (d : Bool) (all cs : Cases) (k : CasesIn all cs) → IsTrue (fc d (cf d k) cs) → IsTrue (fc d d all)
  up_cases d all _ from_first h = h
  up_cases d all cs (after {v = t} {x = x} {fall = fall} k) h = up_cases d all (Case t x fall cs) k (or_right (fd (cf d k) x) _ h)

  up_child : (d : Bool) (s : Step) (x : Body) (child : Child s x) → IsTrue (fd (child_flag varies is_killing d child) x) → IsTrue (fw d s)
  up_child d _ x inner h = h
  up_child d _ x (accept {c = c} {y = y}) h = or_left (fd (d || varies c) x) (fd (d || varies c) y) h
  up_child d _ y (reject {c = c} {x = x}) h = or_right (fd (d || varies c) x) (fd (d || varies c) y) h
  up_child d _ x (body {y = y}) h = or_left (fd d x) (fd (d || block_exits varies is_killing d x) y) h
  up_child d _ y (continuing {x = x}) h = or_right (fd d x) (fd (d || block_exits varies is_killing d x) y) h
  up_child d _ x (case_of {e = e} {all = all} {v = t} {fall = fall} {cs = cs} k) h =
      up_cases (d || varies e) all (Case t x fall cs) k (or_left (fd (cf (d || varies e) k) x) _ h)

  up : (b : Body) (p : At root b) → IsTrue (fd (F p) b) → IsTrue (fd false root)
  up _ start h = h
  up _ (rest {s = s} {b = b} p) h = up (Then s b) p (or_right (F p && bad s) _ (or_right (fw (F p) s) _ h))
  up _ (inside {s = s} {b = b} {x = x} p child) h = up (Then s b) p
      (or_right (F p && bad s) _ (or_left (fw (F p) s) _ (up_child (F p) s x child h)))

pub flags_find_statements : FlagsFindStatements
flags_find_statements varies is_killing bad root = (
  λ h. let (s, b, p, is, f) = down varies is_killing bad root root start h in
      (s, b, p, is, ((flags_are_least varies is_killing root).0 _ p).0 f),
  λ (s, b, p, is, d). up varies is_killing bad root (Then s b) p
      (or_left _ _ (and_join _ _ (((flags_are_least varies is_killing root).0 _ p).1 d) is)),
)
