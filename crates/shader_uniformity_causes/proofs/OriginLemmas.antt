-- Rules are the same if their facts have the same cells and moments.
use Rattle.std.proofs.Common.{◌≡◌, refl, sym, ◌∙◌, ap, subst, ℕ, Bool, true, false, ◌&&◌, ◌==◌, [], arith}
use Rattle.std.proofs.lemmas.Bool.{eq-eqb, eqb-true}
use Rattle.shader_uniformity.proofs.KnownLemmas.{nowhere}
use Rattle.shader_uniformity.proofs.TraceLemmas.{covers_by, covers_marked, covers_moment, marked_covered}
use Rattle.shader_uniformity.specs.Cells.{cell, moment}
use Rattle.shader_uniformity.specs.Marks.{leads, Marked, itself, by_rule, later}
use Rattle.shader_uniformity.specs.declared.facts.Fact.{Fact}
use Rattle.shader_uniformity.specs.declared.facts.Fact.TheVariants.{Holds}
use Rattle.shader_uniformity.specs.declared.facts.Rule.{Rule}
use Rattle.shader_uniformity_causes.specs.Origins.{is_same_fact, is_same_rule, SameAreEqual}

-- what follows without rules at the same moment is the same fact
same_marked : (first x : Fact) → Marked [] first x → moment x ≡ moment first → x ≡ first
same_marked first _ itself e = refl
same_marked first _ (by_rule {cause = cause} {effect = effect} within m) e = absurd (nowhere (leads cause effect) within)
same_marked first _ (later {place = p} {moment = s} next le m) e =
    let from = covers_moment first (Holds p s) (covers_marked first (Holds p s) m) in
    let is : s ≡ next = omega (arith, from, e, le) in
    let at : s ≡ moment first = omega (arith, from, e, le) in
    sym (ap (λ (t : ℕ). Holds p t) is) ∙ same_marked first (Holds p s) m at

same_cell : (x y : Fact) → cell x ≡ cell y → moment x ≡ moment y → x ≡ y
same_cell x y e t = same_marked y x (marked_covered y x (covers_by y x (sym e) (omega (arith, t)))) t

and_left : (a b : Bool) → a && b ≡ true → a ≡ true
and_left true b h = refl
and_left false b h = h

and_right : (a b : Bool) → a && b ≡ true → b ≡ true
and_right true b h = h
and_right false b h = cc

both : (a b : Bool) → a ≡ true → b ≡ true → a && b ≡ true
both a b h k = ap (λ (v : Bool). v && b) h ∙ k

same_fact : (x y : Fact) → is_same_fact x y ≡ true → x ≡ y
same_fact x y h =
    same_cell x y (eqb-true (cell x) (cell y) (and_left (cell x == cell y) (moment x == moment y) h))
    (eqb-true (moment x) (moment y) (and_right (cell x == cell y) (moment x == moment y) h))

equal_fact : (x : Fact) → is_same_fact x x ≡ true
equal_fact x = both (cell x == cell x) (moment x == moment x) (eq-eqb (cell x) (cell x) refl) (eq-eqb (moment x) (moment x) refl)

pub same_are_equal : SameAreEqual
same_are_equal rule other = (only, too)
  where
    only : is_same_rule rule other ≡ true → rule ≡ other
    only h =
        let causes = same_fact rule.cause other.cause
        (and_left (is_same_fact rule.cause other.cause) (is_same_fact rule.effect other.effect) h) in
        let effects = same_fact rule.effect other.effect
        (and_right (is_same_fact rule.cause other.cause) (is_same_fact rule.effect other.effect) h) in
        ap (λ (v : Fact). leads v rule.effect) causes ∙ ap (λ (v : Fact). leads other.cause v) effects

    too : rule ≡ other → is_same_rule rule other ≡ true
    too e =
        let P : Rule → Type 0 = λ v. is_same_rule rule v ≡ true in
        subst P e (both (is_same_fact rule.cause rule.cause) (is_same_fact rule.effect rule.effect) (equal_fact rule.cause)
        (equal_fact rule.effect))
