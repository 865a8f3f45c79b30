-- Traces of facts, from the last one back.
use Rattle.std.proofs.Common.{◌≡◌, refl, sym, ◌∙◌, ℕ, ◌≤◌, true, List, [], ◌∷◌, arith}
use Rattle.shader_uniformity.specs.Cells.{cell, covers, moment}
use Rattle.shader_uniformity.specs.Marks.{leads, Marked, itself, by_rule, later}
use Rattle.shader_uniformity.specs.Traces.{IsTrace, MarksHaveTraces, TracesAreMarks}
use Rattle.shader_uniformity.specs.declared.facts.Fact.{Fact}
use Rattle.shader_uniformity.specs.declared.facts.Fact.TheVariants.{Holds}
use Rattle.shader_uniformity.specs.declared.facts.Place.{Place}
use Rattle.shader_uniformity.specs.declared.facts.Place.TheVariants as place
use Rattle.shader_uniformity.specs.declared.facts.Rule.{Rule}
use Rattle.shader_uniformity.proofs.KnownLemmas.{nowhere}
use Rattle.shader_uniformity.proofs.ReachLemmas as reach

-- a mark of a mark is one
marked_on : (rules : List Rule) (x y z : Fact) → Marked rules x y → Marked rules y z → Marked rules x z
marked_on rules x y _ m itself = m
marked_on rules x y _ m (by_rule {cause = cause} within n) = by_rule within (marked_on rules x y cause m n)
marked_on rules x y _ m (later {place = p} {moment = s} next le n) = later next le (marked_on rules x y (Holds p s) m n)

-- so is one without rules
marked_more : (rules : List Rule) (x y : Fact) → Marked [] x y → Marked rules x y
marked_more rules x _ itself = itself
marked_more rules x _ (by_rule {cause = cause} {effect = effect} within n) = absurd (nowhere (leads cause effect) within)
marked_more rules x _ (later {place = p} {moment = s} next le n) = later next le (marked_more rules x (Holds p s) n)

pub traces_mark : TracesAreMarks
traces_mark rules [] last first t = marked_more rules first last t
traces_mark rules (rule ∷ trace) last first t =
    marked_on rules first rule.effect last (by_rule t.0 (traces_mark rules trace rule.cause first t.2))
    (marked_more rules rule.effect last t.1)

-- what a fact covers
pub covers_by : (x y : Fact) → cell x ≡ cell y → moment x ≤ moment y → covers x y ≡ true
covers_by x y e le = grind (arith, e, le)

pub covers_cell : (x y : Fact) → covers x y ≡ true → cell x ≡ cell y
covers_cell x y h = grind (arith, h)

pub covers_moment : (x y : Fact) → covers x y ≡ true → moment x ≤ moment y
covers_moment x y h = grind (arith, h)

in_place : (p : Place) (s t : ℕ) → cell (Holds p s) ≡ cell (Holds p t)
in_place (place.Local i) s t = refl
in_place (place.Pointee i) s t = refl
in_place place.Shared s t = refl
in_place place.Fixed s t = refl

covers_later : (x : Fact) (p : Place) (s t : ℕ) → s ≤ t → covers x (Holds p s) ≡ true → covers x (Holds p t) ≡ true
covers_later x p s t le h =
    let before = covers_moment x (Holds p s) h in
    covers_by x (Holds p t) (covers_cell x (Holds p s) h ∙ in_place p s t) (omega (arith, before))

-- it covers what follows from it without rules,
pub covers_marked : (x y : Fact) → Marked [] x y → covers x y ≡ true
covers_marked x _ itself = covers_by x x refl (omega arith)
covers_marked x _ (by_rule {cause = cause} {effect = effect} within m) = absurd (nowhere (leads cause effect) within)
covers_marked x _ (later {place = p} {moment = s} next le m) = covers_later x p s next le (covers_marked x (Holds p s) m)

-- and what it covers follows so
pub marked_covered : (x y : Fact) → covers x y ≡ true → Marked [] x y
marked_covered x y h = reach.covers [] x y x (sym (covers_cell x y h)) (covers_moment x y h) itself

-- what follows has a trace
trace_later : (rules trace : List Rule) (first : Fact) (p : Place) (s t : ℕ) → s ≤ t → IsTrace rules (Holds p s) trace first →
    IsTrace rules (Holds p t) trace first
trace_later rules [] first p s t le h = later t le h
trace_later rules (rule ∷ trace) first p s t le h = (h.0, later t le h.1, h.2)

has_trace : (rules : List Rule) (first last : Fact) → Marked rules first last → (trace : List Rule) × IsTrace rules last trace first
has_trace rules first _ itself = ([], itself)
has_trace rules first _ (by_rule {cause = cause} {effect = effect} within m) =
    let rest = has_trace rules first cause m in
    (leads cause effect ∷ rest.0, (within, itself, rest.1))
has_trace rules first _ (later {place = p} {moment = s} next le m) =
    let rest = has_trace rules first (Holds p s) m in
    (rest.0, trace_later rules rest.0 first p s next le rest.1)

pub marks_have_traces : MarksHaveTraces
marks_have_traces rules last first m = has_trace rules first last m
