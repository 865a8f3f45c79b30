-- A search for a shortest trace leads back to the last fact, and has found all that follows.
use Rattle.std.proofs.Common.{◌≡◌, refl, sym, ◌∙◌, ap, subst, ℕ, ◌+◌, ◌<◌, ◌≤◌, ◌⊎◌, inl, inr, true}
use Rattle.std.proofs.Common.{List, [], ◌∷◌, ◌++◌, Option, Some, None, arith, length, get_or, slice_get}
use Rattle.std.proofs.Common.{reverse, sum_by}
use Rattle.std.proofs.lemmas.Bool.{cases_lt, false≢true}
use Rattle.std.proofs.lemmas.List.{reverse-append}
use Rattle.std.proofs.lemmas.List.Elements.{All-contains}
use Rattle.std.proofs.lemmas.List.Sums.{sum_by-cons}
use Rattle.std.proofs.lemmas.Option.{same_Some, slice_get-get_or}
use Rattle.std.proofs.lemmas.Option.{slice_get_read, slice_get_within}
use Rattle.std.specs.Global.{Vec}
use Rattle.std.specs.List.{All, Contains}
use Rattle.shader_uniformity.specs.Cells.{covers}
use Rattle.shader_uniformity.specs.Costs.{cost}
use Rattle.shader_uniformity.specs.Marks.{Marked}
use Rattle.shader_uniformity.specs.Traces.{IsShortest, IsTrace}
use Rattle.shader_uniformity.specs.Ways.{AreBackward, IsExpanded, IsFound}
use Rattle.shader_uniformity.specs.Ways.{IsReached, IsReachedBy, IsSearch, IsStep, LeadsBack, MeetsBelow}
use Rattle.shader_uniformity.specs.declared.facts.Fact.{Fact}
use Rattle.shader_uniformity.specs.declared.facts.Rule.{Rule}
use Rattle.shader_uniformity.specs.declared.ways.Need.{Need}
use Rattle.shader_uniformity.specs.declared.ways.Step.{Step}
use Rattle.shader_uniformity.proofs.KnownLemmas.{nowhere}
use Rattle.shader_uniformity.proofs.TraceLemmas.{covers_marked, marked_covered}
use Rattle.shader_uniformity.proofs.TraceLemmas.{marks_have_traces}
use Rattle.shader_uniformity.proofs.NeedLemmas.{contains_at, place_of}

-- the trace so far leads from the need at `place` back to the one at `index`
pub record IsTail (needs : List Need) (index place : ℕ) (trace : List Rule) : Type 0 where
  pub tail : (rules : List Rule) (first last : Fact) (need now : Need) → All (IsReached rules last needs) needs →
      slice_get needs index ≡ Some need → slice_get needs place ≡ Some now → Marked [] first need.fact →
      IsTrace rules now.fact (reverse trace) first × (now.cost + sum_by cost (reverse trace) ≡ need.cost)

pub tail_begins : (needs : List Need) (index : ℕ) (trace : List Rule) → trace ≡ [] → IsTail needs index index trace
tail_begins needs index trace none = record {
  tail = λ rules first last need now reached at here m.
      let same : need ≡ now = same_Some need now (sym at ∙ here) in
      let P : List Rule → Type 0 = λ xs. IsTrace rules now.fact (reverse xs) first × (now.cost + sum_by cost (reverse xs) ≡ need.cost) in
      let Q : Need → Type 0 = λ n. Marked [] first n.fact × (n.cost + 0 ≡ need.cost) in
      subst P (sym none) (subst Q same (m, omega arith));
}

-- the step of a need that is reached
step_of : (rules : List Rule) (last : Fact) (needs : List Need) (now : Need) (step : Step) → now.by ≡ Some step →
    IsReached rules last needs now → IsStep rules needs now step
step_of rules last needs now step e h =
    let P : Option Step → Type 0 = λ by. IsReachedBy rules last needs now by in
    subst P e h

tail_more : (needs : List Need) (index place : ℕ) (trace more : List Rule) (now : Need) (step : Step) → slice_get needs place ≡ Some now →
    now.by ≡ Some step → more ≡ trace ++ step.rule ∷ [] → IsTail needs index place trace → IsTail needs index step.meets more
tail_more needs index place trace more now step here e is h = record {
  tail = λ rules first last need met reached at there m.
      let back : reverse more ≡ step.rule ∷ reverse trace =
      ap (λ (xs : List Rule). reverse xs) is ∙ reverse-append trace (step.rule ∷ []) in
      let P : List Rule → Type 0 = λ xs. IsTrace rules met.fact xs first × (met.cost + sum_by cost xs ≡ need.cost) in
      let by = step_of rules last needs now step e
      (All-contains (IsReached rules last needs) needs now reached (contains_at needs place now here)) in
      let same : by.met ≡ met = same_Some by.met met (sym by.is_met ∙ there) in
      let rest = h.tail rules first last need now reached at here m in
      let long = sum_by-cons cost step.rule (reverse trace) in
      let spent = by.spent in
      let total = rest.1 in
      let cheap : by.met.cost + sum_by cost (step.rule ∷ reverse trace) ≡ need.cost = omega (arith, long, spent, total) in
      let C : Need → Type 0 = λ n. n.cost + sum_by cost (step.rule ∷ reverse trace) ≡ need.cost in
      let M : Need → Type 0 = λ n. Marked [] step.rule.effect n.fact in
      subst P (sym back) (
        (
          by.is_rule,
          subst M same (marked_covered step.rule.effect by.met.fact by.covering),
          subst (λ (x : Fact). IsTrace rules x (reverse trace) first) by.cause rest.0,
        ),
        subst C same cheap,
      );
}

tail_ends : (needs : List Need) (index place : ℕ) (trace whole : List Rule) (now : Need) → slice_get needs place ≡ Some now →
    now.by ≡ None → whole ≡ reverse trace → IsTail needs index place trace → LeadsBack needs index whole
tail_ends needs index place trace whole now here none is h = record {
  leads = λ rules first last need reached at m.
      let R : Option Step → Type 0 = λ by. IsReachedBy rules last needs now by in
      let root = subst R none (All-contains (IsReached rules last needs) needs now reached (contains_at needs place now here)) in
      let rest = h.tail rules first last need now reached at here m in
      let P : List Rule → Type 0 = λ xs. IsTrace rules last xs first × (sum_by cost xs ≡ need.cost) in
      let free = root.1 in
      let total = rest.1 in
      subst P (sym is) (subst (λ (x : Fact). IsTrace rules x (reverse trace) first) root.0 rest.0, omega (arith, free, total));
}

-- what is read at a place
module _ (needs : List Need) (place : ℕ) (d : Need) (inside : place < length needs) where
  here_at : slice_get needs place ≡ Some (get_or needs place d)
  here_at = slice_get-get_or needs place d inside

  pub meets_earlier : (step : Step) → AreBackward needs → (get_or needs place d).by ≡ Some step → step.meets < place
  meets_earlier step h e = subst (MeetsBelow place) e (h place (get_or needs place d) here_at)

  pub tail_step : (index : ℕ) (trace more : List Rule) (step : Step) → (get_or needs place d).by ≡ Some step →
      more ≡ trace ++ step.rule ∷ [] → IsTail needs index place trace → IsTail needs index step.meets more
  tail_step index trace more step e is h = tail_more needs index place trace more (get_or needs place d) step here_at e is h

  pub tail_stops : (index : ℕ) (trace whole : List Rule) → (get_or needs place d).by ≡ None → whole ≡ reverse trace →
      IsTail needs index place trace → LeadsBack needs index whole
  tail_stops index trace whole none is h = tail_ends needs index place trace whole (get_or needs place d) here_at none is h

pub read_at : (slice needs : List Need) (index : ℕ) (need : Need) → slice ≡ needs → index < length slice →
    need ≡ get_or slice index need → slice_get needs index ≡ Some need
read_at slice needs index need e lt is =
    let P : List Need → Type 0 = λ xs. slice_get xs index ≡ Some need in
    subst P e (slice_get_read slice (length slice) index need refl lt is)

-- a trace from a fact that is needed costs no less than what isn't expanded
module _ (rules : List Rule) (first : Fact) (needs next : List Need) (least : ℕ)
    (settled : (need : Need) → IsFound needs next need → (least ≤ need.cost) ⊎ IsExpanded rules first needs next need) where
  bounded : (trace : List Rule) (need : Need) → IsFound needs next need → IsTrace rules need.fact trace first →
      least ≤ need.cost + sum_by cost trace
  bounded [] need found t = elim (settled need found) [
    | inl le ↦ omega arith
    | inr e ↦ absurd (false≢true (sym e.is_later ∙ covers_marked first need.fact t))
  ]
  bounded (rule ∷ trace) need found t = elim (settled need found) [
    | inl le ↦ omega arith
    | inr e ↦
        let by = e.expanded rule t.0 (covers_marked rule.effect need.fact t.1) in
        let rest = bounded trace by.0 by.1 (subst (λ (x : Fact). IsTrace rules x trace first) (sym by.2) t.2) in
        let long = sum_by-cons cost rule trace in
        let cheap = by.3 in
        omega (arith, rest, long, cheap)
  ]

-- a search that is at its end, and one that has come to the first fact
module _ (rules : List Rule) (first last : Fact) (cells : List (Vec Rule)) (index spent : ℕ) (needs next : List Need) (found : List ℕ)
    (h : IsSearch rules first last cells index spent needs next found) where
  pub nothing_follows : length needs ≤ index → next ≡ [] → Marked rules first last → ⊥
  nothing_follows le none m =
      let way = marks_have_traces rules last first m in
      let root = h.begun in
      let least = sum_by cost way.0 + 1 in
      let all : (need : Need) → IsFound needs next need → (least ≤ need.cost) ⊎ IsExpanded rules first needs next need = λ need f. elim f [
        | inl at ↦
            let place = place_of needs need at in
            let inside = slice_get_within needs place.0 need place.1 in
            inr (h.expanded place.0 need (omega (arith, inside, le)) place.1)
        | inr at ↦ absurd (nowhere need (subst (λ (xs : List Need). Contains xs need) none at))
      ] in
      let bound = bounded rules first needs next least all way.0 root.0 (inl (contains_at needs 0 root.0 root.1))
      (subst (λ (x : Fact). IsTrace rules x way.0 first) (sym root.2) way.1) in
      let free = root.3 in
      absurd (omega (arith, bound, free))

  nothing_is_shorter : (other : List Rule) → IsTrace rules last other first → spent ≤ sum_by cost other
  nothing_is_shorter other t =
      let root = h.begun in
      let all : (need : Need) → IsFound needs next need → (spent ≤ need.cost) ⊎ IsExpanded rules first needs next need = λ need f. elim f [
        | inl at ↦
            let place = place_of needs need at in
            elim (cases_lt place.0 index) [
              | inl lt ↦ inr (h.expanded place.0 need lt place.1)
              | inr le ↦ let same = h.costs place.0 need le place.1 in inl (omega (arith, same))
            ]
        | inr at ↦ let more = All-contains (λ (n : Need). n.cost ≡ spent + 1) next need h.costs_next at in inl (omega (arith, more))
      ] in
      let bound = bounded rules first needs next spent all other root.0 (inl (contains_at needs 0 root.0 root.1))
      (subst (λ (x : Fact). IsTrace rules x other first) (sym root.2) t) in
      let free = root.3 in
      omega (arith, bound, free)

  pub is_shortest : (need : Need) (trace : List Rule) → slice_get needs index ≡ Some need → covers first need.fact ≡ true →
      LeadsBack needs index trace → IsTrace rules last trace first × IsShortest rules first last trace
  is_shortest need trace at c back =
      let led = back.leads rules first last need h.reached at (marked_covered first need.fact c) in
      let same = h.costs index need (omega arith) at in
      let total = led.1 in
      (led.0, λ other t. let least = nothing_is_shorter other t in omega (arith, same, total, least))
