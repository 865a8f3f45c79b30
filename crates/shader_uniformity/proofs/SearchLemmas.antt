-- A search for a shortest trace keeps what it has found.
use Rattle.std.proofs.Common.{◌≡◌, refl, sym, ◌∙◌, ap, subst, ℕ, zero, suc, ◌+◌, ◌-◌, ◌<◌, ◌≤◌, ◌⊎◌, inl, inr, true, false}
use Rattle.std.proofs.Common.{List, [], ◌∷◌, ◌++◌, Option, Some, None, arith, length, take, drop, slice_get, slice_index}
use Rattle.std.proofs.Common.{slice_index_or, slice_set, replicate, max, length-append}
use Rattle.std.proofs.Common.{append-nil}
use Rattle.std.proofs.lemmas.Bool.{cases_eq, cases_lt}
use Rattle.std.proofs.lemmas.List.{drop-drop, drop_all, get_or-drop, get_or-replicate, get_or-set_other, get_or-set_same}
use Rattle.std.proofs.lemmas.List.{get_or-take, get_or_past, length-drop, length-replicate, length-set, length-take}
use Rattle.std.proofs.lemmas.List.{length-take-le, take-append-drop}
use Rattle.std.proofs.lemmas.List.Elements.{All-append, All-cons, All-contains, All-nil}
use Rattle.std.proofs.lemmas.List.Elements.{Contains-append_cases, Contains-append_left, Contains-append_right}
use Rattle.std.proofs.lemmas.Option.{none-some, same_Some, slice_get_past}
use Rattle.std.proofs.lemmas.Option.{slice_get_within}
use Rattle.std.specs.Global.{Vec}
use Rattle.std.specs.List.{All, Contains}
use Rattle.shader_uniformity.specs.Cells.{cell, covers, moment}
use Rattle.shader_uniformity.specs.Costs.{cost}
use Rattle.shader_uniformity.specs.Effects.{effect_moment, items_of, rules_in, IsIndex}
use Rattle.shader_uniformity.specs.Ways.{need_of, needs_next, needs_now, AreBackward, AreWithin, Begins, IsExpanded, IsFound, IsNeeded}
use Rattle.shader_uniformity.specs.Ways.{IsReached, IsReachedBy, IsSearch, MeetsBelow, Searches}
use Rattle.shader_uniformity.specs.declared.facts.Fact.{Fact}
use Rattle.shader_uniformity.specs.declared.facts.Rule.{Rule}
use Rattle.shader_uniformity.specs.declared.ways.Need.{Need}
use Rattle.shader_uniformity.specs.declared.ways.Search.{Search}
use Rattle.shader_uniformity.specs.declared.ways.Step.{Step}
use Rattle.shader_uniformity.proofs.TraceLemmas.{covers_by, covers_cell, covers_moment}
use Rattle.shader_uniformity.proofs.NeedLemmas.{all_reached_more, each_next, each_now, expanded_more, free_cost, get_kept, get_new}
use Rattle.shader_uniformity.proofs.NeedLemmas.{get_old, has_need, meets_below, needed_more, other_cost}

module _ (rules : List Rule) (first last : Fact) where
  -- a search that begins
  search_begins : (cells : List (Vec Rule)) (found : List ℕ) (root : Need) → IsIndex rules cells →
      found ≡ replicate (length cells) 0 → root.fact ≡ last → root.cost ≡ 0 → root.by ≡ None →
      IsSearch rules first last cells 0 0 (root ∷ []) [] found
  search_begins cells found root index e fact free none = record {
    is_index = index;
    within = (
      ap (λ (xs : List ℕ). length xs) e ∙ length-replicate {A = ℕ} (length cells) 0,
      λ place.
          let is = nothing place in omega (arith, is),
    );
    come = omega arith;
    begun = (root, refl, fact, free);
    reached = All-cons (IsReached rules last (root ∷ [])) root [] (reached_by root.by none) (All-nil (IsReached rules last (root ∷ [])));
    reached_next = All-nil (IsReached rules last (root ∷ []));
    backward = backward;
    costs = λ place need le at. costs place need at;
    costs_next = All-nil (λ (need : Need). need.cost ≡ 0 + 1);
    expanded = λ place need lt at. absurd (omega arith);
    pending = λ rule within.
        let P : ℕ → Type 0 = λ n. Contains (drop n (rules_in cells (cell rule.effect))) rule in
        inr (subst P (sym (nothing (cell rule.effect))) (index.complete rule within));
  }
    where
      nothing : (place : ℕ) → slice_index found place ≡ 0
      nothing place = ap (λ (xs : List ℕ). slice_index xs place) e ∙ zeros (length cells) place
        where
          zeros : (n place : ℕ) → slice_index (replicate n 0) place ≡ 0
          zeros n place = elim (cases_lt place n) [
            | inl lt ↦ get_or-replicate n place 0 0 lt
            | inr le ↦ let long = length-replicate {A = ℕ} n 0 in get_or_past (replicate n 0) place 0 (omega (arith, long))
          ]

      reached_by : (by : Option Step) → by ≡ None → IsReachedBy rules last (root ∷ []) root by
      reached_by None h = (fact, free)
      reached_by (Some step) h = absurd (none-some step (sym h))

      backward : AreBackward (root ∷ [])
      backward zero need at = subst (λ (x : Need). MeetsBelow 0 x.by) (same_Some root need at) (subst (MeetsBelow 0) (sym none) tt)
      backward (suc place) need at = absurd (none-some need at)

      costs : (place : ℕ) (need : Need) → slice_get (root ∷ []) place ≡ Some need → need.cost ≡ 0
      costs zero need at = subst (λ (x : Need). x.cost ≡ 0) (same_Some root need at) free
      costs (suc place) need at = absurd (none-some need at)

  -- a search that goes on to the next cost
  search_goes_on : (cells : List (Vec Rule)) (index spent : ℕ) (needs next : List Need) (found : List ℕ) → length needs ≤ index →
      IsSearch rules first last cells index spent needs next found →
      IsSearch rules first last cells index (spent + 1) (needs ++ next) [] found
  search_goes_on cells index spent needs next found le h = record {
    is_index = h.is_index;
    within = h.within;
    come = let long = length-append needs next in let come = h.come in omega (arith, long, come);
    begun = (h.begun.0, get_kept needs next 0 h.begun.0 h.begun.1, h.begun.2, h.begun.3);
    reached = All-append (IsReached rules last (needs ++ next)) needs next
        (all_reached_more rules last needs next needs h.reached) (all_reached_more rules last needs next next h.reached_next);
    reached_next = All-nil (IsReached rules last (needs ++ next));
    backward = backward;
    costs = λ place need from at.
        All-contains (λ (x : Need). x.cost ≡ spent + 1) next need h.costs_next (get_new needs next place need (omega arith) at);
    costs_next = All-nil (λ (need : Need). need.cost ≡ (spent + 1) + 1);
    expanded = λ place need lt at.
        let come = h.come in
        expanded_more needs next (needs ++ next) [] grows rules first need
        (h.expanded place need lt (get_old needs next place need (omega (arith, come, lt)) at));
    pending = λ rule within. elim (h.pending rule within) [
      | inl n ↦
          let le : spent + cost rule ≤ (spent + 1) + cost rule = omega arith in
          inl (needed_more needs next (needs ++ next) [] grows rule.cause (spent + cost rule) ((spent + 1) + cost rule) le n)
      | inr left ↦ inr left
    ];
  }
    where
      grows : (need : Need) → IsFound needs next need → IsFound (needs ++ next) [] need
      grows need f = elim f [
        | inl now ↦ inl (Contains-append_left needs next need now)
        | inr later ↦ inl (Contains-append_right needs next need later)
      ]

      backward : AreBackward (needs ++ next)
      backward place need at = elim (cases_lt place (length needs)) [
        | inl lt ↦ h.backward place need (get_old needs next place need lt at)
        | inr past ↦ meets_below rules last needs need place past
            (All-contains (IsReached rules last needs) next need h.reached_next (get_new needs next place need past at))
      ]

  search_at : (cells : List (Vec Rule)) (index spent spent' : ℕ) (needs needs' next next' : List Need) (found : List ℕ) →
      spent' ≡ spent → needs' ≡ needs → next' ≡ next → IsSearch rules first last cells index spent needs next found →
      IsSearch rules first last cells index spent' needs' next' found
  search_at cells index spent spent' needs needs' next next' found a b c h =
      let P : ℕ → Type 0 = λ v. IsSearch rules first last cells index v needs next found in
      let Q : List Need → Type 0 = λ v. IsSearch rules first last cells index spent' v next found in
      let R : List Need → Type 0 = λ v. IsSearch rules first last cells index spent' needs' v found in
      subst R (sym c) (subst Q (sym b) (subst P (sym a) h))

  pub begins_by : (cells : List (Vec Rule)) (n : ℕ) (search : Search) → IsIndex rules cells → n ≡ length cells → Begins n last search →
      Searches rules first last cells 0 search
  begins_by cells n search index e h =
      let root : Need = record { fact = last; cost = 0; by = None } in
      search_at cells 0 0 search.cost (root ∷ []) search.needs.items [] search.next.items search.found.items h.cost h.needs h.next
      (search_begins cells search.found.items root index (h.found ∙ ap (λ (k : ℕ). replicate k 0) e) refl refl refl)

  pub goes_on_by : (cells : List (Vec Rule)) (index spent spent' : ℕ) (needs needs' next next' : List Need) (found : List ℕ) →
      length needs ≤ index → spent' ≡ spent + 1 → needs' ≡ needs ++ next → next' ≡ [] →
      IsSearch rules first last cells index spent needs next found → IsSearch rules first last cells index spent' needs' next' found
  goes_on_by cells index spent spent' needs needs' next next' found le a b c h =
      search_at cells index (spent + 1) spent' (needs ++ next) needs' [] next' found a b c
      (search_goes_on cells index spent needs next found le h)

  -- a search that expands a need: `part` has the rules that meet it and haven't come up, and those behind `end` don't meet it
  module _ (cells : List (Vec Rule)) (index spent end : ℕ) (needs next : List Need) (found found' : List ℕ) (part : List Rule) (need : Need)
      (h : IsSearch rules first last cells index spent needs next found) where
    abbrev at_cell : ℕ
    at_cell = cell need.fact

    abbrev now : List Need
    now = needs ++ needs_now index spent part

    abbrev soon : List Need
    soon = next ++ needs_next index spent part

    grown : (n : Need) → IsFound needs next n → IsFound now soon n
    grown n f = elim f [
      | inl a ↦ inl (Contains-append_left needs (needs_now index spent part) n a)
      | inr b ↦ inr (Contains-append_left next (needs_next index spent part) n b)
    ]

    needed_part : (rule : Rule) → Contains part rule → IsNeeded now soon rule.cause (spent + cost rule)
    needed_part rule c = (
      need_of index spent rule,
      elim (has_need index spent part rule c) [
        | inl a ↦ inl (Contains-append_right needs (needs_now index spent part) (need_of index spent rule) a)
        | inr b ↦ inr (Contains-append_right next (needs_next index spent part) (need_of index spent rule) b)
      ],
      refl,
      omega arith,
    )

    costs_soon : All (λ (n : Need). n.cost ≡ spent + 1) soon
    costs_soon = All-append (λ (n : Need). n.cost ≡ spent + 1) next (needs_next index spent part) h.costs_next
        (each_next index spent part (λ n. n.cost ≡ spent + 1) (λ rule c other. ap (λ (k : ℕ). spent + k) (other_cost rule other)))

    module _ (at : slice_get needs index ≡ Some need) (until : All (λ rule. effect_moment rule ≤ moment need.fact) part)
        (split : drop (slice_index found at_cell) (rules_in cells at_cell) ≡ part ++ drop end (rules_in cells at_cell)) where
      of_part : (rule : Rule) → Contains part rule → Contains rules rule × (covers rule.effect need.fact ≡ true)
      of_part rule c =
          let list = rules_in cells at_cell in
          let start = slice_index found at_cell in
          let left : Contains (drop start list) rule =
          subst (λ (xs : List Rule). Contains xs rule) (sym split) (Contains-append_left part (drop end list) rule c) in
          let whole : Contains list rule = subst (λ (xs : List Rule). Contains xs rule) (take-append-drop start list)
          (Contains-append_right (take start list) (drop start list) rule left) in
          let both = All-contains (λ (r : Rule). Contains rules r × (cell r.effect ≡ at_cell)) list rule (h.is_index.sound at_cell) whole in
          let early = All-contains (λ (r : Rule). effect_moment r ≤ moment need.fact) part rule until c in
          (both.0, covers_by rule.effect need.fact both.1 early)

      reached_now : (rule : Rule) → Contains part rule → IsReached rules last now (need_of index spent rule)
      reached_now rule c = record {
        met = need;
        is_met = get_kept needs (needs_now index spent part) index need at;
        is_rule = (of_part rule c).0;
        covering = (of_part rule c).1;
        cause = refl;
        spent = ap (λ (k : ℕ). k + cost rule) (sym (h.costs index need (omega arith) at));
      }

      all_reached : All (IsReached rules last now) now
      all_reached = All-append (IsReached rules last now) needs (needs_now index spent part)
          (all_reached_more rules last needs (needs_now index spent part) needs h.reached)
          (each_now index spent part (IsReached rules last now) (λ rule c free. reached_now rule c))

      all_reached_soon : All (IsReached rules last now) soon
      all_reached_soon = All-append (IsReached rules last now) next (needs_next index spent part)
          (all_reached_more rules last needs (needs_now index spent part) next h.reached_next)
          (each_next index spent part (IsReached rules last now) (λ rule c other. reached_now rule c))

      stays_backward : AreBackward now
      stays_backward place n e = elim (cases_lt place (length needs)) [
        | inl lt ↦ h.backward place n (get_old needs (needs_now index spent part) place n lt e)
        | inr past ↦
            let inside = slice_get_within needs index need at in
            All-contains (λ (x : Need). MeetsBelow place x.by) (needs_now index spent part) n
            (each_now index spent part (λ x. MeetsBelow place x.by) (λ rule c free. omega (arith, inside, past)))
            (get_new needs (needs_now index spent part) place n past e)
      ]

      costs_now : (place : ℕ) (n : Need) → index + 1 ≤ place → slice_get now place ≡ Some n → n.cost ≡ spent
      costs_now place n from e = elim (cases_lt place (length needs)) [
        | inl lt ↦ h.costs place n (omega arith) (get_old needs (needs_now index spent part) place n lt e)
        | inr past ↦ All-contains (λ (x : Need). x.cost ≡ spent) (needs_now index spent part) n
            (each_now index spent part (λ x. x.cost ≡ spent) (λ rule c free. let none = free_cost rule free in omega (arith, none)))
            (get_new needs (needs_now index spent part) place n past e)
      ]

      part_or_left : (rule : Rule) → cell rule.effect ≡ at_cell →
          Contains (drop (slice_index found (cell rule.effect)) (rules_in cells (cell rule.effect))) rule →
          Contains part rule ⊎ Contains (drop end (rules_in cells at_cell)) rule
      part_or_left rule same left =
          let P : ℕ → Type 0 = λ place. Contains (drop (slice_index found place) (rules_in cells place)) rule in
          Contains-append_cases part (drop end (rules_in cells at_cell)) rule
          (subst (λ (xs : List Rule). Contains xs rule) split (subst P same left))

      module _ (after : All (λ rule. moment need.fact < effect_moment rule) (drop end (rules_in cells at_cell)))
          (is_later : covers first need.fact ≡ false) where
        is_expanded : IsExpanded rules first now soon need
        is_expanded = record {
          is_later = is_later;
          expanded = λ rule within c.
              let free = h.costs index need (omega arith) at in
              let le : spent + cost rule ≤ need.cost + cost rule = omega (arith, free) in
              elim (h.pending rule within) [
                | inl n ↦ needed_more needs next now soon grown rule.cause (spent + cost rule) (need.cost + cost rule) le n
                | inr left ↦ elim (part_or_left rule (covers_cell rule.effect need.fact c) left) [
                  | inl k ↦
                      let same = λ (n : Need) (f : IsFound now soon n). f in
                      needed_more now soon now soon same rule.cause (spent + cost rule) (need.cost + cost rule) le (needed_part rule k)
                  | inr k ↦
                      let left = drop end (rules_in cells at_cell) in
                      let late = All-contains (λ (r : Rule). moment need.fact < effect_moment r) left rule after k in
                      let soon_enough = covers_moment rule.effect need.fact c in
                      absurd (omega (arith, late, soon_enough))
                ]
              ];
        }

        expanded_now : (place : ℕ) (n : Need) → place < index + 1 → slice_get now place ≡ Some n → IsExpanded rules first now soon n
        expanded_now place n lt e = elim (cases_lt place index) [
          | inl old ↦
              let inside = slice_get_within needs index need at in
              expanded_more needs next now soon grown rules first n
              (h.expanded place n old (get_old needs (needs_now index spent part) place n (omega (arith, inside, old)) e))
          | inr le ↦
              let same : index ≡ place = omega arith in
              let P : ℕ → Type 0 = λ k. slice_get now k ≡ Some need in
              let is : need ≡ n =
              same_Some need n (sym (subst P same (get_kept needs (needs_now index spent part) index need at)) ∙ e) in
              subst (λ (x : Need). IsExpanded rules first now soon x) is is_expanded
        ]

        module _ (same : slice_index found' at_cell ≡ end)
            (other : (place : ℕ) → (place ≡ at_cell → ⊥) → slice_index found' place ≡ slice_index found place) where
          pending_now : (rule : Rule) → Contains rules rule → IsNeeded now soon rule.cause (spent + cost rule)
              ⊎ Contains (drop (slice_index found' (cell rule.effect)) (rules_in cells (cell rule.effect))) rule
          pending_now rule within = elim (h.pending rule within) [
            | inl n ↦ inl (needed_more needs next now soon grown rule.cause (spent + cost rule) (spent + cost rule) (omega arith) n)
            | inr left ↦ elim (cases_eq (cell rule.effect) at_cell) [
              | inl e ↦ elim (part_or_left rule e left) [
                | inl k ↦ inl (needed_part rule k)
                | inr k ↦
                    let P : ℕ → Type 0 = λ n. Contains (drop n (rules_in cells at_cell)) rule in
                    let Q : ℕ → Type 0 = λ place. Contains (drop (slice_index found' place) (rules_in cells place)) rule in
                    inr (subst Q (sym e) (subst P (sym same) k))
              ]
              | inr ne ↦
                  let P : ℕ → Type 0 = λ n. Contains (drop n (rules_in cells (cell rule.effect))) rule in
                  inr (subst P (sym (other (cell rule.effect) ne)) left)
            ]
          ]

          pub search_expands : AreWithin cells found' → IsSearch rules first last cells (index + 1) spent now soon found'
          search_expands within = record {
            is_index = h.is_index;
            within = within;
            come =
                let inside = slice_get_within needs index need at in
                let long = length-append needs (needs_now index spent part) in
                omega (arith, inside, long);
            begun = (h.begun.0, get_kept needs (needs_now index spent part) 0 h.begun.0 h.begun.1, h.begun.2, h.begun.3);
            reached = all_reached;
            reached_next = all_reached_soon;
            backward = stays_backward;
            costs = costs_now;
            costs_next = costs_soon;
            expanded = expanded_now;
            pending = pending_now;
          }

-- the part of a cell's rules that a search expands
module _ (list : List Rule) (start count : ℕ) where
  abbrev far : ℕ
  far = max count start

  abbrev part_of : List Rule
  part_of = take (far - start) (drop start list)

  splits : drop start list ≡ part_of ++ drop far list
  splits =
      let whole = take-append-drop (far - start) (drop start list) in
      let P : ℕ → Type 0 = λ n. part_of ++ drop n list ≡ drop start list in
      let is : start + (far - start) ≡ far = omega arith in
      let both : part_of ++ drop (start + (far - start)) list ≡ drop start list =
      ap (λ (xs : List Rule). part_of ++ xs) (sym (drop-drop (far - start) start list)) ∙ whole in
      sym (subst P is both)

  module _ (latest : ℕ) (fits : count ≤ length list) (until : All (λ rule. effect_moment rule ≤ latest) (take count list))
      (after : All (λ rule. latest < effect_moment rule) (drop count list)) where
    part_until : All (λ rule. effect_moment rule ≤ latest) part_of
    part_until k d below =
        let long = length-take (far - start) (drop start list) in
        let front = length-take-le count list fits in
        let inside : k < far - start = omega (arith, long, below) in
        let at : slice_index_or part_of k d ≡ slice_index_or list (start + k) d =
        get_or-take (far - start) (drop start list) k d inside ∙ get_or-drop start list k d in
        let early : start + k < count = omega (arith, inside) in
        let there : slice_index_or (take count list) (start + k) d ≡ slice_index_or list (start + k) d =
        get_or-take count list (start + k) d early in
        let P : Rule → Type 0 = λ rule. effect_moment rule ≤ latest in
        subst P (there ∙ sym at) (until (start + k) d (omega (arith, front, early)))

    end_after : All (λ rule. latest < effect_moment rule) (drop far list)
    end_after k d below =
        let long = length-drop far list in
        let rest = length-drop count list in
        let is : count + ((far - count) + k) ≡ far + k = omega arith in
        let N : ℕ → Type 0 = λ n. slice_index_or (drop far list) k d ≡ slice_index_or list n d in
        let at : slice_index_or (drop far list) k d ≡ slice_index_or list (count + ((far - count) + k)) d =
        subst N (sym is) (get_or-drop far list k d) in
        let P : Rule → Type 0 = λ rule. latest < effect_moment rule in
        subst P (get_or-drop count list ((far - count) + k) d ∙ sym at)
        (after ((far - count) + k) d (omega (arith, long, rest, below)))

module _ (rules : List Rule) (first last : Fact) (cells : List (Vec Rule)) (index spent : ℕ) (needs next : List Need) (found : List ℕ)
    (need : Need) (h : IsSearch rules first last cells index spent needs next found) (at : slice_get needs index ≡ Some need)
    (is_later : covers first need.fact ≡ false) where
  abbrev cell_of : ℕ
  cell_of = cell need.fact

  -- a search that expands a need in a cell, up to the rules that are `count` there
  expands_in : (count : ℕ) → cell_of < length cells → count ≤ length (rules_in cells cell_of) →
      All (λ rule. effect_moment rule ≤ moment need.fact) (take count (rules_in cells cell_of)) →
      All (λ rule. moment need.fact < effect_moment rule) (drop count (rules_in cells cell_of)) →
      IsSearch rules first last cells (index + 1) spent
      (needs ++ needs_now index spent (part_of (rules_in cells cell_of) (slice_index found cell_of) count))
      (next ++ needs_next index spent (part_of (rules_in cells cell_of) (slice_index found cell_of) count))
      (slice_set found cell_of (max count (slice_index found cell_of)))
  expands_in count inside fits until after =
      let list = rules_in cells cell_of in
      let start = slice_index found cell_of in
      let end : ℕ = max count start in
      let long = h.within.0 in
      let wide : cell_of < length found = omega (arith, long, inside) in
      let bound = h.within.1 cell_of in
      let same : slice_index (slice_set found cell_of end) cell_of ≡ end = get_or-set_same found cell_of end 0 wide in
      let other : (place : ℕ) → (place ≡ cell_of → ⊥) → slice_index (slice_set found cell_of end) place ≡ slice_index found place =
      λ place ne. get_or-set_other found cell_of place end 0 ne in
      search_expands rules first last cells index spent end needs next found (slice_set found cell_of end)
      (part_of list start count) need h at (part_until list start count (moment need.fact) fits until after)
      (splits list start count) (end_after list start count (moment need.fact) fits until after) is_later same other (
        length-set found cell_of end ∙ long,
        λ place. elim (cases_eq place cell_of) [
          | inl e ↦
              let P : ℕ → Type 0 = λ p. slice_index (slice_set found cell_of end) p ≤ length (rules_in cells p) in
              subst P (sym e) (omega (arith, same, bound, fits))
          | inr ne ↦ let old = h.within.1 place in let kept = other place ne in omega (arith, old, kept)
        ],
      )

  -- and one in no cell
  expands_out : length cells ≤ cell_of → IsSearch rules first last cells (index + 1) spent needs next found
  expands_out outside =
      let none : rules_in cells cell_of ≡ [] = ap (λ (o : Option (Vec Rule)). items_of o) (slice_get_past cells cell_of outside) in
      let start = slice_index found cell_of in
      let P : List Rule → Type 0 = λ xs. drop start xs ≡ [] ++ drop start xs in
      let A : List Rule → Type 0 = λ xs. All (λ rule. moment need.fact < effect_moment rule) (drop start xs) in
      let nil : drop start ([]) ≡ [] = drop_all start [] (omega arith) in
      let B : List Rule → Type 0 = λ xs. All (λ rule. moment need.fact < effect_moment rule) xs in
      let all : A [] = subst B (sym nil) (All-nil (λ rule. moment need.fact < effect_moment rule)) in
      let new = search_expands rules first last cells index spent start needs next found found [] need h at
      (All-nil (λ rule. effect_moment rule ≤ moment need.fact)) refl (subst A (sym none) all) is_later refl (λ place ne. refl) h.within in
      let N : List Need → Type 0 = λ xs. IsSearch rules first last cells (index + 1) spent xs (next ++ []) found in
      let M : List Need → Type 0 = λ xs. IsSearch rules first last cells (index + 1) spent needs xs found in
      subst M (append-nil next) (subst N (append-nil needs) new)

  pub expands_nowhere : (fact : Fact) (place : ℕ) → need.fact ≡ fact → place ≡ cell fact → length cells ≤ place →
      IsSearch rules first last cells (index + 1) spent needs next found
  expands_nowhere fact place e at_place outside =
      let same : place ≡ cell_of = at_place ∙ ap cell (sym e) in
      expands_out (omega (arith, same, outside))

  -- a search that expands a need, by what was read
  pub expands_by : (fact : Fact) (place count start end latest spent' : ℕ) (slice part : List Rule) (needs' next' : List Need)
      (mid found' : List ℕ) → need.fact ≡ fact → place ≡ cell fact → place < length cells → latest ≡ moment fact →
      slice ≡ rules_in cells place → start ≡ slice_index found place → end ≡ max count start → count ≤ length slice →
      All (λ rule. effect_moment rule ≤ latest) (take count slice) → All (λ rule. latest < effect_moment rule) (drop count slice) →
      part ≡ take (end - start) (drop start slice) → spent' ≡ spent → needs' ≡ needs ++ needs_now index spent part →
      next' ≡ next ++ needs_next index spent part → mid ≡ found → found' ≡ slice_set mid place end →
      IsSearch rules first last cells (index + 1) spent' needs' next' found'
  expands_by fact place count start end latest spent' slice part needs' next' mid found' e at_place inside at_moment is_slice is_start
      is_end fits until after is_part is_spent is_needs is_next is_mid is_found =
      let same : place ≡ cell_of = at_place ∙ ap cell (sym e) in
      let time : latest ≡ moment need.fact = at_moment ∙ ap moment (sym e) in
      let list : slice ≡ rules_in cells cell_of = is_slice ∙ ap (λ (p : ℕ). rules_in cells p) same in
      let from : start ≡ slice_index found cell_of = is_start ∙ ap (λ (p : ℕ). slice_index found p) same in
      let U : List Rule → ℕ → Type 0 = λ xs m. All (λ rule. effect_moment rule ≤ m) (take count xs) in
      let A : List Rule → ℕ → Type 0 = λ xs m. All (λ rule. m < effect_moment rule) (drop count xs) in
      let L : List Rule → Type 0 = λ xs. count ≤ length xs in
      let to : end ≡ max count (slice_index found cell_of) = is_end ∙ ap (λ (n : ℕ). max count n) from in
      let share : part ≡ part_of (rules_in cells cell_of) (slice_index found cell_of) count =
      is_part ∙ ap (λ (n : ℕ). take (n - start) (drop start slice)) to
      ∙ ap (λ (n : ℕ). take (max count (slice_index found cell_of) - n) (drop n slice)) from
      ∙ ap (λ (xs : List Rule). take (max count (slice_index found cell_of) - slice_index found cell_of)
      (drop (slice_index found cell_of) xs)) list in
      let new = expands_in count (omega (arith, same, inside)) (subst L list fits)
      (subst (U (rules_in cells cell_of)) time (subst (λ (xs : List Rule). U xs latest) list until))
      (subst (A (rules_in cells cell_of)) time (subst (λ (xs : List Rule). A xs latest) list after)) in
      let F : List ℕ → Type 0 = λ xs. IsSearch rules first last cells (index + 1) spent' needs' next' xs in
      subst F (sym (is_found ∙ ap (λ (xs : List ℕ). slice_set xs place end) is_mid ∙ ap (λ (p : ℕ). slice_set found p end) same
      ∙ ap (λ (n : ℕ). slice_set found cell_of n) to))
      (search_at rules first last cells (index + 1) spent spent'
      (needs ++ needs_now index spent (part_of (rules_in cells cell_of) (slice_index found cell_of) count)) needs'
      (next ++ needs_next index spent (part_of (rules_in cells cell_of) (slice_index found cell_of) count)) next'
      (slice_set found cell_of (max count (slice_index found cell_of))) is_spent
      (is_needs ∙ ap (λ (xs : List Rule). needs ++ needs_now index spent xs) share)
      (is_next ∙ ap (λ (xs : List Rule). next ++ needs_next index spent xs) share) new)
