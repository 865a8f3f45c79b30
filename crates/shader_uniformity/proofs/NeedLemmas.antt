-- Needs of a search for a trace, which rules make and which stay.
use Rattle.std.proofs.Common.{◌≡◌, refl, sym, ◌∙◌, ap, subst, ℕ, zero, suc, ◌+◌, ◌<◌, ◌≤◌, ◌⊎◌, inl, inr, Bool, true, false, not}
use Rattle.std.proofs.Common.{List, [], ◌∷◌, ◌++◌, Option, Some, None, arith, length, get_or, slice_get}
use Rattle.std.proofs.Common.{if◌then◌else◌, map, filter}
use Rattle.std.proofs.lemmas.Bool.{false≢true}
use Rattle.std.proofs.lemmas.List.{get_or-map}
use Rattle.std.proofs.lemmas.List.{length-map}
use Rattle.std.proofs.lemmas.List.Elements.{All-weaker, All-contains_itself, All-filter, All-map}
use Rattle.std.proofs.lemmas.List.Elements.{Contains-append_cases, Contains-append_left, Contains-append_right, Contains-push}
use Rattle.std.proofs.lemmas.List.Elements.{filter_passes}
use Rattle.std.proofs.lemmas.Option.{get_or_from_slice_get, none-some, slice_get-get_or}
use Rattle.std.proofs.lemmas.Option.{slice_get_within}
use Rattle.std.specs.List.{All, Contains}
use Rattle.shader_uniformity.specs.Costs.{cost, is_free}
use Rattle.shader_uniformity.specs.Ways.{need_of, needs_next, needs_now, IsExpanded, IsFound, IsNeeded}
use Rattle.shader_uniformity.specs.Ways.{IsReached, IsReachedBy, MeetsBelow}
use Rattle.shader_uniformity.specs.declared.facts.Fact.{Fact}
use Rattle.shader_uniformity.specs.declared.facts.Rule.{Rule}
use Rattle.shader_uniformity.specs.declared.ways.Need.{Need}
use Rattle.shader_uniformity.specs.declared.ways.Step.{Step}
use Rattle.shader_uniformity.proofs.KnownLemmas.{nowhere}

-- what stands in a list that grows at its end
module _ {X : Type 0} where
  pub get_kept : (xs ys : List X) (k : ℕ) (x : X) → slice_get xs k ≡ Some x → slice_get (xs ++ ys) k ≡ Some x
  get_kept [] ys k x h = absurd (none-some x h)
  get_kept (y ∷ xs) ys zero x h = h
  get_kept (y ∷ xs) ys (suc k) x h = get_kept xs ys k x h

  pub get_old : (xs ys : List X) (k : ℕ) (x : X) → k < length xs → slice_get (xs ++ ys) k ≡ Some x → slice_get xs k ≡ Some x
  get_old [] ys k x lt h = absurd (omega arith)
  get_old (y ∷ xs) ys zero x lt h = h
  get_old (y ∷ xs) ys (suc k) x lt h = get_old xs ys k x (omega arith) h

  pub contains_at : (xs : List X) (k : ℕ) (x : X) → slice_get xs k ≡ Some x → Contains xs x
  contains_at xs k x h = (k, slice_get_within xs k x h, get_or_from_slice_get xs k x x h)

  pub get_new : (xs ys : List X) (k : ℕ) (x : X) → length xs ≤ k → slice_get (xs ++ ys) k ≡ Some x → Contains ys x
  get_new [] ys k x le h = contains_at ys k x h
  get_new (y ∷ xs) ys zero x le h = absurd (omega arith)
  get_new (y ∷ xs) ys (suc k) x le h = get_new xs ys k x (omega arith) h

  pub place_of : (xs : List X) (x : X) → Contains xs x → (k : ℕ) × (slice_get xs k ≡ Some x)
  place_of xs x h = (h.0, slice_get-get_or xs h.0 x h.1 ∙ ap Some h.2)

  in_filter : (p : X → Bool) (xs : List X) (x : X) → Contains xs x → p x ≡ true → Contains (filter p xs) x
  in_filter p [] x h k = absurd (nowhere x h)
  in_filter p (y ∷ xs) x h k = elim (Contains-append_cases (y ∷ []) xs x h) [
    | inl i ↦ first (p y) refl (elim (Contains-append_cases [] (y ∷ []) x i) [ inl none ↦ absurd (nowhere x none) | inr j ↦ same j ])
    | inr i ↦ rest (p y) (in_filter p xs x i k)
  ]
    where
      same : Contains (y ∷ []) x → y ≡ x
      same (zero, lt, e) = e
      same (suc n, lt, e) = absurd (omega arith)

      first : (b : Bool) → p y ≡ b → y ≡ x → Contains (if b then y ∷ filter p xs else filter p xs) x
      first true e i =
          subst (λ (v : X). Contains (y ∷ filter p xs) v) i (Contains-append_left (y ∷ []) (filter p xs) y (Contains-push [] y))
      first false e i = absurd (false≢true (sym e ∙ ap p i ∙ k))

      rest : (b : Bool) → Contains (filter p xs) x → Contains (if b then y ∷ filter p xs else filter p xs) x
      rest true i = Contains-append_right (y ∷ []) (filter p xs) x i
      rest false i = i

in_map : {X Y : Type 0} (f : X → Y) (xs : List X) (x : X) → Contains xs x → Contains (map f xs) (f x)
in_map f xs x h =
    let long = length-map xs f in
    let lt : h.0 < length xs = h.1 in
    (h.0, omega (arith, long, lt), get_or-map f xs h.0 x (f x) h.1 ∙ ap f h.2)

-- needs that rules make
pub free_cost : (rule : Rule) → is_free rule ≡ true → cost rule ≡ 0
free_cost rule h = ap (λ (b : Bool). if b then 0 else 1) h

pub other_cost : (rule : Rule) → not (is_free rule) ≡ true → cost rule ≡ 1
other_cost rule h = of (is_free rule) refl h
  where
    of : (b : Bool) → is_free rule ≡ b → not b ≡ true → cost rule ≡ 1
    of true e k = absurd (false≢true k)
    of false e k = ap (λ (b : Bool). if b then 0 else 1) e

module _ (index spent : ℕ) (part : List Rule) where
  pub each_now : (P : Need → Type 0) → ((rule : Rule) → Contains part rule → is_free rule ≡ true → P (need_of index spent rule)) →
      All P (needs_now index spent part)
  each_now P f = All-map P (need_of index spent) (filter is_free part) (λ k d h.
      f (get_or (filter is_free part) k d) (All-filter is_free (Contains part) part (All-contains_itself part) k d h)
      (filter_passes is_free part k d h))

  abbrev pub is_other : Rule → Bool
  is_other rule = not (is_free rule)

  pub each_next : (P : Need → Type 0) → ((rule : Rule) → Contains part rule → is_other rule ≡ true → P (need_of index spent rule)) →
      All P (needs_next index spent part)
  each_next P f = All-map P (need_of index spent) (filter is_other part) (λ k d h.
      f (get_or (filter is_other part) k d) (All-filter is_other (Contains part) part (All-contains_itself part) k d h)
      (filter_passes is_other part k d h))

  in_needs : (p : Rule → Bool) (rule : Rule) → Contains part rule → p rule ≡ true →
      Contains (map (need_of index spent) (filter p part)) (need_of index spent rule)
  in_needs p rule h k = in_map (need_of index spent) (filter p part) rule (in_filter p part rule h k)

  pub has_need : (rule : Rule) → Contains part rule →
      Contains (needs_now index spent part) (need_of index spent rule) ⊎ Contains (needs_next index spent part) (need_of index spent rule)
  has_need rule h = of (is_free rule) refl
    where
      of : (b : Bool) → is_free rule ≡ b → Contains (needs_now index spent part) (need_of index spent rule)
          ⊎ Contains (needs_next index spent part) (need_of index spent rule)
      of true e = inl (in_needs is_free rule h e)
      of false e = inr (in_needs is_other rule h (ap not e))

-- the needs of a search, when more are found
module _ (rules : List Rule) (last : Fact) where
  reached_more : (needs more : List Need) (need : Need) → IsReached rules last needs need → IsReached rules last (needs ++ more) need
  reached_more needs more need h = of need.by h
    where
      of : (by : Option Step) → IsReachedBy rules last needs need by → IsReachedBy rules last (needs ++ more) need by
      of None k = k
      of (Some step) k = record {
        met = k.met;
        is_met = get_kept needs more step.meets k.met k.is_met;
        is_rule = k.is_rule;
        covering = k.covering;
        cause = k.cause;
        spent = k.spent;
      }

  pub all_reached_more : (needs more list : List Need) → All (IsReached rules last needs) list →
      All (IsReached rules last (needs ++ more)) list
  all_reached_more needs more list =
      All-weaker (IsReached rules last needs) (IsReached rules last (needs ++ more)) (reached_more needs more) list

  pub meets_below : (needs : List Need) (need : Need) (place : ℕ) → length needs ≤ place → IsReached rules last needs need →
      MeetsBelow place need.by
  meets_below needs need place le h = of need.by h
    where
      of : (by : Option Step) → IsReachedBy rules last needs need by → MeetsBelow place by
      of None k = tt
      of (Some step) k = let lt = slice_get_within needs step.meets k.met k.is_met in omega (arith, lt)

module _ (needs next needs' next' : List Need) (grows : (need : Need) → IsFound needs next need → IsFound needs' next' need) where
  pub needed_more : (fact : Fact) (a b : ℕ) → a ≤ b → IsNeeded needs next fact a → IsNeeded needs' next' fact b
  needed_more fact a b le n = let small = n.3 in (n.0, grows n.0 n.1, n.2, omega (arith, small))

  pub expanded_more : (rules : List Rule) (first : Fact) (need : Need) → IsExpanded rules first needs next need →
      IsExpanded rules first needs' next' need
  expanded_more rules first need h = record {
    is_later = h.is_later;
    expanded = λ rule within c.
        needed_more rule.cause (need.cost + cost rule) (need.cost + cost rule) (omega arith) (h.expanded rule within c);
  }
