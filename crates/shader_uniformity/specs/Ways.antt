-- The search for a shortest trace, from the last fact back: which facts are needed, and what they cost.
use Rattle.std.specs.Prelude.{◌≡◌, ℕ, ◌+◌, ◌<◌, ◌≤◌, false, true, not, ◌⊎◌, List, [], ◌∷◌, ◌++◌, Option, Some, None, length, drop, map}
use Rattle.std.specs.Prelude.{filter, replicate, slice_get, slice_index, sum_by}
use Rattle.std.specs.Global.{Vec}
use Rattle.std.specs.List.{All, Contains}
use Rattle.shader_uniformity.specs.Cells.{cell, covers}
use Rattle.shader_uniformity.specs.Costs.{cost, is_free}
use Rattle.shader_uniformity.specs.Effects.{rules_in, IsIndex}
use Rattle.shader_uniformity.specs.Marks.{Marked}
use Rattle.shader_uniformity.specs.Traces.{IsTrace}
use Rattle.shader_uniformity.specs.declared.facts.Fact.{Fact}
use Rattle.shader_uniformity.specs.declared.facts.Rule.{Rule}
use Rattle.shader_uniformity.specs.declared.ways.Need.{Need}
use Rattle.shader_uniformity.specs.declared.ways.Search.{Search}
use Rattle.shader_uniformity.specs.declared.ways.Step.{Step}

-- the need that a rule makes whose effect meets the need at an index; `spent`: the cost of that one
abbrev pub need_of : (index spent : ℕ) → Rule → Need
need_of index spent rule =
    record { fact = rule.cause; cost = spent + cost rule; by = Some (record { rule = rule; meets = index }) }

-- the needs that rules make at the same cost, and those that cost one more
abbrev pub needs_now : (index spent : ℕ) → List Rule → List Need
needs_now index spent rules = map (need_of index spent) (filter is_free rules)

abbrev pub needs_next : (index spent : ℕ) → List Rule → List Need
needs_next index spent rules = map (need_of index spent) (filter (λ rule. not (is_free rule)) rules)

-- a need that is found, at the present cost or at the next one
abbrev pub IsFound : (needs next : List Need) → Need → Type 0
IsFound needs next need = Contains needs need ⊎ Contains next need

-- the fact is needed, at no more than a cost
abbrev pub IsNeeded : (needs next : List Need) → Fact → ℕ → Type 0
IsNeeded needs next fact spent = (need : Need) × IsFound needs next need × (need.fact ≡ fact) × (need.cost ≤ spent)

-- each step meets an earlier need
abbrev pub MeetsBelow : ℕ → Option Step → Type 0
MeetsBelow index (Some step) = step.meets < index
MeetsBelow index None = Unit {0}

abbrev pub AreBackward : List Need → Type 0
AreBackward needs = (index : ℕ) (need : Need) → slice_get needs index ≡ Some need → MeetsBelow index need.by

-- no more rules are taken from a cell than it has
abbrev pub AreWithin : List (Vec Rule) → List ℕ → Type 0
AreWithin cells found =
    (length found ≡ length cells) × ((place : ℕ) → slice_index found place ≤ length (rules_in cells place))

module _ (rules : List Rule) where
  -- a step from a need back to another one, by a rule
  pub record IsStep (needs : List Need) (need : Need) (step : Step) : Type 0 where
    pub met : Need
    pub is_met : slice_get needs step.meets ≡ Some met
    pub is_rule : Contains rules step.rule
    pub covering : covers step.rule.effect met.fact ≡ true
    pub cause : need.fact ≡ step.rule.cause
    pub spent : need.cost ≡ met.cost + cost step.rule

  -- a need has a way back from the last fact
  abbrev pub IsReachedBy : (last : Fact) → List Need → Need → Option Step → Type 0
  IsReachedBy last needs need (Some step) = IsStep needs need step
  IsReachedBy last needs need None = (need.fact ≡ last) × (need.cost ≡ 0)

  abbrev pub IsReached : (last : Fact) → List Need → Need → Type 0
  IsReached last needs need = IsReachedBy last needs need need.by

  -- a need isn't the first fact, and the causes of all rules that meet it are needed
  pub record IsExpanded (first : Fact) (needs next : List Need) (need : Need) : Type 0 where
    pub is_later : covers first need.fact ≡ false
    pub expanded : (rule : Rule) → Contains rules rule → covers rule.effect need.fact ≡ true →
        IsNeeded needs next rule.cause (need.cost + cost rule)

  -- a search that has come to an index, at the cost `spent`
  pub record IsSearch (first last : Fact) (cells : List (Vec Rule)) (index spent : ℕ) (needs next : List Need) (found : List ℕ) : Type 0
    where
      pub is_index : IsIndex rules cells
      pub within : AreWithin cells found
      pub come : index ≤ length needs
      pub begun : (need : Need) × (slice_get needs 0 ≡ Some need) × (need.fact ≡ last) × (need.cost ≡ 0)
      pub reached : All (IsReached last needs) needs
      pub reached_next : All (IsReached last needs) next
      pub backward : AreBackward needs
      pub costs : (place : ℕ) (need : Need) → index ≤ place → slice_get needs place ≡ Some need → need.cost ≡ spent
      pub costs_next : All (λ need. need.cost ≡ spent + 1) next
      pub expanded : (place : ℕ) (need : Need) → place < index → slice_get needs place ≡ Some need → IsExpanded first needs next need
      pub pending : (rule : Rule) → Contains rules rule → IsNeeded needs next rule.cause (spent + cost rule)
          ⊎ Contains (drop (slice_index found (cell rule.effect)) (rules_in cells (cell rule.effect))) rule

  abbrev pub Searches : (first last : Fact) → List (Vec Rule) → ℕ → Search → Type 0
  Searches first last cells index search =
      IsSearch first last cells index search.cost search.needs.items search.next.items search.found.items

-- a search begins at the last fact, with so many cells
pub record Begins (cells : ℕ) (last : Fact) (search : Search) : Type 0 where
  pub cost : search.cost ≡ 0
  pub needs : search.needs.items ≡ record { fact = last; cost = 0; by = None } ∷ []
  pub next : search.next.items ≡ []
  pub found : search.found.items ≡ replicate cells 0

-- the needs of rules that meet the one at an index are added
pub record Adds (index : ℕ) (rules : List Rule) (old new : Search) : Type 0 where
  pub cost : new.cost ≡ old.cost
  pub needs : new.needs.items ≡ old.needs.items ++ needs_now index old.cost rules
  pub next : new.next.items ≡ old.next.items ++ needs_next index old.cost rules
  pub found : new.found.items ≡ old.found.items

-- a search expands the need at an index, for a fact that isn't the first one
pub record Expands (cells : List (Vec Rule)) (index : ℕ) (fact : Fact) (old new : Search) : Type 0 where
  pub expands : (rules : List Rule) (first last : Fact) (need : Need) → Searches rules first last cells index old →
      slice_get old.needs.items index ≡ Some need → need.fact ≡ fact → covers first fact ≡ false →
      Searches rules first last cells (index + 1) new

-- a search goes on to the next cost, if it is at the end of the needs. If it is still at their end then, none are left
pub record GoesOn (index : ℕ) (old new : Search) : Type 0 where
  pub goes_on : (rules : List Rule) (first last : Fact) (cells : List (Vec Rule)) → Searches rules first last cells index old →
      Searches rules first last cells index new
  pub ends : index ≤ length old.needs.items → length new.needs.items ≤ index → new.next.items ≡ []

-- a trace leads from the last fact back to the need at an index, whatever the search is for
pub record LeadsBack (needs : List Need) (index : ℕ) (trace : List Rule) : Type 0 where
  pub leads : (rules : List Rule) (first last : Fact) (need : Need) → All (IsReached rules last needs) needs →
      slice_get needs index ≡ Some need → Marked [] first need.fact → IsTrace rules last trace first × (sum_by cost trace ≡ need.cost)
