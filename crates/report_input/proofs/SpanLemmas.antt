-- Walks over the tokens of a text, a member, an item or a step at a time.
use Rattle.std.proofs.Common.{◌≡◌, ◌∙◌, ◌+◌, ◌++◌, ◌∷◌, [], ℕ, List, Option, Some, None, add-one, ap, refl, subst, sym, option_and_then}
use Rattle.json.specs.Json.{Json, after_end_array, document, max_depth, read_key, skip_value}
use Rattle.json.specs.Token.{Token}
use Rattle.report_input.specs.Spans.{IsItem, IsMember, Leads, LeadsBy, behind_items, behind_member, behind_members, behind_value}
use Rattle.report_input.specs.declared.steps.Step.{Step}

-- behind one more member
pub one_more_member : (n : ℕ) (old at inside next : List Token) (key : List ℕ) → behind_members n old ≡ Some at →
    read_key at ≡ Some (Some key, inside) → skip_value max_depth inside ≡ Some next → behind_members (n + 1) old ≡ Some next
one_more_member n old at inside next key passed named skipped =
    subst (λ (k : ℕ). behind_members k old ≡ Some next) (sym (add-one n))
    (ap (λ (found : Option (List Token)). option_and_then behind_member found) passed
    ∙ (ap (λ (found : Option (Option (List ℕ) × List Token)). option_and_then (λ read. behind_value read.0 read.1) found) named ∙ skipped))

-- the member behind those that were passed
pub found_member : (n : ℕ) (old at rest : List Token) (name key : List ℕ) → behind_members n old ≡ Some at →
    read_key at ≡ Some (Some key, rest) → key ≡ name → IsMember name old rest
found_member n old at rest name key passed named is = record {
  before = n;
  key = at;
  passed = passed;
  named = named ∙ ap (λ (k : List ℕ). Some (Some k, rest)) is;
}

-- behind one more item
pub one_more_item : (n : ℕ) (old at next : List Token) → behind_items n old ≡ Some at → skip_value max_depth at ≡ Some next →
    behind_items (n + 1) old ≡ Some next
one_more_item n old at next passed skipped =
    subst (λ (k : ℕ). behind_items k old ≡ Some next) (sym (add-one n))
    (ap (λ (found : Option (List Token)). option_and_then (skip_value max_depth) found) passed ∙ skipped)

-- the item behind those that were passed
pub found_item : (index : ℕ) (old rest : List Token) → behind_items index old ≡ Some rest → after_end_array rest ≡ None →
    IsItem index old rest
found_item index old rest passed there = record { passed = passed; there = there }

-- one more step
pub one_more_step : (steps : List Step) (step : Step) (start at next : List Token) → Leads steps start at → LeadsBy step at next →
    Leads (steps ++ step ∷ []) start next
one_more_step [] step start at next same by = (next, subst (λ (ts : List Token). LeadsBy step ts next) same by, refl)
one_more_step (first ∷ steps) step start at next (middle, begins, goes_on) by =
    (middle, begins, one_more_step steps step middle at next goes_on by)

-- two values with the same text are the same, and so each text that spells one spells the other
pub same_value : (one other : Json) (text first second : List ℕ) → document text ≡ Some one → document first ≡ Some one →
    document second ≡ Some other → first ≡ second → document text ≡ Some other
same_value one other text first second spells is_one is_other same = spells ∙ (sym is_one ∙ (ap document same ∙ is_other))
