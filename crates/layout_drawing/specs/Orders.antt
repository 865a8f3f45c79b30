-- The span of a struct whose members are placed one after another by the layout rules.
use Rattle.std.specs.Prelude.{◌≡◌, ◌+◌, ◌<◌, ℕ, List, fold, max}
use Rattle.std.specs.Int.{next_multiple_of}
use Rattle.std.specs.List.Sorted.{IsPermutation}
use Rattle.layout_drawing.specs.declared.orders.Order.{Order}
use Rattle.layout_drawing.specs.declared.pieces.Slot.{Slot}

-- the end of a member that is placed at the next multiple of its alignment
abbrev pub end_after : ℕ → Slot → ℕ
end_after end slot = next_multiple_of end slot.alignment + slot.size

-- the greatest alignment, at least 1
abbrev pub greatest_alignment : List Slot → ℕ
greatest_alignment slots = fold (λ greatest (slot : Slot). max greatest slot.alignment) 1 slots

-- the end of the last member, rounded up to the greatest alignment
abbrev pub span_of : List Slot → ℕ
span_of slots = next_multiple_of (fold end_after 0 slots) (greatest_alignment slots)

-- the same members in another order: by the same rules they take less room
pub record IsSmaller (slots : List Slot) (span : ℕ) (order : Order) : Type 0 where
  pub same_members : IsPermutation slots order.slots.items
  pub by_rules : span_of slots ≡ span
  pub takes : span_of order.slots.items ≡ order.span
  pub smaller : order.span < span
