-- Comparisons that distinguish all values.
use Rattle.std.specs.Prelude.{◌≡◌, Bool, true, ◌↔◌}

-- eq is true exactly of equal values
abbrev pub DecidesSame : {T : Type 0} → (T → T → Bool) → Type 0
DecidesSame {T} eq = (x y : T) → (eq x y ≡ true) ↔ (x ≡ y)
