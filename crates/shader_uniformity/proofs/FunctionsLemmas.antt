-- Functions that are known, and those that are left.
use Rattle.std.proofs.Common.{◌≡◌, ◌∙◌, refl, ap, subst, ℕ, List, [], ◌∷◌, ◌++◌, Some, length, slice_get, append_assoc}
use Rattle.std.proofs.Common.{arith, length-append}
use Rattle.shader_arena.specs.Positions.{items_of}
use Rattle.shader_uniformity.specs.Fault.{AreKnown, IsKnownBy, next}
use Rattle.shader_uniformity.specs.Words.{Function, Module}
use Rattle.shader_uniformity.specs.declared.facts.Rule.{Rule}

-- the functions are those that are known, `done`, and those of the entries that are left
pub record IsLeft (functions : List Function) (entries : List (ℕ × Function)) (known : List (List Rule)) : Type 0 where
  pub done : List Function
  pub whole : done ++ items_of entries ≡ functions
  pub long : length done ≡ length known

pub at_seam : {X : Type 0} (xs : List X) (x : X) (ys : List X) → slice_get (xs ++ x ∷ ys) (length xs) ≡ Some x
at_seam [] x ys = refl
at_seam (y ∷ xs) x ys = at_seam xs x ys

pub all_left : (functions : List Function) (entries : List (ℕ × Function)) → items_of entries ≡ functions → IsLeft functions entries []
all_left functions entries same = record { done = []; whole = same; long = refl }

pub next_left : (functions : List Function) (entry : ℕ × Function) (entries : List (ℕ × Function)) (known : List (List Rule))
    (more : List Rule) → IsLeft functions (entry ∷ entries) known → IsLeft functions entries (known ++ more ∷ [])
next_left functions entry entries known more left = record {
  done = left.done ++ entry.1 ∷ [];
  whole = append_assoc left.done (entry.1 ∷ []) (items_of entries) ∙ left.whole;
  long = omega (arith, left.long, length-append left.done (entry.1 ∷ []), length-append known (more ∷ []));
}

pub next_known : (m : Module) (entry : ℕ × Function) (entries : List (ℕ × Function)) (known : List (List Rule)) (more : List Rule) →
    IsLeft m.functions (entry ∷ entries) known → AreKnown m known → IsKnownBy m known entry.1 more → AreKnown m (known ++ more ∷ [])
next_known m entry entries known more left all one =
    let at : slice_get m.functions (length left.done) ≡ Some entry.1 =
    let P : List Function → Type 0 = λ v. slice_get v (length left.done) ≡ Some entry.1 in
    subst P left.whole (at_seam left.done entry.1 (items_of entries)) in
    let P : ℕ → Type 0 = λ v. slice_get m.functions v ≡ Some entry.1 in
    next all (subst P left.long at) one

-- where no entry is left, all functions are known
pub all_known : (functions : List Function) (known : List (List Rule)) → IsLeft functions [] known → length known ≡ length functions
all_known functions known left = omega (arith, left.long, length-append left.done [], ap length left.whole)
