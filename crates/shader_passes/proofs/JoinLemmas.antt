-- Joined uses, by their positions.
use Rattle.std.proofs.Common.{◌≡◌, refl, sym, ap, ◌∙◌, ℕ, zero, suc, ◌<◌, List, [], ◌∷◌, length, slice_index, arith}
use Rattle.std.proofs.Common.{bit_and, bit_or}
use Rattle.std.specs.Int.Bits.{or_zero_r}
use Rattle.shader_info.specs.declared.flags.GlobalUse.{GlobalUse}
use Rattle.shader_passes.proofs.UsesLemmas.{bits_long}
use Rattle.shader_passes.specs.CalleeUses.{bits_at}
use Rattle.shader_passes.specs.Counting.{bits_in}
use Rattle.shader_passes.specs.Walking.{joined}

pub joined_none : (uses : List GlobalUse) → joined uses [] ≡ uses
joined_none [] = refl
joined_none (u ∷ us) = refl

pub joined_long : (uses others : List GlobalUse) → length (joined uses others) ≡ length uses
joined_long [] others = refl
joined_long (u ∷ us) [] = refl
joined_long (u ∷ us) (o ∷ os) = ap suc (joined_long us os)

use_of : (u v : GlobalUse) → u.0 ≡ v.0 → u ≡ v
use_of u v same = let one : ℕ → GlobalUse = λ n. record { 0 = n } in ap one same

-- a list of the same length that is joined at each position
pub joined_is : (uses others found : List GlobalUse) → length found ≡ length uses →
    ((g : ℕ) → g < length found → slice_index (bits_in found) g ≡ bit_or (slice_index (bits_in uses) g) (bits_at others g)) →
    found ≡ joined uses others
joined_is [] others [] long at = refl
joined_is [] others (r ∷ rs) long at = absurd (omega arith)
joined_is (u ∷ us) others [] long at = absurd (omega arith)
joined_is (u ∷ us) [] (r ∷ rs) long at =
    let first = use_of r u (at zero (omega arith) ∙ or_zero_r u.0) in
    let rest = joined_is us [] rs (omega arith) (λ g lt. at (suc g) (omega arith)) ∙ joined_none us in
    ap (λ v. v ∷ rs) first ∙ ap (λ v. u ∷ v) rest
joined_is (u ∷ us) (o ∷ os) (r ∷ rs) long at =
    let both : GlobalUse = record u { 0 = bit_or u.0 (bit_and o.0 15) } in
    let first = use_of r both (at zero (omega arith)) in
    let rest = joined_is us os rs (omega arith) (λ g lt. at (suc g) (omega arith)) in
    ap (λ v. v ∷ rs) first ∙ ap (λ v. both ∷ v) rest

-- the bits of joined uses at a position
pub joined_at : (uses others : List GlobalUse) (g : ℕ) → g < length uses →
    slice_index (bits_in (joined uses others)) g ≡ bit_or (slice_index (bits_in uses) g) (bits_at others g)
joined_at [] others g lt = absurd (omega arith)
joined_at (u ∷ us) [] g lt = sym (or_zero_r (slice_index (bits_in (u ∷ us)) g))
joined_at (u ∷ us) (o ∷ os) zero lt = refl
joined_at (u ∷ us) (o ∷ os) (suc g) lt = joined_at us os g (omega arith)

pub ruleset joins = (joined_is, bits_long)
