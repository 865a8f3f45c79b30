-- The bits of uses, by their positions.
use Rattle.std.proofs.Common.{◌≡◌, refl, sym, ap, ◌∙◌, ℕ, zero, suc, ◌<◌, List, [], ◌∷◌, Option, length, slice_index, slice_set, get_or}
use Rattle.std.proofs.Common.{bit_and, bit_or, unwrap_or, arith}
use Rattle.std.proofs.lemmas.Option.{slice_get-get_or}
use Rattle.std.specs.Option.{option_map}
use Rattle.shader_passes.specs.CalleeUses.{bits_at}
use Rattle.std.proofs.lemmas.List.{length-map, map-set}
use Rattle.shader_info.specs.declared.flags.GlobalUse.{GlobalUse}
use Rattle.shader_passes.specs.Counting.{bits_in}

pub bits_long : (uses : List GlobalUse) → length (bits_in uses) ≡ length uses
bits_long uses = length-map uses (λ (at : GlobalUse). at.0)

pub bits_set : (uses : List GlobalUse) (g : ℕ) (at : GlobalUse) → bits_in (slice_set uses g at) ≡ slice_set (bits_in uses) g at.0
bits_set uses g at = map-set (λ (one : GlobalUse). one.0) uses g at

pub bits_of : (uses : List GlobalUse) (g : ℕ) (other : GlobalUse) → g < length uses →
    slice_index (bits_in uses) g ≡ (get_or uses g other).0
bits_of [] g other lt = absurd (omega arith)
bits_of (u ∷ us) zero other lt = refl
bits_of (u ∷ us) (suc g) other lt = bits_of us g other (omega arith)

-- one more position is joined
pub bits_joined : (uses : List GlobalUse) (p more : ℕ) (other : GlobalUse) → p < length uses →
    bits_in (slice_set uses p (record { 0 = bit_or (get_or uses p other).0 more }))
    ≡ slice_set (bits_in uses) p (bit_or (slice_index (bits_in uses) p) more)
bits_joined uses p more other lt =
    bits_set uses p (record { 0 = bit_or (get_or uses p other).0 more })
    ∙ ap (λ v. slice_set (bits_in uses) p (bit_or v more)) (sym (bits_of uses p other lt))

-- the bits at a position of a list
pub bits_found : (others : List GlobalUse) (p : ℕ) (other : GlobalUse) → p < length others →
    bits_at others p ≡ bit_and (get_or others p other).0 15
bits_found others p other lt =
    ap (λ (v : Option GlobalUse). unwrap_or (option_map (λ (at : GlobalUse). bit_and at.0 15) v) 0) (slice_get-get_or others p other lt)

pub ruleset bits = (bits_long, bits_set, bits_of)
