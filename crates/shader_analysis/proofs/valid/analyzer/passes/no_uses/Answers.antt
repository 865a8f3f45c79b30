use Rattle.std.proofs.Common.{◌≡◌, refl, ap, ◌∙◌, ℕ, zero, suc, ◌-◌, List, [], ◌∷◌, ◌++◌, replicate, take, arith}
use Rattle.shader_info.specs.declared.flags.GlobalUse.{GlobalUse}
use Rattle.shader_passes.specs.Counting.{bits_in}
use Rattle.shader_analysis.proofs.valid.analyzer.passes.no_uses.Goals as goal

abbrev none : GlobalUse
none = record { 0 = 0 }

no_bits : (n : ℕ) → bits_in (replicate n none) ≡ replicate n 0
no_bits zero = refl
no_bits (suc n) = ap (λ v. 0 ∷ v) (no_bits n)

take_none : (n : ℕ) → take {A = GlobalUse} n [] ≡ []
take_none zero = refl
take_none (suc n) = refl

-- an empty list that is filled up
filled : (uses : List GlobalUse) (n count : ℕ) → uses ≡ [] → count ≡ 0 →
    bits_in (take n uses ++ replicate (n - count) none) ≡ replicate n 0
filled uses n count empty short =
    let whole : n - count ≡ n = omega arith in
    ap (λ v. bits_in (take n v ++ replicate (n - count) none)) empty
    ∙ (ap (λ v. bits_in (v ++ replicate (n - count) none)) (take_none n)
    ∙ (ap (λ v. bits_in (replicate v none)) whole ∙ no_bits n))

pub returns : goal.returns
returns c =
    ap bits_in c.in_ok-resize.ensures.items
    ∙ (filled c.in_ok-uses.uses.items c.len-count.result c.in_ok-uses.uses.len c.in_ok-uses.ensures.items c.in_ok-uses.ensures.len
    ∙ ap (λ v. replicate v 0) c.len-count.ensures.len)
