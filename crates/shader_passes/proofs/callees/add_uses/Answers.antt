use Rattle.std.proofs.Common.{◌≡◌, ◌<◌, ap, sym, ◌∙◌, arith, bit_or, inl, inr, length, rules, slice_index, slice_set}
use Rattle.std.proofs.lemmas.Bool.{cases_eq}
use Rattle.shader_info.specs.declared.flags.GlobalUse.{GlobalUse}
use Rattle.shader_passes.proofs.UsesLemmas.{bits_found, bits_joined}
use Rattle.shader_passes.specs.CalleeUses.{bits_at}
use Rattle.std.proofs.lemmas.Grind.{common_steps}
use Rattle.std.proofs.lemmas.Option.{slice_get_cases}
use Rattle.std.specs.Int.Bits.{or_zero_r}
use Rattle.shader_passes.specs.Counting.{bits_in}
use Rattle.shader_passes.proofs.callees.add_uses.Goals as goal

-- past both lists nothing is added
pub returns : goal.returns
returns c = λ g h. elim (slice_get_cases c.args.other.now g).1 [
  | (inl w) ↦ grind (arith, common_steps, c.loop-position.invariant.joined g, c.loop-position.invariant.left g, w)
  | (inr w) ↦ grind (
    arith,
    common_steps,
    c.loop-position.invariant.joined g,
    c.loop-position.invariant.left g,
    w,
    or_zero_r (slice_index (bits_in c.args.uses.now) g),
  )
]

pub loop-position-preserved : goal.loop-position-preserved
loop-position-preserved c =
    let uses = c.loop-position.uses in
    let p = c.loop-position.position in
    let none : GlobalUse = record { 0 = 0 } in
    let within : p < length uses = search rules in
    let is = bits_joined uses p c.known.result.0 none within in
    let found : c.known.result.0 ≡ bits_at c.args.other.now p =
    c.known.ensures ∙ sym (bits_found c.args.other.now p none (search rules)) in
    let set = slice_set (bits_in uses) p (bit_or (slice_index (bits_in uses) p) c.known.result.0) in
    record {
      joined = λ g lt. ap (λ v. slice_index v g) is ∙ elim (cases_eq p g) [
        | inl same ↦ grind (arith, common_steps, c.loop-position.invariant.left g, found, same)
        | inr apart ↦ grind (arith, common_steps, c.loop-position.invariant.joined g, apart)
      ];
      left = λ g le. ap (λ v. slice_index v g) is ∙ grind (arith, common_steps, c.loop-position.invariant.left g);
    }
