use Rattle.std.proofs.Common.{◌≡◌, ℕ, ◌<◌, ◌≤◌, slice_index, bit_or}
use Rattle.shader_passes.specs.CalleeUses.{bits_at}
use Rattle.shader_passes.specs.Counting.{bits_in}
use Rattle.shader_passes.proofs.callees.add_uses.Given as goal

abbrev pub invariant-loop-position : goal.invariant-loop-position
invariant-loop-position l = record {
  joined : (g : ℕ) → g < l.position → slice_index (bits_in l.uses) g ≡ bit_or (slice_index (bits_in l.fn.uses) g) (bits_at l.other g);
  left : (g : ℕ) → l.position ≤ g → slice_index (bits_in l.uses) g ≡ slice_index (bits_in l.fn.uses) g;
}
