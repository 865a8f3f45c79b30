use Rattle.std.proofs.Common.{◌≡◌, ◌≤◌, max, drop}
use Rattle.shader_ir.specs.StoredLayouts.{greatest_stored}
use Rattle.shader_ir.specs.Layout.{member_fault}
use Rattle.shader_ir.proofs.proc.layouter.greatest_alignment.Given as goal

-- the rest decides as the whole does
abbrev pub invariant-loop-index : goal.invariant-loop-index
invariant-loop-index l =
    (1 ≤ l.alignment)
    × (max l.alignment (greatest_stored l.layouts (drop l.index l.members)) ≡ greatest_stored l.layouts l.members)
    × (member_fault l.position l.index (drop l.index l.members) ≡ member_fault l.position 0 l.members)
