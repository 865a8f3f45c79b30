use Rattle.std.proofs.Common.{◌≡◌, ◌++◌, drop, map}
use Rattle.std.specs.List.{enumerate_from}
use Rattle.json.specs.Value.{value_view}
use Rattle.shader_report_resources.specs.ValueLines.{member_row}
use Rattle.shader_report_resources.proofs.value_lines.add_members.Given as goal

abbrev pub invariant-loop-member : goal.invariant-loop-member
invariant-loop-member l =
    (l.index ≡ l.member-index)
    × (l.rows.items
    ++ map (member_row (value_view l.root) l.«module» l.way l.ty) (enumerate_from l.index (drop l.member-index l.members))
    ≡ l.initial.rows.items ++ map (member_row (value_view l.root) l.«module» l.way l.ty) (enumerate_from 0 l.members))
