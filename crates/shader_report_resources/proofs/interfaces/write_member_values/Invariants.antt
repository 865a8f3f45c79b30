use Rattle.std.proofs.Common.{◌≡◌, drop, flat_map}
use Rattle.std.specs.List.{enumerate_from}
use Rattle.json.specs.Value.{value_view}
use Rattle.shader_report_resources.specs.Interfaces.{member_value}
use Rattle.report_json.specs.Tokens.{Leads}
use Rattle.shader_report_resources.proofs.interfaces.write_member_values.Given as goal

abbrev pub invariant-loop-member : goal.invariant-loop-member
invariant-loop-member l =
    (l.index ≡ l.member-index)
    × Leads l.initial.writer l.writer
    (flat_map (member_value (value_view l.root) l.«module» l.ty) (enumerate_from l.index (drop l.member-index l.members)))
    (flat_map (member_value (value_view l.root) l.«module» l.ty) (enumerate_from 0 l.members))
