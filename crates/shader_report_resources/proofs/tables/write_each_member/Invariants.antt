use Rattle.std.proofs.Common.{drop, flat_map}
use Rattle.shader_report_resources.specs.Tables.{member_tokens}
use Rattle.report_json.specs.Tokens.{Leads}
use Rattle.shader_report_resources.proofs.tables.write_each_member.Given as goal

abbrev pub invariant-loop-member : goal.invariant-loop-member
invariant-loop-member l =
    Leads l.initial.writer l.writer (flat_map (member_tokens l.«module») (drop l.member-index l.members))
    (flat_map (member_tokens l.«module») l.members)
