use Rattle.std.proofs.Common.{◌≡◌, drop, flat_map}
use Rattle.std.specs.List.{enumerate_from}
use Rattle.shader_report_resources.specs.Entries.{use_tokens}
use Rattle.report_json.specs.Tokens.{Leads}
use Rattle.shader_report_resources.proofs.entries.write_each_use.Given as goal

abbrev pub invariant-loop-used : goal.invariant-loop-used
invariant-loop-used l =
    (l.index ≡ l.used-index)
    × Leads l.initial.writer l.writer (flat_map use_tokens (enumerate_from l.index (drop l.used-index l.uses)))
    (flat_map use_tokens (enumerate_from 0 l.uses))
