use Rattle.std.proofs.Common.{drop, flat_map}
use Rattle.shader_report_resources.specs.Entries.{pair_tokens}
use Rattle.report_json.specs.Tokens.{Leads}
use Rattle.shader_report_resources.proofs.entries.write_pairs.Given as goal

abbrev pub invariant-loop-pair : goal.invariant-loop-pair
invariant-loop-pair l =
    Leads l.initial.writer l.writer (flat_map pair_tokens (drop l.pair-index l.pairs)) (flat_map pair_tokens l.pairs)
