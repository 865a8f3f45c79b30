use Rattle.std.proofs.Common.{drop, flat_map}
use Rattle.report_json.specs.Tokens.{Leads}
use Rattle.report_json.proofs.write_json.write_list.Given as goal

abbrev pub invariant-loop-value : goal.invariant-loop-value
invariant-loop-value g l =
    Leads l.initial.writer l.writer (flat_map g.T.WriteJson.tokens (drop l.value-index l.values))
    (flat_map g.T.WriteJson.tokens l.values)
