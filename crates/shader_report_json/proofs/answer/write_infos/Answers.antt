use Rattle.std.proofs.lemmas.Result.{on_ok_weaker}
use Rattle.report_json.proofs.WritingLemmas.{writes_then}
use Rattle.shader_report_json.proofs.TakeLemmas.{infos_tokens, infos_written}
use Rattle.shader_report_json.proofs.answer.write_infos.Goals as goal

pub returns : goal.returns
returns c =
    let functions = c.add_functions.new.answers.items in
    let entry_points = c.add_entry_points.new.answers.items in
    let types = c.in_ok-types.types.items in
    let found = infos_written c.args.infos.now functions entry_points types c.in_ok-add_functions.ensures c.in_ok-add_entry_points.ensures
    c.in_ok-types.ensures in
    on_ok_weaker c.write_object.result
    (λ adds. (infos_tokens functions entry_points types, found, writes_then c.in_ok-key.ensures adds)) c.write_object.ensures
