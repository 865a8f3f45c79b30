use Rattle.shader_report_json.proofs.TakeLemmas.{one_reported}
use Rattle.shader_report_json.proofs.answer.add_entry_points.Goals as goal

pub loop-index-preserved : goal.loop-index-preserved
loop-index-preserved c =
    one_reported c.args.infos.now.entry_points c.loop-index.index c.get_entry_point.result.now c.loop-index.answers.items
    c.add_answer.new.answers.items c.loop-index.invariant c.get_entry_point.ensures c.in_ok-add_answer.ensures
