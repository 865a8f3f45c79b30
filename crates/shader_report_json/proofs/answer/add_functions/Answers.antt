use Rattle.std.proofs.Common.{◌≡◌, Some, slice_get, subst}
use Rattle.shader_report_json.proofs.TakeLemmas.{one_reported}
use Rattle.shader_report_json.proofs.answer.add_functions.Goals as goal

pub loop-index-preserved : goal.loop-index-preserved
loop-index-preserved c =
    let infos = c.args.infos.now.functions in
    let is : c.from_index-handle.result ≡ c.loop-index.index = c.from_index-handle.ensures in
    one_reported infos c.loop-index.index c.index.result.now c.loop-index.answers.items c.add_answer.new.answers.items
    c.loop-index.invariant
    (subst (λ i. slice_get infos i ≡ Some c.index.result.now) is c.index.ensures) c.in_ok-add_answer.ensures
