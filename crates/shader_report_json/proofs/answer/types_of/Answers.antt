use Rattle.std.proofs.Common.{◌≡◌, Bor, Some, slice_get, subst}
use Rattle.shader_ir.specs.declared.proc.type_resolution.TypeResolution.{TypeResolution}
use Rattle.shader_report_json.proofs.TakeLemmas.{one_pushed}
use Rattle.shader_report_json.proofs.answer.types_of.Goals as goal

pub loop-index-preserved : goal.loop-index-preserved
loop-index-preserved c =
    let types = c.args.infos.now.global_expressions in
    let n = c.loop-index.index in
    let is : c.from_index-handle.result ≡ n = c.from_index-handle.ensures in
    let at : slice_get types n ≡ Some c.index.result.now = subst (λ i. slice_get types i ≡ Some c.index.result.now) is c.index.ensures in
    one_pushed (λ (ty : Bor TypeResolution). ty.now) types n c.loop-index.types.items c.push.new.self.items c.index.result
    c.loop-index.invariant at c.in_ok-push.ensures.items
