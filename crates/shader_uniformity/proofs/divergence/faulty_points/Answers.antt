use Rattle.std.proofs.Common.{◌∙◌, ◌+◌, sym, subst, ap, Bool, List, take, [], ◌++◌, ◌∷◌}
use Rattle.std.proofs.lemmas.List.{take_more}
use Rattle.shader_uniformity.specs.Fault.{AreFaulty, none, next}
use Rattle.shader_uniformity.specs.Words.{EntryPoint}
use Rattle.shader_uniformity.proofs.divergence.faulty_points.Goals as goal

pub loop-point-init : goal.loop-point-init
loop-point-init c =
    let P : List Bool → Type 0 = λ v. AreFaulty c.args.module.now c.args.callees.now [] v in
    subst P (sym c.new-faulty.ensures.items) none

pub loop-point-preserved : goal.loop-point-preserved
loop-point-preserved c =
    let P : List Bool → Type 0 = λ v. AreFaulty c.args.module.now c.args.callees.now
    (take (c.loop-point.point-index + 1) c.args.points.now) v in
    let Q : List EntryPoint → Type 0 = λ v. AreFaulty c.args.module.now c.args.callees.now v
    (c.loop-point.faulty.items ++ c.in_ok-is_fault.field-0 ∷ []) in
    subst P (sym c.in_ok-push.ensures.items) (subst Q
    (sym (take_more c.args.points.now c.loop-point.point-index c.point-item.result c.loop-point-test.true
    ∙ ap (λ (x : EntryPoint). take c.loop-point.point-index c.args.points.now ++ x ∷ []) (sym c.point-item.is)))
    (next c.point-item.result c.in_ok-is_fault.field-0 c.loop-point.invariant c.in_ok-is_fault.ensures))
