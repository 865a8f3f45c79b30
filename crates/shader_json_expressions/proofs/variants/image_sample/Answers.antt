use Rattle.std.proofs.Common.{codes, refl}
use Rattle.shader_ir.specs.declared.expression.Expression.TheVariants as e
use Rattle.shader_json_reader.proofs.AnswerLemmas.{of_members, passed_on}
use Rattle.shader_json_reader.proofs.ShapeLemmas.{apart}
use Rattle.shader_json_expressions.proofs.DeterminedExpressions.{label_expression}
use Rattle.shader_json_expressions.proofs.variants.image_sample.Goals as goal

pub returns-in_err-gather-clause-accepts : goal.returns-in_err-gather-clause-accepts
returns-in_err-gather-clause-accepts c
    (e.ImageSample image sampler gather clamp_to_edge coordinate array_index offset level depth_ref) u =
    let f = of_members _ _ _ c.in_ok-fields.ensures.reads u.1 in
    passed_on _ _ c.from_residual-in_err-gather.ensures.1 (c.in_err-gather.ensures.accepts (record { 0 = gather }) f.2)
returns-in_err-gather-clause-accepts c x u = apart (codes "ImageSample") (label_expression x) refl u.0

pub returns-in_err-level-clause-accepts : goal.returns-in_err-level-clause-accepts
returns-in_err-level-clause-accepts c
    (e.ImageSample image sampler gather clamp_to_edge coordinate array_index offset level depth_ref) u =
    let f = of_members _ _ _ c.in_ok-fields.ensures.reads u.1 in
    passed_on _ _ c.from_residual-in_err-level.ensures.1
    (c.in_err-level.ensures.accepts (record { 0 = level }, image, sampler) (f.7, f.0, f.1))
returns-in_err-level-clause-accepts c x u = apart (codes "ImageSample") (label_expression x) refl u.0

pub returns-in_err-needed-clause-accepts : goal.returns-in_err-needed-clause-accepts
returns-in_err-needed-clause-accepts c
    (e.ImageSample image sampler gather clamp_to_edge coordinate array_index offset level depth_ref) u =
    let f = of_members _ _ _ c.in_ok-fields.ensures.reads u.1 in
    passed_on _ _ c.from_residual-in_err-needed.ensures.1 (c.in_err-needed.ensures.accepts coordinate f.4)
returns-in_err-needed-clause-accepts c x u = apart (codes "ImageSample") (label_expression x) refl u.0

pub returns-in_err-optional-clause-accepts : goal.returns-in_err-optional-clause-accepts
returns-in_err-optional-clause-accepts c
    (e.ImageSample image sampler gather clamp_to_edge coordinate array_index offset level depth_ref) u =
    let f = of_members _ _ _ c.in_ok-fields.ensures.reads u.1 in
    passed_on _ _ c.from_residual-in_err-optional.ensures.1 (c.in_err-optional.ensures.accepts array_index f.5)
returns-in_err-optional-clause-accepts c x u = apart (codes "ImageSample") (label_expression x) refl u.0

pub returns-in_err-optional-2-clause-accepts : goal.returns-in_err-optional-2-clause-accepts
returns-in_err-optional-2-clause-accepts c
    (e.ImageSample image sampler gather clamp_to_edge coordinate array_index offset level depth_ref) u =
    let f = of_members _ _ _ c.in_ok-fields.ensures.reads u.1 in
    passed_on _ _ c.from_residual-in_err-optional-2.ensures.1 (c.in_err-optional-2.ensures.accepts offset f.6)
returns-in_err-optional-2-clause-accepts c x u = apart (codes "ImageSample") (label_expression x) refl u.0

pub returns-in_err-optional-3-clause-accepts : goal.returns-in_err-optional-3-clause-accepts
returns-in_err-optional-3-clause-accepts c
    (e.ImageSample image sampler gather clamp_to_edge coordinate array_index offset level depth_ref) u =
    let f = of_members _ _ _ c.in_ok-fields.ensures.reads u.1 in
    passed_on _ _ c.from_residual-in_err-optional-3.ensures.1 (c.in_err-optional-3.ensures.accepts depth_ref f.8)
returns-in_err-optional-3-clause-accepts c x u = apart (codes "ImageSample") (label_expression x) refl u.0

pub returns-in_err-needed-2-clause-accepts : goal.returns-in_err-needed-2-clause-accepts
returns-in_err-needed-2-clause-accepts c
    (e.ImageSample image sampler gather clamp_to_edge coordinate array_index offset level depth_ref) u =
    let f = of_members _ _ _ c.in_ok-fields.ensures.reads u.1 in
    passed_on _ _ c.from_residual-in_err-needed-2.ensures.1 (c.in_err-needed-2.ensures.accepts clamp_to_edge f.3)
returns-in_err-needed-2-clause-accepts c x u = apart (codes "ImageSample") (label_expression x) refl u.0
