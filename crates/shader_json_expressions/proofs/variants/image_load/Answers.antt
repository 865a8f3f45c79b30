use Rattle.std.proofs.Common.{codes, refl}
use Rattle.shader_ir.specs.declared.expression.Expression.TheVariants as e
use Rattle.shader_json_reader.proofs.AnswerLemmas.{of_members, passed_on}
use Rattle.shader_json_reader.proofs.ShapeLemmas.{apart}
use Rattle.shader_json_expressions.proofs.DeterminedExpressions.{label_expression}
use Rattle.shader_json_expressions.proofs.variants.image_load.Goals as goal

pub returns-in_err-image-clause-accepts : goal.returns-in_err-image-clause-accepts
returns-in_err-image-clause-accepts c (e.ImageLoad image coordinate array_index sample level) u =
    let f = of_members _ _ _ c.in_ok-fields.ensures.reads u.1 in
    passed_on _ _ c.from_residual-in_err-image.ensures.1 (c.in_err-image.ensures.accepts (image, coordinate) (f.0, f.1))
returns-in_err-image-clause-accepts c x u = apart (codes "ImageLoad") (label_expression x) refl u.0

pub returns-in_err-optional-clause-accepts : goal.returns-in_err-optional-clause-accepts
returns-in_err-optional-clause-accepts c (e.ImageLoad image coordinate array_index sample level) u =
    let f = of_members _ _ _ c.in_ok-fields.ensures.reads u.1 in
    passed_on _ _ c.from_residual-in_err-optional.ensures.1 (c.in_err-optional.ensures.accepts array_index f.2)
returns-in_err-optional-clause-accepts c x u = apart (codes "ImageLoad") (label_expression x) refl u.0

pub returns-in_err-optional-2-clause-accepts : goal.returns-in_err-optional-2-clause-accepts
returns-in_err-optional-2-clause-accepts c (e.ImageLoad image coordinate array_index sample level) u =
    let f = of_members _ _ _ c.in_ok-fields.ensures.reads u.1 in
    passed_on _ _ c.from_residual-in_err-optional-2.ensures.1 (c.in_err-optional-2.ensures.accepts sample f.3)
returns-in_err-optional-2-clause-accepts c x u = apart (codes "ImageLoad") (label_expression x) refl u.0

pub returns-in_err-optional-3-clause-accepts : goal.returns-in_err-optional-3-clause-accepts
returns-in_err-optional-3-clause-accepts c (e.ImageLoad image coordinate array_index sample level) u =
    let f = of_members _ _ _ c.in_ok-fields.ensures.reads u.1 in
    passed_on _ _ c.from_residual-in_err-optional-3.ensures.1 (c.in_err-optional-3.ensures.accepts level f.4)
returns-in_err-optional-3-clause-accepts c x u = apart (codes "ImageLoad") (label_expression x) refl u.0
