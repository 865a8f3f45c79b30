use Rattle.std.proofs.Common.{codes, refl}
use Rattle.shader_ir.specs.Body as s
use Rattle.shader_json_reader.proofs.AnswerLemmas.{of_members, passed_on}
use Rattle.shader_json_reader.proofs.ShapeLemmas.{apart}
use Rattle.shader_json_functions.proofs.DeterminedSimple.{label_simple}
use Rattle.shader_json_functions.proofs.statements.image_store.Goals as goal

pub returns-in_err-image-clause-accepts : goal.returns-in_err-image-clause-accepts
returns-in_err-image-clause-accepts c (s.ImageStore image coordinate array_index value) u =
    let f = of_members _ _ _ c.in_ok-fields.ensures.reads u.1 in
    passed_on _ _ c.from_residual-in_err-image.ensures.1 (c.in_err-image.ensures.accepts (image, coordinate) (f.0, f.1))
returns-in_err-image-clause-accepts c x u = apart (codes "ImageStore") (label_simple x) refl u.0

pub returns-in_err-optional-clause-accepts : goal.returns-in_err-optional-clause-accepts
returns-in_err-optional-clause-accepts c (s.ImageStore image coordinate array_index value) u =
    let f = of_members _ _ _ c.in_ok-fields.ensures.reads u.1 in
    passed_on _ _ c.from_residual-in_err-optional.ensures.1 (c.in_err-optional.ensures.accepts array_index f.2)
returns-in_err-optional-clause-accepts c x u = apart (codes "ImageStore") (label_simple x) refl u.0

pub returns-in_err-needed-clause-accepts : goal.returns-in_err-needed-clause-accepts
returns-in_err-needed-clause-accepts c (s.ImageStore image coordinate array_index value) u =
    let f = of_members _ _ _ c.in_ok-fields.ensures.reads u.1 in
    passed_on _ _ c.from_residual-in_err-needed.ensures.1 (c.in_err-needed.ensures.accepts value f.3)
returns-in_err-needed-clause-accepts c x u = apart (codes "ImageStore") (label_simple x) refl u.0
