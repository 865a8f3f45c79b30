use Rattle.std.proofs.Common.{codes, refl}
use Rattle.shader_ir.specs.Body as s
use Rattle.shader_json_reader.proofs.AnswerLemmas.{of_members, passed_on}
use Rattle.shader_json_reader.proofs.ShapeLemmas.{apart}
use Rattle.shader_json_functions.proofs.DeterminedSimple.{label_simple}
use Rattle.shader_json_functions.proofs.statements.image_atomic.Goals as goal

pub returns-in_err-fun-clause-accepts : goal.returns-in_err-fun-clause-accepts
returns-in_err-fun-clause-accepts c (s.ImageAtomic image coordinate array_index fun value) u =
    let f = of_members _ _ _ c.in_ok-fields.ensures.reads u.1 in
    passed_on _ _ c.from_residual-in_err-fun.ensures.1
    (c.in_err-fun.ensures.accepts (record { 0 = fun }, image, coordinate) (f.3, f.0, f.1))
returns-in_err-fun-clause-accepts c x u = apart (codes "ImageAtomic") (label_simple x) refl u.0

pub returns-in_err-optional-clause-accepts : goal.returns-in_err-optional-clause-accepts
returns-in_err-optional-clause-accepts c (s.ImageAtomic image coordinate array_index fun value) u =
    let f = of_members _ _ _ c.in_ok-fields.ensures.reads u.1 in
    passed_on _ _ c.from_residual-in_err-optional.ensures.1 (c.in_err-optional.ensures.accepts array_index f.2)
returns-in_err-optional-clause-accepts c x u = apart (codes "ImageAtomic") (label_simple x) refl u.0

pub returns-in_err-needed-clause-accepts : goal.returns-in_err-needed-clause-accepts
returns-in_err-needed-clause-accepts c (s.ImageAtomic image coordinate array_index fun value) u =
    let f = of_members _ _ _ c.in_ok-fields.ensures.reads u.1 in
    passed_on _ _ c.from_residual-in_err-needed.ensures.1 (c.in_err-needed.ensures.accepts value f.4)
returns-in_err-needed-clause-accepts c x u = apart (codes "ImageAtomic") (label_simple x) refl u.0
