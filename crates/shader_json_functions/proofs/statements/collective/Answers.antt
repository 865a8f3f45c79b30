use Rattle.std.proofs.Common.{codes, refl}
use Rattle.shader_ir.specs.Body as s
use Rattle.shader_json_reader.proofs.AnswerLemmas.{of_members, passed_on}
use Rattle.shader_json_reader.proofs.ShapeLemmas.{apart}
use Rattle.shader_json_functions.proofs.DeterminedSimple.{label_simple}
use Rattle.shader_json_functions.proofs.statements.collective.Goals as goal

pub returns-in_err-op-clause-accepts : goal.returns-in_err-op-clause-accepts
returns-in_err-op-clause-accepts c (s.SubgroupCollectiveOperation op collective_op argument result) u =
    let f = of_members _ _ _ c.in_ok-fields.ensures.reads u.1 in
    passed_on _ _ c.from_residual-in_err-op.ensures.1
    (c.in_err-op.ensures.accepts (record { 0 = op }, record { 0 = collective_op }) (f.0, f.1))
returns-in_err-op-clause-accepts c x u = apart (codes "SubgroupCollectiveOperation") (label_simple x) refl u.0

pub returns-in_err-argument-clause-accepts : goal.returns-in_err-argument-clause-accepts
returns-in_err-argument-clause-accepts c (s.SubgroupCollectiveOperation op collective_op argument result) u =
    let f = of_members _ _ _ c.in_ok-fields.ensures.reads u.1 in
    passed_on _ _ c.from_residual-in_err-argument.ensures.1 (c.in_err-argument.ensures.accepts (argument, result) (f.2, f.3))
returns-in_err-argument-clause-accepts c x u = apart (codes "SubgroupCollectiveOperation") (label_simple x) refl u.0
