use Rattle.std.proofs.Common.{codes, refl}
use Rattle.shader_ir.specs.Body as s
use Rattle.shader_json_reader.proofs.AnswerLemmas.{passed_on}
use Rattle.shader_json_reader.proofs.ShapeLemmas.{apart}
use Rattle.shader_json_functions.proofs.DeterminedSimple.{label_simple}
use Rattle.shader_json_functions.proofs.statements.gather.Goals as goal

pub returns-in_err-mode-clause-accepts : goal.returns-in_err-mode-clause-accepts
returns-in_err-mode-clause-accepts c (s.SubgroupGather mode argument result) u =
    passed_on _ _ c.from_residual.ensures.1 (c.in_err-mode.ensures.accepts (record { 0 = mode }, argument, result) u.1)
returns-in_err-mode-clause-accepts c x u = apart (codes "SubgroupGather") (label_simple x) refl u.0
