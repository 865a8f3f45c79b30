use Rattle.std.proofs.Common.{codes, refl}
use Rattle.shader_ir.specs.Body as s
use Rattle.shader_json_reader.proofs.AnswerLemmas.{passed_on}
use Rattle.shader_json_reader.proofs.ShapeLemmas.{apart}
use Rattle.shader_json_functions.proofs.DeterminedSimple.{label_simple}
use Rattle.shader_json_functions.proofs.statements.memory_barrier.Goals as goal

pub returns-in_err-barrier-clause-accepts : goal.returns-in_err-barrier-clause-accepts
returns-in_err-barrier-clause-accepts c (s.MemoryBarrier barrier) u =
    passed_on _ _ c.from_residual.ensures.1 (c.in_err-barrier.ensures.accepts (record { 0 = barrier }) u.1)
returns-in_err-barrier-clause-accepts c x u = apart (codes "MemoryBarrier") (label_simple x) refl u.0
