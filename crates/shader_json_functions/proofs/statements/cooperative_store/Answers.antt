use Rattle.std.proofs.Common.{codes, refl}
use Rattle.shader_ir.specs.Body as s
use Rattle.shader_json_reader.proofs.AnswerLemmas.{passed_on}
use Rattle.shader_json_reader.proofs.ShapeLemmas.{apart}
use Rattle.shader_json_functions.proofs.DeterminedSimple.{label_simple}
use Rattle.shader_json_functions.proofs.AcceptLemmas.{swapped}
use Rattle.shader_json_functions.proofs.statements.cooperative_store.Goals as goal

pub returns-in_err-tile-clause-accepts : goal.returns-in_err-tile-clause-accepts
returns-in_err-tile-clause-accepts c (s.CooperativeStore target tile) u =
    passed_on _ _ c.from_residual.ensures.1 (c.in_err-tile.ensures.accepts (record { 0 = tile }, target) (swapped _ _ _ u.1))
returns-in_err-tile-clause-accepts c x u = apart (codes "CooperativeStore") (label_simple x) refl u.0
