use Rattle.std.proofs.Common.{codes, refl}
use Rattle.shader_ir.specs.Body as s
use Rattle.shader_json_reader.proofs.AnswerLemmas.{of_members, passed_on}
use Rattle.shader_json_reader.proofs.ShapeLemmas.{apart}
use Rattle.shader_json_functions.proofs.DeterminedSimple.{label_simple}
use Rattle.shader_json_functions.proofs.statements.ballot.Goals as goal

pub returns-in_err-needed-clause-accepts : goal.returns-in_err-needed-clause-accepts
returns-in_err-needed-clause-accepts c (s.SubgroupBallot result predicate) u =
    let f = of_members _ _ _ c.in_ok-fields.ensures.reads u.1 in
    passed_on _ _ c.from_residual-in_err-needed.ensures.1 (c.in_err-needed.ensures.accepts result f.0)
returns-in_err-needed-clause-accepts c x u = apart (codes "SubgroupBallot") (label_simple x) refl u.0

pub returns-in_err-optional-clause-accepts : goal.returns-in_err-optional-clause-accepts
returns-in_err-optional-clause-accepts c (s.SubgroupBallot result predicate) u =
    let f = of_members _ _ _ c.in_ok-fields.ensures.reads u.1 in
    passed_on _ _ c.from_residual-in_err-optional.ensures.1 (c.in_err-optional.ensures.accepts predicate f.1)
returns-in_err-optional-clause-accepts c x u = apart (codes "SubgroupBallot") (label_simple x) refl u.0
