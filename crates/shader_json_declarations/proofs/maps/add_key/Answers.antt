use Rattle.std.proofs.Common.{sym}
use Rattle.shader_json_declarations.proofs.DistinctLemmas.{absent_new, not_in_set}
use Rattle.shader_json_declarations.proofs.maps.add_key.Goals as goal

pub returns-then-branch-clause-absent : goal.returns-then-branch-clause-absent
returns-then-branch-clause-absent g c =
    absent_new g.K.PartialEq.eq g.met.K.Eq.laws c.args.key c.args.keys.now.keys c.in_ok-insert.field-0 c.in_ok-insert.ensures.added
    c.if-branch.true

pub returns-else-branch-clause-accepts : goal.returns-else-branch-clause-accepts
returns-else-branch-clause-accepts g c = λ decides absent.
    not_in_set g.K.PartialEq.eq decides c.args.key c.args.keys.now.keys c.in_ok-insert.field-0 c.in_ok-insert.ensures.added
    (sym c.if-branch.false) absent
