use Rattle.std.proofs.Common.{◌∙◌, sym}
use Rattle.shader_json_declarations.proofs.DistinctLemmas.{absent_grown, not_in_arena}
use Rattle.shader_json_declarations.proofs.maps.add_item.Goals as goal

pub returns-clause-absent : goal.returns-clause-absent
returns-clause-absent g c =
    absent_grown g.T.PartialEq.eq g.met.T.Eq.laws c.args.item c.args.items.now c.insert.new.self c.in_ok-insert.ensures.inserted
    (λ same. c.if-len-index.false (c.len.ensures.len ∙ same ∙ c.requires))

pub returns-then-len-index-clause-accepts : goal.returns-then-len-index-clause-accepts
returns-then-len-index-clause-accepts g c = λ decides absent room.
    not_in_arena g.T.PartialEq.eq decides c.args.item c.args.items.now c.insert.new.self c.in_ok-insert.ensures.inserted
    (sym c.len.ensures.len ∙ (c.if-len-index.true ∙ sym c.requires)) absent
