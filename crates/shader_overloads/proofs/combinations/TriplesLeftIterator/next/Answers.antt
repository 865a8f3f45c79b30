use Rattle.std.proofs.Common.{◌∙◌, sym}
use Rattle.shader_overloads.proofs.CombinationLemmas.{triples_done}
use Rattle.shader_overloads.proofs.combinations.TriplesLeftIterator.next.Goals as goal

pub returns-in_err-second-clause-steps : goal.returns-in_err-second-clause-steps
returns-in_err-second-clause-steps g c =
    let empty = sym c.pairs-self-inside.ensures ∙ c.in_err-second.ensures.steps.0 in
    let none = sym c.self.view_is ∙ triples_done c.self.inside.left.now c.self.inside.partners c.self.inside.middle.now
    c.self.inside.right.now c.in_default.ensures.steps.0 empty in
    rw c.from_residual-in_err-second.ensures (none, triples_done _ _ _ _ c.in_err-second.ensures.steps.1 empty)
