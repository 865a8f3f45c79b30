use Rattle.std.proofs.Common.{◌∙◌, sym}
use Rattle.std.proofs.lemmas.List.{nil_from_length}
use Rattle.shader_overloads.proofs.CombinationLemmas.{pairs_done}
use Rattle.shader_overloads.proofs.combinations.PairsLeftIterator.next.Goals as goal

pub returns-in_err-second-clause-steps : goal.returns-in_err-second-clause-steps
returns-in_err-second-clause-steps g c =
    let empty = nil_from_length c.self.inside.partners.now c.in_err-second.ensures.cases in
    let none = sym c.self.view_is ∙ pairs_done _ _ _ empty (c.self.invariant empty) in
    rw c.from_residual.ensures (none, none)
