use Rattle.std.proofs.Common.{arith}
use Rattle.shader_uniformity_needs.proofs.NoteLemmas.{noted_within}
use Rattle.shader_uniformity_needs.proofs.notes.add_beginning.Goals as goal

pub returns-in_ok-add_fact-clause-noted : goal.returns-in_ok-add_fact-clause-noted
returns-in_ok-add_fact-clause-noted c =
    let test = c.if-function-len.true in
    let len = c.len.ensures in
    noted_within c.args.begun.now.items c.args.function c.args.fact c.index_mut.result.now c.add_fact.new.facts (omega (arith, test, len))
    c.index_mut.ensures.value c.in_ok-add_fact.ensures
