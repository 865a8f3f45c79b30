-- One step removes the lowest set bit.
use Rattle.std.proofs.Common.{rules, ap, sym, ◌∙◌, arith, length}
use Rattle.shader_overloads.specs.Bits.{one_bits}
use Rattle.shader_overloads.proofs.BitLemmas.{one_bits_step, one_bits_none}
use Rattle.shader_overloads.proofs.one_bits_iter.OneBitsIterIterator.next.Goals as goal

pub returns-then-self-eq0-clause-steps : goal.returns-then-self-eq0-clause-steps
returns-then-self-eq0-clause-steps c = let none = sym c.self.view_is ∙ ap one_bits c.if-self-eq0.true ∙ one_bits_none in (none, none)

pub returns-clause-steps : goal.returns-clause-steps
returns-clause-steps c = sym c.self.view_is ∙ one_bits_step c.self.inside.bits (omega arith) (omega arith)

pub returns-clause-goes : goal.returns-clause-goes
returns-clause-goes c =
    let fewer = ap length (sym c.self.view_is ∙ one_bits_step c.self.inside.bits (omega arith) (omega arith)) in
    search (rules, arith)
