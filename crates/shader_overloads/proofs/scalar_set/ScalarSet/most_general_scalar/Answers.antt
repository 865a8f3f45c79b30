use Rattle.std.proofs.Common.{ap, arith, slice_get}
use Rattle.std.specs.Int.{w16}
use Rattle.shader_ir.specs.Scalars.{named_scalars, abstract_int}
use Rattle.shader_overloads.proofs.BitLemmas.{first_element}
use Rattle.shader_overloads.proofs.scalar_set.ScalarSet.most_general_scalar.Goals as goal

pub bounds-self : goal.bounds-self
unfolding named_scalars
bounds-self c = (first_element w16 c.args.self.0 named_scalars abstract_int (omega arith) c.requires).0

pub returns : goal.returns
unfolding named_scalars
returns c = ap (λ xs. slice_get xs 0) (first_element w16 c.args.self.0 named_scalars _ (omega arith) c.requires).1.is
