use Rattle.std.proofs.Common.{ap, arith, slice_get}
use Rattle.std.specs.Int.{w16}
use Rattle.shader_overloads.specs.Constructors.{all_constructors}
use Rattle.shader_overloads.specs.declared.constructor_set.ConstructorSize.TheVariants as sizes
use Rattle.shader_overloads.proofs.BitLemmas.{first_element}
use Rattle.shader_overloads.proofs.constructor_set.ConstructorSet.first_size.Goals as goal

pub bounds-self : goal.bounds-self
unfolding all_constructors
bounds-self c = (first_element w16 c.args.self.0 all_constructors sizes.Scalar (omega arith) c.requires).0

pub returns : goal.returns
unfolding all_constructors
returns c = ap (λ xs. slice_get xs 0) (first_element w16 c.args.self.0 all_constructors _ (omega arith) c.requires).1.is
