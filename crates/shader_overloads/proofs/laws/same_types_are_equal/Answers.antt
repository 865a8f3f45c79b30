use Rattle.shader_overloads.proofs.TakesLemmas.{same_type-from, same_type-reported}
use Rattle.shader_overloads.proofs.laws.same_types_are_equal.Goals as goal

pub returns : goal.returns
returns c left right = (same_type-reported left right, same_type-from left right)
