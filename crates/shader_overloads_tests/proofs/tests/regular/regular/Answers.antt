use Rattle.std.proofs.Common.{◌≡◌, true, List, [], ◌∷◌, refl}
use Rattle.std.specs.List.{list_all}
use Rattle.shader_overloads.specs.declared.constructor_set.ConstructorSize.{ConstructorSize}
use Rattle.shader_overloads.specs.declared.regular.ConclusionRule.TheVariants.{ArgumentType}
use Rattle.shader_overloads.specs.Constructors.{constructors_in}
use Rattle.shader_overloads.specs.Rules.{can_conclude}
use Rattle.shader_overloads_tests.proofs.tests.regular.regular.Goals as goal

-- any constructor's type is a conclusion
all_conclude : (sizes : List ConstructorSize) → list_all (can_conclude ArgumentType) sizes ≡ true
all_conclude [] = refl
all_conclude (size ∷ sizes) = all_conclude sizes

pub new-requires-clause-conclude : goal.new-requires-clause-conclude
new-requires-clause-conclude c = all_conclude (constructors_in c.args.constructors)
