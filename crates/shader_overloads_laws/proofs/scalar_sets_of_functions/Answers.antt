use Rattle.shader_overloads_laws.proofs.Shapes as shapes
use Rattle.shader_overloads_laws.proofs.scalar_sets_of_functions.Goals as goal

pub returns : goal.returns
returns c = shapes.scalar_sets_arise
