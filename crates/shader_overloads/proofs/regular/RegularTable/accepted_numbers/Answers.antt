use Rattle.std.proofs.Common.{◌∙◌}
use Rattle.shader_overloads.specs.declared.constructor_set.ConstructorSize.TheVariants as sizes
use Rattle.shader_overloads.proofs.RegularLemmas.{number_accepts, number_past}
use Rattle.shader_overloads.proofs.regular.RegularTable.accepted_numbers.Goals as goal

pub returns-then-i-self : goal.returns-then-i-self
returns-then-i-self c types number rule at = c.empty.ensures number
    ∙ number_past c.args.self number rule at types c.args.i c.args.ty.now c.if-i-self.true

pub returns-in-Scalar : goal.returns-in-Scalar
returns-in-Scalar c types number rule at =
    number_accepts c.args.self number rule at types c.args.i c.args.ty.now sizes.Scalar c.in-Scalar.scalar c.accepting_numbers.result
    c.in-Scalar.is
    c.if-i-self.false c.accepting_numbers.ensures

pub returns-in-Vector : goal.returns-in-Vector
returns-in-Vector c types number rule at =
    number_accepts c.args.self number rule at types c.args.i c.args.ty.now (sizes.Vector c.in-Vector.size) c.in-Vector.scalar
    c.accepting_numbers-in-Vector.result c.in-Vector.is c.if-i-self.false c.accepting_numbers-in-Vector.ensures

pub returns-in-Matrix : goal.returns-in-Matrix
returns-in-Matrix c types number rule at =
    number_accepts c.args.self number rule at types c.args.i c.args.ty.now (sizes.Matrix c.in-Matrix.columns c.in-Matrix.rows)
    c.in-Matrix.scalar
    c.accepting_numbers-in-Matrix.result c.in-Matrix.is c.if-i-self.false c.accepting_numbers-in-Matrix.ensures
