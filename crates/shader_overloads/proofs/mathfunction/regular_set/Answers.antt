use Rattle.std.proofs.Common.{refl, sym, ◌∙◌}
use Rattle.shader_overloads.proofs.BuiltinLemmas.{joined}
use Rattle.shader_overloads.proofs.mathfunction.regular_set.Goals as goal

-- none of the groups before contains the function, and those after it aren't consulted
pub returns-in-Some : goal.returns-in-Some
returns-in-Some c =
    joined c.args.function (sym c.in-Some.is ∙ c.float_set.ensures) refl refl refl refl refl

pub returns-in-Some-number_set : goal.returns-in-Some-number_set
returns-in-Some-number_set c =
    joined c.args.function (sym c.in-None.is ∙ c.float_set.ensures) (sym c.in-Some-number_set.is ∙ c.number_set.ensures) refl refl refl
    refl

pub returns-in-Some-packing_set : goal.returns-in-Some-packing_set
returns-in-Some-packing_set c =
    joined c.args.function (sym c.in-None.is ∙ c.float_set.ensures) (sym c.in-None-number_set.is ∙ c.number_set.ensures)
    (sym c.in-Some-packing_set.is ∙ c.packing_set.ensures) refl refl refl

pub returns-in-Some-geometric_set : goal.returns-in-Some-geometric_set
returns-in-Some-geometric_set c =
    joined c.args.function (sym c.in-None.is ∙ c.float_set.ensures) (sym c.in-None-number_set.is ∙ c.number_set.ensures)
    (sym c.in-None-packing_set.is ∙ c.packing_set.ensures) (sym c.in-Some-geometric_set.is ∙ c.geometric_set.ensures) refl refl

pub returns-in-Some-matrix_set : goal.returns-in-Some-matrix_set
returns-in-Some-matrix_set c =
    joined c.args.function (sym c.in-None.is ∙ c.float_set.ensures) (sym c.in-None-number_set.is ∙ c.number_set.ensures)
    (sym c.in-None-packing_set.is ∙ c.packing_set.ensures) (sym c.in-None-geometric_set.is ∙ c.geometric_set.ensures)
    (sym c.in-Some-matrix_set.is ∙ c.matrix_set.ensures) refl

pub returns-in-None-matrix_set : goal.returns-in-None-matrix_set
returns-in-None-matrix_set c =
    joined c.args.function (sym c.in-None.is ∙ c.float_set.ensures) (sym c.in-None-number_set.is ∙ c.number_set.ensures)
    (sym c.in-None-packing_set.is ∙ c.packing_set.ensures) (sym c.in-None-geometric_set.is ∙ c.geometric_set.ensures)
    (sym c.in-None-matrix_set.is ∙ c.matrix_set.ensures) c.splitting_set.ensures
