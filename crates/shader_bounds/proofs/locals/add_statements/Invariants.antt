use Rattle.std.proofs.Common.{◌⊎◌, drop}
use Rattle.std.specs.List.{Contains}
use Rattle.shader_bounds.specs.Adds.{Adds}
use Rattle.shader_bounds.specs.Locals.{AllPass}
use Rattle.shader_bounds.specs.Typed.{Records}
use Rattle.shader_passes.specs.StatementLists.{steps_of}
use Rattle.shader_bounds.proofs.locals.add_statements.Given as goal

abbrev pub invariant-loop-statement : goal.invariant-loop-statement
invariant-loop-statement l =
    Adds (AllPass l.module l.function (Records l.info) (steps_of (drop l.statement-index l.all)))
    (λ ty. Contains l.fn.locals.keys ty ⊎ AllPass l.module l.function (Records l.info) (steps_of l.all) ty) (Contains l.locals.keys)
