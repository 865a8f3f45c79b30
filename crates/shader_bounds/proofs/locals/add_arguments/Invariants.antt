use Rattle.std.proofs.Common.{◌⊎◌}
use Rattle.std.specs.Iterator.Adapters.{zip_first, zip_second}
use Rattle.std.specs.List.{Contains, zip}
use Rattle.std.specs.Slice.Iter.{iter_rest}
use Rattle.shader_bounds.specs.Adds.{Adds}
use Rattle.shader_bounds.specs.Locals.{PairsPass}
use Rattle.shader_bounds.specs.Typed.{Records}
use Rattle.shader_bounds.proofs.locals.add_arguments.Given as goal

abbrev pub invariant-loop-parameter : goal.invariant-loop-parameter
invariant-loop-parameter l =
    Adds (PairsPass l.module l.function (Records l.info) (zip (iter_rest (zip_first l.parameter-iterator))
    (iter_rest (zip_second l.parameter-iterator))))
    (λ ty. Contains l.fn.locals.keys ty ⊎ PairsPass l.module l.function (Records l.info) (zip l.fn.parameters l.fn.arguments) ty)
    (Contains l.locals.keys)
