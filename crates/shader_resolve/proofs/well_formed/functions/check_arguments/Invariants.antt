use Rattle.std.proofs.Common.{◌≡◌, drop}
use Rattle.shader_resolve.specs.ModuleTests.{check_argument, in_list}
use Rattle.shader_resolve.proofs.well_formed.functions.check_arguments.Given as goal

abbrev pub invariant-loop-argument : goal.invariant-loop-argument
invariant-loop-argument l = in_list (check_argument l.«module») (drop l.argument-index l.arguments)
    ≡ in_list (check_argument l.«module») l.arguments
