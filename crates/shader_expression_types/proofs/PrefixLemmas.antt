-- Facts of the expressions before one decide its error as all facts do.
use Rattle.std.proofs.Common.{◌≡◌, refl, ap, ◌<◌, List, Option, ◌++◌, length, arith}
use Rattle.std.specs.Option.{option_and_then}
use Rattle.shader_analysis_spec.specs.Program.{Expression}
use Rattle.shader_expression_types.specs.Indexed.{access_refusal, base_refusal}
use Rattle.shader_info.specs.declared.flags.Capabilities.{Capabilities}
use Rattle.shader_ir.specs.Key.{inner_of}
use Rattle.shader_ir.specs.declared.expression.Expression.TheVariants as form
use Rattle.shader_ir.specs.declared.proc.operands.Label.TheVariants.{Read}
use Rattle.shader_ir.specs.declared.proc.type_resolution.TypeResolution.{TypeResolution}
use Rattle.shader_ir.specs.declared.types.«Type».{«Type»}
use Rattle.shader_passes.proofs.FactLemmas.{get_left}
use Rattle.shader_passes.specs.Facts.{Fact}
use Rattle.shader_resolve.specs.WellFormed.{OperandsBelow}
use Rattle.std.proofs.Common.{slice_get}

pub decided_before : (capabilities : Capabilities) (types : List «Type») (facts later : List Fact) (stored : List TypeResolution)
    (x : Expression) → OperandsBelow (length facts) x →
    access_refusal capabilities types (facts ++ later) stored x ≡ access_refusal capabilities types facts stored x
decided_before capabilities types facts later stored (form.Access base index) below =
    let lt : index < length facts = below 1 (0, Read) (omega arith) in
    ap (λ (found : Option Fact). base_refusal capabilities types (option_and_then (λ (fact : Fact). fact.origin) found)
    (option_and_then (inner_of types) (slice_get stored base))) (get_left facts later index lt)
decided_before capabilities types facts later stored x below = refl
