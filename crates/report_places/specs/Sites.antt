-- What stands at a place of a module.
use Rattle.std.specs.Prelude.{ℕ, List, Option, Some, None, option_and_then, slice_get}
use Rattle.std.specs.Option.{option_map}
use Rattle.shader_ir.specs.declared.expression.Expression.{Expression}
use Rattle.shader_ir.specs.declared.function.Function.{Function}
use Rattle.shader_ir.specs.declared.module.Module.{Module}
use Rattle.shader_uniformity.specs.declared.facts.BodyLocation.{BodyLocation}
use Rattle.shader_uniformity.specs.declared.facts.BodyLocation.TheVariants as location
use Rattle.report_places.specs.Paths.{way_to}
use Rattle.report_places.specs.declared.body_place.BodyPlace.{BodyPlace}
use Rattle.report_places.specs.declared.body_place.BodyPlace.TheVariants as body
use Rattle.report_places.specs.declared.paths.PathStep.{PathStep}
use Rattle.report_places.specs.declared.paths.Wanted.{Wanted}

abbrev name_of_function : Option Function → Option (List ℕ)
name_of_function (Some function) = function.name
name_of_function None = None

-- a global expression has no name
abbrev pub name_at : Module → BodyPlace → Option (List ℕ)
name_at m (body.ConstExpression i) = None
name_at m (body.Function i) = name_of_function (slice_get m.functions i)
name_at m (body.EntryPoint i) = option_map (λ point. point.name) (slice_get m.entry_points i)

abbrev pub named_at : Module → Option BodyPlace → Option (List ℕ)
named_at m (Some place) = name_at m place
named_at m None = None

abbrev pub place_of_body : BodyLocation → BodyPlace
place_of_body (location.Function i) = body.Function i
place_of_body (location.EntryPoint i) = body.EntryPoint i

-- a function, or the function of an entry point
abbrev pub function_of : Module → BodyPlace → Option Function
function_of m (body.ConstExpression i) = None
function_of m (body.Function i) = slice_get m.functions i
function_of m (body.EntryPoint i) = option_map (λ point. point.function) (slice_get m.entry_points i)

-- the way to the first statement there that is wanted
abbrev pub way_at : Module → BodyPlace → Wanted → Option (List PathStep)
way_at m place w = option_and_then (λ function. way_to w function.body) (function_of m place)

-- an expression of a function or an entry point, or a global expression
abbrev pub expression_at : Module → BodyPlace → ℕ → Option Expression
expression_at m (body.ConstExpression i) e = slice_get m.global_expressions e
expression_at m place e = option_and_then (λ function. slice_get function.expressions e) (function_of m place)
