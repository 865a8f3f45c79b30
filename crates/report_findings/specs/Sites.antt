-- The places of diagnostics.
use Rattle.std.specs.Prelude.{ℕ, List, Some, None}
use Rattle.std.specs.Option.{option_map}
use Rattle.shader_ir.specs.declared.module.Module.{Module}
use Rattle.report_places.specs.Pointers.{expression_pointer}
use Rattle.report_places.specs.Sites.{name_at, way_at}
use Rattle.report_places.specs.declared.body_place.BodyPlace.{BodyPlace}
use Rattle.report_places.specs.declared.paths.PathStep.{PathStep}
use Rattle.report_places.specs.declared.paths.StatementPath.{StatementPath}
use Rattle.report_places.specs.declared.paths.Wanted.TheVariants.{Evaluating}
use Rattle.report_diagnostics.specs.Locations.{within_module}
use Rattle.report_diagnostics.specs.declared.location.Location.{Location}

abbrev pub path_by : List PathStep → StatementPath
path_by way = record { steps = way }

-- an expression is at the statement that evaluates it
abbrev pub expression_location : Module → BodyPlace → ℕ → Location
expression_location m place e =
    within_module (Some place) (name_at m place) (option_map path_by (way_at m place (Evaluating e))) (Some e) None
    (expression_pointer place e)
