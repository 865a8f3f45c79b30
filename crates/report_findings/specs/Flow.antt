-- Diagnostics of violated needs of uniform control flow.
use Rattle.std.specs.Prelude.{ℕ, List, Option, Some, None}
use Rattle.std.specs.Option.{option_map}
use Rattle.shader_ir.specs.declared.module.Module.{Module}
use Rattle.shader_uniformity_needs.specs.declared.needs.Need.{Need}
use Rattle.shader_uniformity_needs.specs.declared.needs.NeedKind.{NeedKind}
use Rattle.shader_uniformity_needs.specs.declared.needs.NeedKind.TheVariants as need
use Rattle.shader_uniformity_needs.specs.declared.needs.Violation.{Violation}
use Rattle.report_places.specs.Pointers.{body_pointer, expression_pointer, statement_pointer}
use Rattle.report_places.specs.Sites.{name_at, place_of_body, way_at}
use Rattle.report_places.specs.declared.body_place.BodyPlace.{BodyPlace}
use Rattle.report_places.specs.declared.paths.PathStep.{PathStep}
use Rattle.report_places.specs.declared.paths.Wanted.TheVariants.{At}
use Rattle.report_diagnostics.specs.Diagnostics.{IsError}
use Rattle.report_diagnostics.specs.Locations.{within_module}
use Rattle.report_findings.specs.Sites.{path_by}
use Rattle.report_diagnostics.specs.declared.body_codes.FlowCode.{FlowCode}
use Rattle.report_diagnostics.specs.declared.body_codes.FlowCode.TheVariants as flow
use Rattle.report_diagnostics.specs.declared.codes.Code.TheVariants as of
use Rattle.report_diagnostics.specs.declared.diagnostic.Diagnostic.{Diagnostic}
use Rattle.report_diagnostics.specs.declared.location.Location.{Location}

abbrev pub flow_code : NeedKind → FlowCode
flow_code need.Derivative = flow.Derivative
flow_code need.ImplicitLevel = flow.ImplicitLevel
flow_code need.Barrier = flow.Barrier
flow_code need.MemoryBarrier = flow.MemoryBarrier
flow_code need.UniformLoad = flow.UniformLoad
flow_code need.CooperativeOperation = flow.CooperativeOperation

-- the expression that has a need, or else the statement
abbrev pub need_pointer : BodyPlace → Option ℕ → Option (List PathStep) → List ℕ
need_pointer place (Some e) way = expression_pointer place e
need_pointer place None (Some way) = statement_pointer place way
need_pointer place None None = body_pointer place

-- `way`: that to its statement
abbrev pub need_location : Module → BodyPlace → Need → Option (List PathStep) → Location
need_location m place need way =
    within_module (Some place) (name_at m place) (option_map path_by way) need.expression None
    (need_pointer place need.expression way)

-- the statement at the need's position
abbrev way_to_need : Module → Violation → Option (List PathStep)
way_to_need m violation = way_at m (place_of_body violation.place) (At violation.need.position)

-- an error of the need's code, at the need
abbrev pub IsFlowDiagnostic : Module → Violation → Diagnostic → Type 0
IsFlowDiagnostic m violation diagnostic =
    IsError (of.Flow (flow_code violation.need.kind))
    (need_location m (place_of_body violation.place) violation.need (way_to_need m violation)) diagnostic
