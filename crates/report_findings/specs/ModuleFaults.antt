-- Diagnostics of modules that aren't well formed.
use Rattle.std.specs.Prelude.{ℕ, List, ◌++◌, Option, Some, None, codes}
use Rattle.shader_ir.specs.declared.module.Module.{Module}
use Rattle.shader_resolve.specs.declared.well_formed.ModuleFault.{ModuleFault}
use Rattle.shader_resolve.specs.declared.well_formed.ModuleFault.TheVariants as fault
use Rattle.shader_resolve.specs.declared.well_formed.locations.FaultAt.{FaultAt}
use Rattle.shader_resolve.specs.declared.well_formed.locations.ModuleLocation.{ModuleLocation}
use Rattle.shader_resolve.specs.declared.well_formed.locations.ModuleLocation.TheVariants as at
use Rattle.report_places.specs.Pointers.{body_pointer, expression_pointer, item_pointer}
use Rattle.report_places.specs.Sites.{named_at}
use Rattle.report_places.specs.declared.body_place.BodyPlace.{BodyPlace}
use Rattle.report_places.specs.declared.body_place.BodyPlace.TheVariants as body
use Rattle.report_diagnostics.specs.Diagnostics.{IsError}
use Rattle.report_diagnostics.specs.Locations.{within_module}
use Rattle.report_diagnostics.specs.declared.codes.Code.TheVariants as of
use Rattle.report_diagnostics.specs.declared.diagnostic.Diagnostic.{Diagnostic}
use Rattle.report_diagnostics.specs.declared.location.Location.{Location}
use Rattle.report_diagnostics.specs.declared.module_codes.ModuleCode.{ModuleCode}
use Rattle.report_diagnostics.specs.declared.module_codes.ModuleCode.TheVariants as code

abbrev pub fault_code : ModuleFault → ModuleCode
fault_code fault.HandleOutOfRange = code.IndexOutOfRange
fault_code fault.EmitRange = code.EmitOutOfRange
fault_code fault.TypeNotEarlier = code.TypeNotEarlier
fault_code fault.OperandNotEarlier = code.OperandNotEarlier
fault_code fault.FilterNotEarlier = code.FilterNotEarlier
fault_code fault.CalleeNotEarlier = code.CalleeNotEarlier
fault_code fault.ArgumentCount = code.ArgumentCount
fault_code fault.ValuePointerArgument = code.ValuePointerArgument

abbrev pub fault_place : ModuleLocation → Option BodyPlace
fault_place (at.GlobalExpression e) = Some (body.ConstExpression e)
fault_place (at.Function f) = Some (body.Function f)
fault_place (at.FunctionExpression f e) = Some (body.Function f)
fault_place (at.FunctionBody f) = Some (body.Function f)
fault_place (at.EntryPoint p) = Some (body.EntryPoint p)
fault_place (at.EntryPointExpression p e) = Some (body.EntryPoint p)
fault_place (at.EntryPointBody p) = Some (body.EntryPoint p)
fault_place _ = None

abbrev pub fault_expression : ModuleLocation → Option ℕ
fault_expression (at.GlobalExpression e) = Some e
fault_expression (at.FunctionExpression f e) = Some e
fault_expression (at.EntryPointExpression p e) = Some e
fault_expression _ = None

abbrev pub fault_type : ModuleLocation → Option ℕ
fault_type (at.Type ty) = Some ty
fault_type _ = None

-- a location in a function, or the special types
abbrev pub place_pointer : ModuleLocation → List ℕ
place_pointer (at.Function f) = body_pointer (body.Function f)
place_pointer (at.FunctionExpression f e) = expression_pointer (body.Function f) e
place_pointer (at.FunctionBody f) = body_pointer (body.Function f) ++ codes "/body"
place_pointer (at.EntryPoint p) = body_pointer (body.EntryPoint p)
place_pointer (at.EntryPointExpression p e) = expression_pointer (body.EntryPoint p) e
place_pointer (at.EntryPointBody p) = body_pointer (body.EntryPoint p) ++ codes "/body"
place_pointer _ = codes "/special_types"

-- an item of one of the module's lists, or one of the above
abbrev pub fault_pointer : ModuleLocation → List ℕ
fault_pointer (at.Constant i) = item_pointer (codes "constants") i
fault_pointer (at.Override i) = item_pointer (codes "overrides") i
fault_pointer (at.GlobalVariable i) = item_pointer (codes "global_variables") i
fault_pointer (at.Type i) = item_pointer (codes "types") i
fault_pointer (at.DiagnosticFilter i) = item_pointer (codes "diagnostic_filters") i
fault_pointer (at.GlobalExpression i) = item_pointer (codes "global_expressions") i
fault_pointer location = place_pointer location

abbrev pub fault_location : Module → ModuleLocation → Location
fault_location m location =
    within_module (fault_place location) (named_at m (fault_place location)) None (fault_expression location) (fault_type location)
    (fault_pointer location)

-- an error of the fault's code, at the fault's location
abbrev pub IsFaultDiagnostic : Module → FaultAt → Diagnostic → Type 0
IsFaultDiagnostic m found diagnostic = IsError (of.Module (fault_code found.fault)) (fault_location m found.location) diagnostic
