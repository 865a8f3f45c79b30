-- The results of the steps of find_fault. No public clause cites this file.
use Rattle.std.specs.Prelude.{ℕ, Bool, List, [], ◌∷◌, length, Result, Ok, Err}
use Rattle.std.specs.List.{enumerate_from}
use Rattle.shader_ir.specs.declared.expression.Expression.{Expression}
use Rattle.shader_ir.specs.declared.function.EntryPoint.{EntryPoint}
use Rattle.shader_ir.specs.declared.function.Function.{Function}
use Rattle.shader_ir.specs.declared.module.Module.{Module}
use Rattle.shader_resolve.specs.FaultyLocations.{in_entry_point, in_function}
use Rattle.shader_resolve.specs.ModuleTests.{Checked, bounds_of, check_argument, check_expression, check_filter, check_statement}
use Rattle.shader_resolve.specs.ModuleTests.{check_type, constant_in_range, function_in_range, global_bounds, global_in_range}
use Rattle.shader_resolve.specs.ModuleTests.{guard, in_body, in_list, override_in_range, no_fault, special_in_range, then}
use Rattle.shader_resolve.specs.declared.well_formed.Bounds.{Bounds}
use Rattle.shader_resolve.specs.declared.well_formed.ModuleFault.{ModuleFault}
use Rattle.shader_resolve.specs.declared.well_formed.ModuleFault.TheVariants.{HandleOutOfRange}
use Rattle.shader_resolve.specs.declared.well_formed.locations.LocationInFunction.{LocationInFunction}
use Rattle.shader_resolve.specs.declared.well_formed.locations.LocationInFunction.TheVariants as part
use Rattle.shader_resolve.specs.declared.well_formed.locations.ModuleLocation.{ModuleLocation}
use Rattle.shader_resolve.specs.declared.well_formed.locations.ModuleLocation.TheVariants as location

-- a violation with its location, or none
abbrev pub Located : Type 0 → Type 0
Located P = Result (Unit {0}) (P × ModuleFault)

abbrev pub passed_over : {P : Type 0} → Located P
passed_over = Ok tt

abbrev pub located_here : {P : Type 0} → P → Checked → Located P
located_here here (Ok nothing) = Ok nothing
located_here here (Err fault) = Err (here, fault)

-- the first violation
abbrev pub or_later : {P : Type 0} → Located P → Located P → Located P
or_later (Ok nothing) later = later
or_later (Err found) later = Err found

-- a violation within the location that contains it
abbrev pub within : {P Q : Type 0} → (P → Q) → Located P → Located Q
within location (Ok nothing) = Ok nothing
within location (Err found) = Err (location found.0, found.1)

-- the first faulty location of entries
abbrev pub first_in : {T P : Type 0} → (ℕ → P) → (ℕ → T → Checked) → List (ℕ × T) → Located P
first_in location check [] = passed_over
first_in location check (entry ∷ entries) =
    or_later (located_here (location entry.0) (check entry.0 entry.1)) (first_in location check entries)

abbrev pub first_within : {T P Q : Type 0} → (ℕ → P → Q) → (ℕ → T → Located P) → List (ℕ × T) → Located Q
first_within location find [] = passed_over
first_within location find (entry ∷ entries) =
    or_later (within (location entry.0) (find entry.0 entry.1)) (first_within location find entries)

abbrev pub handles_tested : Bool → Checked
handles_tested are_in_range = guard are_in_range HandleOutOfRange no_fault

module _ (checked : Module) where
  abbrev pub find_constants : Located ModuleLocation
  find_constants = first_in location.Constant (λ handle constant. handles_tested (constant_in_range checked constant))
      (enumerate_from 0 checked.constants)

  abbrev pub find_overrides : Located ModuleLocation
  find_overrides = first_in location.Override (λ handle override. handles_tested (override_in_range checked override))
      (enumerate_from 0 checked.overrides)

  abbrev pub find_globals : Located ModuleLocation
  find_globals = first_in location.GlobalVariable (λ handle variable. handles_tested (global_in_range checked variable))
      (enumerate_from 0 checked.global_variables)

  abbrev pub find_variables : Located ModuleLocation
  find_variables =
      or_later (located_here location.SpecialTypes (handles_tested (special_in_range checked checked.special_types)))
      (or_later find_constants (or_later find_overrides find_globals))

  abbrev pub find_types : Located ModuleLocation
  find_types = first_in location.Type (λ handle type. check_type checked handle type.inner) (enumerate_from 0 checked.types)

  abbrev pub find_filters : Located ModuleLocation
  find_filters = first_in location.DiagnosticFilter (check_filter checked) (enumerate_from 0 checked.diagnostic_filters)

  abbrev pub find_global_expressions : Located ModuleLocation
  find_global_expressions = first_in location.GlobalExpression (check_expression checked (global_bounds checked))
      (enumerate_from 0 checked.global_expressions)

  abbrev pub check_declarations : Function → Checked
  check_declarations function = then (handles_tested (function_in_range checked function)) (in_list
      (check_argument checked) function.arguments)

  abbrev pub find_expressions : Bounds → List Expression → Located LocationInFunction
  find_expressions bounds expressions = first_in part.Expression (check_expression checked bounds) (enumerate_from 0 expressions)

  abbrev pub find_in_function : ℕ → Function → Located LocationInFunction
  find_in_function earlier function =
      or_later (located_here part.Declarations (check_declarations function))
      (or_later (find_expressions (bounds_of earlier function) function.expressions)
      (located_here part.Body (in_body (check_statement checked (bounds_of earlier function)) function.body)))

  abbrev pub find_functions : Located ModuleLocation
  find_functions = first_within in_function find_in_function (enumerate_from 0 checked.functions)

  abbrev pub find_in_entry_point : ℕ → EntryPoint → Located LocationInFunction
  find_in_entry_point index entry = find_in_function (length checked.functions) entry.function

  abbrev pub find_entry_points : Located ModuleLocation
  find_entry_points = first_within in_entry_point find_in_entry_point (enumerate_from 0 checked.entry_points)

  abbrev pub find_in_module : Located ModuleLocation
  find_in_module =
      or_later find_variables
      (or_later find_types
      (or_later find_filters
      (or_later find_global_expressions (or_later find_functions find_entry_points))))
