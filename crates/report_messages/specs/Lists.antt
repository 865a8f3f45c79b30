-- The lists of a module and of its functions.
use Rattle.std.specs.Prelude.{ℕ, Option, Some, None, ◌≤◌, length, option_and_then}
use Rattle.shader_ir.specs.declared.function.Function.{Function}
use Rattle.shader_ir.specs.declared.module.Module.{Module}
use Rattle.report_places.specs.Sites.{function_of}
use Rattle.report_places.specs.declared.body_place.BodyPlace.{BodyPlace}
use Rattle.report_messages.specs.declared.lists.Lengths.{Lengths}
use Rattle.report_messages.specs.declared.lists.ListKind.{ListKind}
use Rattle.report_messages.specs.declared.lists.ListKind.TheVariants as list
use Rattle.report_messages.specs.declared.lists.Named.{Named}

abbrev pub expressions_in : Option Function → ℕ
expressions_in (Some function) = length function.expressions
expressions_in None = 0

abbrev pub locals_in : Option Function → ℕ
locals_in (Some function) = length function.local_variables
locals_in None = 0

abbrev pub function_at : Module → Option BodyPlace → Option Function
function_at m place = option_and_then (function_of m) place

-- the lengths of the lists of the module, and of the function at the place
abbrev pub lengths_of : Module → Option BodyPlace → Lengths
lengths_of m place = record {
  types = length m.types;
  constants = length m.constants;
  overrides = length m.overrides;
  global_variables = length m.global_variables;
  global_expressions = length m.global_expressions;
  functions = length m.functions;
  diagnostic_filters = length m.diagnostic_filters;
  expressions = expressions_in (function_at m place);
  local_variables = locals_in (function_at m place);
}

abbrev pub length_in : Lengths → ListKind → ℕ
length_in lengths list.Types = lengths.types
length_in lengths list.Constants = lengths.constants
length_in lengths list.Overrides = lengths.overrides
length_in lengths list.GlobalVariables = lengths.global_variables
length_in lengths list.GlobalExpressions = lengths.global_expressions
length_in lengths list.Functions = lengths.functions
length_in lengths list.DiagnosticFilters = lengths.diagnostic_filters
length_in lengths list.Expressions = lengths.expressions
length_in lengths list.LocalVariables = lengths.local_variables

-- the index is past the end of its list
abbrev pub IsMissing : Lengths → Named → Type 0
IsMissing lengths named = length_in lengths named.list ≤ named.index
