-- Functions and modules with few parts.
use Rattle.std.specs.Prelude.{ℕ, List, [], Option, None}
use Rattle.shader_ir.specs.Body.{Body}
use Rattle.shader_ir.specs.declared.expression.Expression.{Expression}
use Rattle.shader_ir.specs.declared.function.Function.{Function}
use Rattle.shader_ir.specs.declared.function.FunctionArgument.{FunctionArgument}
use Rattle.shader_ir.specs.declared.function.FunctionResult.{FunctionResult}
use Rattle.shader_ir.specs.declared.module.GlobalVariable.{GlobalVariable}
use Rattle.shader_ir.specs.declared.«module».Module.{Module}
use Rattle.shader_ir.specs.declared.types.«Type».{«Type»}

-- a function without a name, locals or a filter
abbrev pub function_with : List FunctionArgument → Option FunctionResult → List Expression → List (ℕ × List ℕ) → Body → Function
function_with arguments returned expressions named body = record {
  name = None;
  arguments = arguments;
  result = returned;
  local_variables = [];
  expressions = expressions;
  named_expressions = named;
  body = body;
  diagnostic_filter_leaf = None;
}

-- a module of types, globals and functions alone
abbrev pub module_with : List «Type» → List GlobalVariable → List Function → Module
module_with types globals functions = record {
  types = types;
  special_types = record { ray_intersection = None; ray_vertex_return = None; predeclared_types = [] };
  constants = [];
  overrides = [];
  global_variables = globals;
  global_expressions = [];
  functions = functions;
  entry_points = [];
  diagnostic_filters = [];
}
