-- Empty modules and functions.
use Rattle.std.specs.Prelude.{◌≡◌, [], None}
use Rattle.shader_ir.specs.Body.{End}
use Rattle.shader_ir.specs.declared.function.Function.{Function}
use Rattle.shader_ir.specs.declared.«module».Module.{Module}

-- the module has no types, no other items and no special types
pub record IsEmptyModule (m : Module) : Type 0 where
  pub types : m.types ≡ []
  pub ray_intersection : m.special_types.ray_intersection ≡ None
  pub ray_vertex_return : m.special_types.ray_vertex_return ≡ None
  pub predeclared_types : m.special_types.predeclared_types ≡ []
  pub constants : m.constants ≡ []
  pub overrides : m.overrides ≡ []
  pub global_variables : m.global_variables ≡ []
  pub global_expressions : m.global_expressions ≡ []
  pub functions : m.functions ≡ []
  pub entry_points : m.entry_points ≡ []
  pub diagnostic_filters : m.diagnostic_filters ≡ []

-- the function has no name, arguments, result, locals, expressions, named expressions, statements
-- or filter
pub record IsEmptyFunction (f : Function) : Type 0 where
  pub name : f.name ≡ None
  pub arguments : f.arguments ≡ []
  pub result : f.result ≡ None
  pub local_variables : f.local_variables ≡ []
  pub expressions : f.expressions ≡ []
  pub named_expressions : f.named_expressions ≡ []
  pub body : f.body ≡ End
  pub diagnostic_filter_leaf : f.diagnostic_filter_leaf ≡ None
