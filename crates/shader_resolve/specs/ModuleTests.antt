-- The results of the steps of check_module. No public clause cites this file.
use Rattle.std.specs.Prelude.{ℕ, ◌==◌, Bool, true, false, ◌&&◌, not, List, [], ◌∷◌, length}
use Rattle.std.specs.Prelude.{slice_get, Option, Some, None, Result, Ok, Err, nat_lt}
use Rattle.std.specs.List.{list_all, enumerate_from}
use Rattle.shader_arena.specs.Positions.{positions_between}
use Rattle.shader_ir.specs.Body.{Emit, Call, Body, End, Then, Step, Leaf, Nested, If, Switch, Loop, Cases, NoCase, Case}
use Rattle.shader_ir.specs.Operands.{expression_operands, statement_operands}
use Rattle.shader_ir.specs.TypeTree.{type_handles}
use Rattle.shader_ir.specs.declared.expression.Expression.{Expression}
use Rattle.shader_ir.specs.declared.expression.Expression.TheVariants as form
use Rattle.shader_ir.specs.declared.function.EntryPoint.{EntryPoint}
use Rattle.shader_ir.specs.declared.function.Function.{Function}
use Rattle.shader_ir.specs.declared.function.FunctionArgument.{FunctionArgument}
use Rattle.shader_ir.specs.declared.function.FunctionResult.{FunctionResult}
use Rattle.shader_ir.specs.declared.function.LocalVariable.{LocalVariable}
use Rattle.shader_ir.specs.declared.module.Constant.{Constant}
use Rattle.shader_ir.specs.declared.module.DiagnosticFilterNode.{DiagnosticFilterNode}
use Rattle.shader_ir.specs.declared.module.GlobalVariable.{GlobalVariable}
use Rattle.shader_ir.specs.declared.module.Module.{Module}
use Rattle.shader_ir.specs.declared.module.Override.{Override}
use Rattle.shader_ir.specs.declared.module.SpecialTypes.{SpecialTypes}
use Rattle.shader_ir.specs.declared.proc.operands.Label.{Label}
use Rattle.shader_ir.specs.declared.types.«Type».{«Type»}
use Rattle.shader_ir.specs.declared.types.TypeInner.{TypeInner}
use Rattle.shader_ir.specs.declared.types.TypeInner.TheVariants.{ValuePointer}
use Rattle.shader_resolve.specs.Statements.{statement_callee, statement_result}
use Rattle.shader_resolve.specs.WellFormed.{expression_callee, sizing_override}
use Rattle.shader_resolve.specs.declared.well_formed.Bounds.{Bounds}
use Rattle.shader_resolve.specs.declared.well_formed.ModuleFault.{ModuleFault}
use Rattle.shader_resolve.specs.declared.well_formed.ModuleFault.TheVariants.{HandleOutOfRange, TypeNotEarlier, OperandNotEarlier}
use Rattle.shader_resolve.specs.declared.well_formed.ModuleFault.TheVariants.{CalleeNotEarlier, ArgumentCount, FilterNotEarlier}
use Rattle.shader_resolve.specs.declared.well_formed.ModuleFault.TheVariants.{ValuePointerArgument, EmitRange}

-- a violation, or none
abbrev pub Checked : Type 0
Checked = Result (Unit {0}) ModuleFault

abbrev pub no_fault : Checked
no_fault = Ok tt

-- the violation if the test fails, and else the rest
abbrev pub guard : Bool → ModuleFault → Checked → Checked
guard true fault rest = rest
guard false fault rest = Err fault

-- the first violation
abbrev pub then : Checked → Checked → Checked
then (Ok nothing) rest = rest
then (Err fault) rest = Err fault

abbrev pub in_list : {T : Type 0} → (T → Checked) → List T → Checked
in_list check [] = no_fault
in_list check (item ∷ items) = then (check item) (in_list check items)

abbrev pub in_entries : {T : Type 0} → (ℕ → T → Checked) → List (ℕ × T) → Checked
in_entries check entries = in_list (λ entry. check entry.0 entry.1) entries

-- the first violation of an item at its position
abbrev pub in_arena : {T : Type 0} → (ℕ → T → Checked) → List T → Checked
in_arena check items = in_entries check (enumerate_from 0 items)

-- the first violation of a body's statements, each before those in its blocks
abbrev mutual
  pub in_body : (Step → Checked) → Body → Checked
  in_body check End = no_fault
  in_body check (Then step rest) = then (check step) (then (in_within check step) (in_body check rest))

  -- the first violation in the blocks of a statement
  pub in_within : (Step → Checked) → Step → Checked
  in_within check (Leaf simple) = no_fault
  in_within check (Nested body) = in_body check body
  in_within check (If condition accept reject) = then (in_body check accept) (in_body check reject)
  in_within check (Switch selector cases) = in_cases check cases
  in_within check (Loop body continuing break_if) = then (in_body check body) (in_body check continuing)

  pub in_cases : (Step → Checked) → Cases → Checked
  in_cases check NoCase = no_fault
  in_cases check (Case value body fall_through rest) = then (in_body check body) (in_cases check rest)

-- whether each item passes, at its position
abbrev pub every_entry : {T : Type 0} → (ℕ → T → Bool) → List (ℕ × T) → Bool
every_entry test entries = list_all (λ entry. test entry.0 entry.1) entries

abbrev pub every : {T : Type 0} → (ℕ → T → Bool) → List T → Bool
every test items = every_entry test (enumerate_from 0 items)

-- whether a handle, if any, is below a bound
abbrev pub is_below : ℕ → Option ℕ → Bool
is_below bound None = true
is_below bound (Some handle) = nat_lt handle bound

abbrev pub all_below : ℕ → List ℕ → Bool
all_below bound handles = list_all (λ handle. nat_lt handle bound) handles

abbrev pub operands_below : ℕ → List (ℕ × Label) → Bool
operands_below bound operands = list_all (λ operand. nat_lt operand.0 bound) operands

abbrev pub is_value_pointer : TypeInner → Bool
is_value_pointer (ValuePointer size scalar space) = true
is_value_pointer _ = false

abbrev pub is_pointer_type : Option «Type» → Bool
is_pointer_type (Some type) = is_value_pointer type.inner
is_pointer_type None = false

abbrev pub takes_arguments : Option Function → ℕ → Bool
takes_arguments (Some function) count = length function.arguments == count
takes_arguments None count = true

-- whether the expressions of an Emit's range are below a bound
abbrev pub is_emitted : ℕ → Step → Bool
is_emitted bound (Leaf (Emit start end)) = all_below bound (positions_between start end)
is_emitted bound _ = true

module _ (checked : Module) where
  abbrev pub check_type : ℕ → TypeInner → Checked
  check_type position inner =
      guard (all_below (length checked.types) (type_handles inner) && is_below (length checked.overrides) (sizing_override inner))
      HandleOutOfRange
      (guard (all_below position (type_handles inner)) TypeNotEarlier no_fault)

  abbrev pub special_in_range : SpecialTypes → Bool
  special_in_range special =
      is_below (length checked.types) special.ray_intersection && (is_below (length checked.types) special.ray_vertex_return
      && list_all (λ entry. nat_lt entry.1 (length checked.types)) special.predeclared_types)

  abbrev pub constant_in_range : Constant → Bool
  constant_in_range constant = nat_lt constant.ty (length checked.types) && nat_lt constant.init (length checked.global_expressions)

  abbrev pub override_in_range : Override → Bool
  override_in_range override = nat_lt override.ty (length checked.types) && is_below (length checked.global_expressions) override.init

  abbrev pub global_in_range : GlobalVariable → Bool
  global_in_range variable = nat_lt variable.ty (length checked.types) && is_below (length checked.global_expressions) variable.init

  abbrev pub check_filter : ℕ → DiagnosticFilterNode → Checked
  check_filter position node =
      guard (is_below (length checked.diagnostic_filters) node.parent) HandleOutOfRange
      (guard (is_below position node.parent) FilterNotEarlier no_fault)

  abbrev pub variables_in_range : Bool
  variables_in_range =
      special_in_range checked.special_types
      && (every (λ position constant. constant_in_range constant) checked.constants
      && (every (λ position override. override_in_range override) checked.overrides
      && every (λ position variable. global_in_range variable) checked.global_variables))

  abbrev pub check_data : Checked
  check_data =
      guard variables_in_range HandleOutOfRange
      (then (in_arena (λ position type. check_type position type.inner) checked.types) (in_arena check_filter checked.diagnostic_filters))

  -- whether everything that an expression of a function with this many locals names is in range,
  -- operands aside
  abbrev pub names_in_range : ℕ → Expression → Bool
  names_in_range locals (form.Constant constant) = nat_lt constant (length checked.constants)
  names_in_range locals (form.Override override) = nat_lt override (length checked.overrides)
  names_in_range locals (form.ZeroValue ty) = nat_lt ty (length checked.types)
  names_in_range locals (form.Compose ty components) = nat_lt ty (length checked.types)
  names_in_range locals (form.GlobalVariable variable) = nat_lt variable (length checked.global_variables)
  names_in_range locals (form.LocalVariable variable) = nat_lt variable locals
  names_in_range locals (form.CallResult function) = nat_lt function (length checked.functions)
  names_in_range locals (form.AtomicResult ty comparison) = nat_lt ty (length checked.types)
  names_in_range locals (form.WorkGroupUniformLoadResult ty) = nat_lt ty (length checked.types)
  names_in_range locals (form.SubgroupOperationResult ty) = nat_lt ty (length checked.types)
  names_in_range locals _ = true

  abbrev pub check_expression : Bounds → ℕ → Expression → Checked
  check_expression bounds position expression =
      guard (operands_below bounds.expressions (expression_operands expression) && names_in_range bounds.locals expression) HandleOutOfRange
      (guard (operands_below position (expression_operands expression)) OperandNotEarlier
      (guard (is_below bounds.earlier (expression_callee expression)) CalleeNotEarlier no_fault))

  abbrev pub check_argument : FunctionArgument → Checked
  check_argument argument =
      guard (nat_lt argument.ty (length checked.types)) HandleOutOfRange
      (guard (not (is_pointer_type (slice_get checked.types argument.ty))) ValuePointerArgument no_fault)

  abbrev pub result_in_range : Option FunctionResult → Bool
  result_in_range (Some result) = nat_lt result.ty (length checked.types)
  result_in_range None = true

  abbrev pub local_in_range : Function → LocalVariable → Bool
  local_in_range function variable = nat_lt variable.ty (length checked.types) && is_below (length function.expressions) variable.init

  -- whether the handles of a function are in range, except those of its arguments, expressions and
  -- statements
  abbrev pub function_in_range : Function → Bool
  function_in_range function =
      result_in_range function.result
      && (every (λ position variable. local_in_range function variable) function.local_variables
      && (list_all (λ entry. nat_lt entry.0 (length function.expressions)) function.named_expressions
      && is_below (length checked.diagnostic_filters) function.diagnostic_filter_leaf))

  abbrev pub counts_match : Step → Bool
  counts_match (Leaf (Call function arguments result)) = takes_arguments (slice_get checked.functions function) (length arguments)
  counts_match _ = true

  -- whether the handles of a statement are in range, except the range of an Emit
  abbrev pub statement_in_range : ℕ → Step → Bool
  statement_in_range expressions step =
      operands_below expressions (statement_operands step)
      && (is_below expressions (statement_result step) && is_below (length checked.functions) (statement_callee step))

  abbrev pub check_statement : Bounds → Step → Checked
  check_statement bounds step =
      guard (statement_in_range bounds.expressions step) HandleOutOfRange
      (guard (is_below bounds.earlier (statement_callee step)) CalleeNotEarlier
      (guard (counts_match step) ArgumentCount (guard (is_emitted bounds.expressions step) EmitRange no_fault)))

-- the bounds for the expressions and statements of a function with this many earlier ones
abbrev pub bounds_of : ℕ → Function → Bounds
bounds_of earlier function = record {
  earlier = earlier;
  locals = length function.local_variables;
  expressions =
      length function.expressions;
}

-- the bounds for global expressions
abbrev pub global_bounds : Module → Bounds
global_bounds checked = record { earlier = 0; locals = 0; expressions = length checked.global_expressions }

module _ (checked : Module) where
  abbrev pub check_function : ℕ → Function → Checked
  check_function earlier function =
      guard (function_in_range checked function) HandleOutOfRange
      (then (in_list (check_argument checked) function.arguments)
      (then (in_arena (check_expression checked (bounds_of earlier function)) function.expressions)
      (in_body (check_statement checked (bounds_of earlier function)) function.body)))

  abbrev pub check_entry_point : EntryPoint → Checked
  check_entry_point entry = check_function (length checked.functions) entry.function

  abbrev pub check_module : Checked
  check_module =
      then (check_data checked)
      (then (in_arena (check_expression checked (global_bounds checked)) checked.global_expressions)
      (then (in_arena check_function checked.functions) (in_list check_entry_point checked.entry_points)))
