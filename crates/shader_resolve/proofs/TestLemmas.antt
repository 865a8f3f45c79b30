-- What the checks of a module's items decide.
use Rattle.std.proofs.Common.{◌≡◌, ap, refl, ℕ, ◌+◌, ◌<◌, Bool, ◌&&◌, not, List, [], ◌∷◌}
use Rattle.std.proofs.Common.{Option, Some, None, IfSome, All, length, slice_get, nat_lt}
use Rattle.std.specs.Bool.{Decides}
use Rattle.std.specs.List.{list_all, enumerate_from}
use Rattle.std.proofs.lemmas.Bool.Decides.{Decides-and, Decides-at, Decides-by_and, Decides-eqb, Decides-ltb}
use Rattle.shader_arena.specs.Positions.{positions_between}
use Rattle.shader_ir.specs.Body.{Emit, Call, Step, Leaf}
use Rattle.shader_ir.specs.Operands.{expression_operands, statement_operands}
use Rattle.shader_ir.specs.TypeTree.{type_handles}
use Rattle.shader_ir.specs.declared.expression.Expression.{Expression}
use Rattle.shader_ir.specs.declared.expression.Expression.TheVariants as form
use Rattle.shader_ir.specs.declared.function.Function.{Function}
use Rattle.shader_ir.specs.declared.function.FunctionArgument.{FunctionArgument}
use Rattle.shader_ir.specs.declared.function.FunctionResult.{FunctionResult}
use Rattle.shader_ir.specs.declared.function.LocalVariable.{LocalVariable}
use Rattle.shader_ir.specs.declared.module.Constant.{Constant}
use Rattle.shader_ir.specs.declared.module.GlobalVariable.{GlobalVariable}
use Rattle.shader_ir.specs.declared.module.Module.{Module}
use Rattle.shader_ir.specs.declared.module.Override.{Override}
use Rattle.shader_ir.specs.declared.module.PredeclaredType.{PredeclaredType}
use Rattle.shader_ir.specs.declared.module.SpecialTypes.{SpecialTypes}
use Rattle.shader_ir.specs.declared.name.Name.{Name}
use Rattle.shader_ir.specs.declared.proc.operands.Label.{Label}
use Rattle.shader_ir.specs.declared.types.«Type».{«Type»}
use Rattle.shader_ir.specs.declared.types.TypeInner.{TypeInner}
use Rattle.shader_ir.specs.declared.types.TypeInner.TheVariants.{ValuePointer}
use Rattle.shader_resolve.specs.Context.{context_of, IsInRange}
use Rattle.shader_resolve.specs.ModuleTests.{all_below, constant_in_range, counts_match, every, every_entry, function_in_range}
use Rattle.shader_resolve.specs.ModuleTests.{global_in_range, is_below, is_emitted, is_pointer_type, is_value_pointer, local_in_range}
use Rattle.shader_resolve.specs.ModuleTests.{names_in_range, operands_below, override_in_range, result_in_range, special_in_range}
use Rattle.shader_resolve.specs.ModuleTests.{statement_in_range, takes_arguments, variables_in_range}
use Rattle.shader_resolve.specs.Statements.{statement_callee, statement_result}
use Rattle.shader_resolve.specs.WellFormed.{AllBelow, sizing_override, ConstantInRange, CountMatches}
use Rattle.shader_resolve.specs.WellFormed.{EmitsBelow, ExpressionInRange, GlobalInRange, IsEarlier, IsNoValuePointerArgument}
use Rattle.shader_resolve.specs.WellFormed.{IsNoValuePointer, IsModuleType, LocalInRange, OverrideInRange}
use Rattle.shader_resolve.specs.WellFormed.{SpecialTypesInRange, StatementInRange, TypeInRange}

-- a test of one fact is a test of any equivalent fact
pub like : {P Q : Type 0} (test : Bool) → Decides test P → (P → Q) → (Q → P) → Decides test Q
like test decides to from = (λ e. to (decides.0 e), λ q. decides.1 (from q))

pub all-decides : {T : Type 0} (test : T → Bool) (P : T → Type 0) → ((item : T) → Decides (test item) (P item)) → (items : List T) →
    Decides (list_all test items) (All P items)
all-decides test P each items = Decides-by_and test P (list_all test) each refl (λ _ _. refl) items

every-from : {T : Type 0} (test : T → Bool) (first : ℕ) (items : List T) →
    every_entry (λ position item. test item) (enumerate_from first items) ≡ list_all test items
every-from test first [] = refl
every-from test first (item ∷ items) = ap (λ rest. test item && rest) (every-from test (first + 1) items)

pub every-decides : {T : Type 0} (test : T → Bool) (P : T → Type 0) → ((item : T) → Decides (test item) (P item)) → (items : List T) →
    Decides (every (λ position item. test item) items) (All P items)
every-decides test P each items = Decides-at _ _ (every-from test 0 items) (all-decides test P each items)

pub optional-decides : (bound : ℕ) (found : Option ℕ) → Decides (is_below bound found) (IfSome found (λ handle. handle < bound))
optional-decides bound None = (λ e. tt, λ any. refl)
optional-decides bound (Some handle) = Decides-ltb handle bound

pub handles-decide : (bound : ℕ) (handles : List ℕ) → Decides (all_below bound handles) (All (λ handle. handle < bound) handles)
handles-decide bound handles = all-decides (λ handle. nat_lt handle bound) (λ handle. handle < bound)
    (λ handle. Decides-ltb handle bound) handles

pub operands-decide : (bound : ℕ) (operands : List (ℕ × Label)) → Decides (operands_below bound operands) (AllBelow bound operands)
operands-decide bound operands =
    all-decides (λ (operand : ℕ × Label). nat_lt operand.0 bound) (λ (operand : ℕ × Label). operand.0 < bound)
    (λ operand. Decides-ltb operand.0 bound) operands

pub emits-decide : (bound : ℕ) (step : Step) → Decides (is_emitted bound step) (EmitsBelow bound step)
emits-decide bound (Leaf (Emit start end)) = handles-decide bound (positions_between start end)
emits-decide bound step = (λ e. tt, λ any. refl)

pointer-decides : (inner : TypeInner) → Decides (not (is_value_pointer inner)) (IsNoValuePointer inner)
pointer-decides (ValuePointer size scalar space) = (λ e. absurd (cc), λ none. absurd none)
pointer-decides inner = (λ e. tt, λ any. refl)

pointer_type-decides : (type : Option «Type») → Decides (not (is_pointer_type type)) (IfSome type (λ type. IsNoValuePointer type.inner))
pointer_type-decides (Some type) = pointer-decides type.inner
pointer_type-decides None = (λ e. tt, λ any. refl)

takes_arguments-decides : (function : Option Function) (count : ℕ) →
    Decides (takes_arguments function count) (IfSome function (λ callee. length callee.arguments ≡ count))
takes_arguments-decides (Some function) count = Decides-eqb (length function.arguments) count
takes_arguments-decides None count = (λ e. tt, λ any. refl)

module _ (checked : Module) where
  pub argument-decides : (argument : FunctionArgument) → Decides (not (is_pointer_type (slice_get checked.types argument.ty)))
      (IsNoValuePointerArgument checked argument)
  argument-decides argument = pointer_type-decides (slice_get checked.types argument.ty)

  pub counts-decide : (step : Step) → Decides (counts_match checked step) (CountMatches checked step)
  counts-decide (Leaf (Call function arguments result)) = takes_arguments-decides (slice_get checked.functions function) (length arguments)
  counts-decide step = (λ e. tt, λ any. refl)

  pub type-decides : (inner : TypeInner) → Decides (all_below (length checked.types) (type_handles inner)
      && is_below (length checked.overrides) (sizing_override inner)) (TypeInRange checked inner)
  type-decides inner =
      like _ (Decides-and _ _ (handles-decide (length checked.types) (type_handles inner))
      (optional-decides (length checked.overrides) (sizing_override inner)))
      (λ both. record { named = both.0; sized = both.1 }) (λ is. (is.named, is.sized))

  pub special-decides : (special : SpecialTypes) → Decides (special_in_range checked special) (SpecialTypesInRange checked special)
  special-decides special =
      like _
      (Decides-and _ _ (optional-decides (length checked.types) special.ray_intersection)
      (Decides-and _ _ (optional-decides (length checked.types) special.ray_vertex_return)
      (all-decides (λ (entry : PredeclaredType × ℕ). nat_lt entry.1 (length checked.types))
      (λ (entry : PredeclaredType × ℕ). IsModuleType checked entry.1)
      (λ entry. Decides-ltb entry.1 (length checked.types)) special.predeclared_types)))
      (λ both. record { ray_intersection = both.0; ray_vertex_return = both.1.0; predeclared = both.1.1 })
      (λ is. (is.ray_intersection, (is.ray_vertex_return, is.predeclared)))

  pub constant-decides : (constant : Constant) → Decides (constant_in_range checked constant) (ConstantInRange checked constant)
  constant-decides constant =
      like _ (Decides-and _ _ (Decides-ltb constant.ty (length checked.types))
      (Decides-ltb constant.init (length checked.global_expressions)))
      (λ both. record { ty = both.0; init = both.1 }) (λ is. (is.ty, is.init))

  pub override-decides : (override : Override) → Decides (override_in_range checked override) (OverrideInRange checked override)
  override-decides override =
      like _ (Decides-and _ _ (Decides-ltb override.ty (length checked.types))
      (optional-decides (length checked.global_expressions) override.init))
      (λ both. record { ty = both.0; init = both.1 }) (λ is. (is.ty, is.init))

  pub global-decides : (variable : GlobalVariable) → Decides (global_in_range checked variable) (GlobalInRange checked variable)
  global-decides variable =
      like _ (Decides-and _ _ (Decides-ltb variable.ty (length checked.types))
      (optional-decides (length checked.global_expressions) variable.init))
      (λ both. record { ty = both.0; init = both.1 }) (λ is. (is.ty, is.init))

  -- everything that special types, constants, overrides and variables name is in range
  pub record VariablesInRange : Type 0 where
    pub special_types : SpecialTypesInRange checked checked.special_types
    pub constants : All (ConstantInRange checked) checked.constants
    pub overrides : All (OverrideInRange checked) checked.overrides
    pub global_variables : All (GlobalInRange checked) checked.global_variables

  pub variables-decide : Decides (variables_in_range checked) VariablesInRange
  variables-decide =
      like _
      (Decides-and _ _ (special-decides checked.special_types)
      (Decides-and _ _ (every-decides (constant_in_range checked) (ConstantInRange checked) constant-decides checked.constants)
      (Decides-and _ _ (every-decides (override_in_range checked) (OverrideInRange checked) override-decides checked.overrides)
      (every-decides (global_in_range checked) (GlobalInRange checked) global-decides checked.global_variables))))
      (λ both. record { special_types = both.0; constants = both.1.0; overrides = both.1.1.0; global_variables = both.1.1.1 })
      (λ is. (is.special_types, (is.constants, (is.overrides, is.global_variables))))

  names-decide : (locals : List LocalVariable) (arguments : List FunctionArgument) (expression : Expression)
      → Decides (names_in_range checked (length locals) expression) (IsInRange (context_of checked locals arguments) expression)
  names-decide locals arguments (form.Constant constant) = Decides-ltb constant (length checked.constants)
  names-decide locals arguments (form.Override override) = Decides-ltb override (length checked.overrides)
  names-decide locals arguments (form.ZeroValue ty) = Decides-ltb ty (length checked.types)
  names-decide locals arguments (form.Compose ty components) = Decides-ltb ty (length checked.types)
  names-decide locals arguments (form.GlobalVariable variable) = Decides-ltb variable (length checked.global_variables)
  names-decide locals arguments (form.LocalVariable variable) = Decides-ltb variable (length locals)
  names-decide locals arguments (form.CallResult function) = Decides-ltb function (length checked.functions)
  names-decide locals arguments (form.AtomicResult ty comparison) = Decides-ltb ty (length checked.types)
  names-decide locals arguments (form.WorkGroupUniformLoadResult ty) = Decides-ltb ty (length checked.types)
  names-decide locals arguments (form.SubgroupOperationResult ty) = Decides-ltb ty (length checked.types)
  names-decide locals arguments expression = (λ e. tt, λ any. refl)

  pub expression-decides : (locals : List LocalVariable) (arguments : List FunctionArgument) (expressions : List Expression)
      (expression : Expression)
      → Decides (operands_below (length expressions) (expression_operands expression) && names_in_range checked (length locals) expression)
      (ExpressionInRange checked (context_of checked locals arguments) expressions expression)
  expression-decides locals arguments expressions expression =
      like _ (Decides-and _ _ (operands-decide (length expressions) (expression_operands expression))
      (names-decide locals arguments expression))
      (λ both. record { operands = both.0; names = both.1 }) (λ is. (is.operands, is.names))

  -- if a callee is in range, its position decides whether it is earlier
  pub callee-decides : (earlier : ℕ) (callee : Option ℕ) → IfSome callee (λ callee. callee < length checked.functions)
      → Decides (is_below earlier callee) (IfSome callee (IsEarlier checked earlier))
  callee-decides earlier (Some callee) there = like _ (Decides-ltb callee earlier) (λ lt any. lt) (λ is. is there)
  callee-decides earlier None there = (λ e. tt, λ any. refl)

  result-decides : (result : Option FunctionResult) → Decides (result_in_range checked result)
      (IfSome result (λ (result : FunctionResult). IsModuleType checked result.ty))
  result-decides (Some result) = Decides-ltb result.ty (length checked.types)
  result-decides None = (λ e. tt, λ any. refl)

  local-decides : (function : Function) (variable : LocalVariable) →
      Decides (local_in_range checked function variable) (LocalInRange checked function variable)
  local-decides function variable =
      like _ (Decides-and _ _ (Decides-ltb variable.ty (length checked.types))
      (optional-decides (length function.expressions) variable.init))
      (λ both. record { ty = both.0; init = both.1 }) (λ is. (is.ty, is.init))

  -- the handles of a function are in range, except those of its arguments, expressions and
  -- statements
  pub record OthersInRange (function : Function) : Type 0 where
    pub result : IfSome function.result (λ (result : FunctionResult). IsModuleType checked result.ty)
    pub locals : All (LocalInRange checked function) function.local_variables
    pub named : All (λ (entry : ℕ × Name). entry.0 < length function.expressions) function.named_expressions
    pub filter : IfSome function.diagnostic_filter_leaf (λ filter. filter < length checked.diagnostic_filters)

  pub function-decides : (function : Function) → Decides (function_in_range checked function) (OthersInRange function)
  function-decides function =
      like _
      (Decides-and _ _ (result-decides function.result)
      (Decides-and _ _ (every-decides (local_in_range checked function) (LocalInRange checked function) (local-decides function)
      function.local_variables)
      (Decides-and _ _
      (all-decides (λ (entry : ℕ × Name). nat_lt entry.0 (length function.expressions))
      (λ (entry : ℕ × Name). entry.0 < length function.expressions)
      (λ entry. Decides-ltb entry.0 (length function.expressions)) function.named_expressions)
      (optional-decides (length checked.diagnostic_filters) function.diagnostic_filter_leaf))))
      (λ both. record { result = both.0; locals = both.1.0; named = both.1.1.0; filter = both.1.1.1 })
      (λ is. (is.result, (is.locals, (is.named, is.filter))))

  pub statement-decides : (function : Function) (step : Step) →
      Decides (statement_in_range checked (length function.expressions) step) (StatementInRange checked function step)
  statement-decides function step =
      like _
      (Decides-and _ _ (operands-decide (length function.expressions) (statement_operands step))
      (Decides-and _ _ (optional-decides (length function.expressions) (statement_result step))
      (optional-decides (length checked.functions) (statement_callee step))))
      (λ both. record { operands = both.0; result = both.1.0; callee = both.1.1 }) (λ is. (is.operands, (is.result, is.callee)))
