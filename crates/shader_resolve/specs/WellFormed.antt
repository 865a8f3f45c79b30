-- Well-formed modules: one fact for each kind of violation.
use Rattle.std.specs.Prelude.{◌≡◌, ℕ, ◌<◌, List, [], length, slice_get, Option, Some, None, IfSome, All}
use Rattle.shader_arena.specs.Positions.{positions_between}
use Rattle.shader_ir.specs.Body.{Emit, Call, Step, Leaf}
use Rattle.shader_ir.specs.Occurs.{statements}
use Rattle.shader_ir.specs.Operands.{expression_operands, statement_operands}
use Rattle.shader_ir.specs.TypeTree.{type_handles, IsBackward}
use Rattle.shader_ir.specs.declared.expression.Expression.{Expression}
use Rattle.shader_ir.specs.declared.expression.Expression.TheVariants as form
use Rattle.shader_ir.specs.declared.function.EntryPoint.{EntryPoint}
use Rattle.shader_ir.specs.declared.function.Function.{Function}
use Rattle.shader_ir.specs.declared.function.FunctionArgument.{FunctionArgument}
use Rattle.shader_ir.specs.declared.function.FunctionResult.{FunctionResult}
use Rattle.shader_ir.specs.declared.function.LocalVariable.{LocalVariable}
use Rattle.shader_ir.specs.declared.module.Constant.{Constant}
use Rattle.shader_ir.specs.declared.module.DiagnosticFilterNode.{DiagnosticFilterNode}
use Rattle.shader_ir.specs.declared.module.GlobalVariable.{GlobalVariable}
use Rattle.shader_ir.specs.declared.module.Module.{Module}
use Rattle.shader_ir.specs.declared.module.Override.{Override}
use Rattle.shader_ir.specs.declared.module.PredeclaredType.{PredeclaredType}
use Rattle.shader_ir.specs.declared.module.SpecialTypes.{SpecialTypes}
use Rattle.shader_ir.specs.declared.name.Name.{Name}
use Rattle.shader_ir.specs.declared.proc.operands.Label.{Label}
use Rattle.shader_ir.specs.declared.types.«Type».{«Type»}
use Rattle.shader_ir.specs.declared.types.ArraySize.{ArraySize}
use Rattle.shader_ir.specs.declared.types.ArraySize.TheVariants.{Pending}
use Rattle.shader_ir.specs.declared.types.TypeInner.{TypeInner}
use Rattle.shader_ir.specs.declared.types.TypeInner.TheVariants.{Array, BindingArray, ValuePointer}
use Rattle.shader_resolve.specs.Context.{Context, context_of, IsInRange}
use Rattle.shader_resolve.specs.Statements.{statement_callee, statement_result}
use Rattle.shader_resolve.specs.declared.well_formed.ModuleFault.{ModuleFault}
use Rattle.shader_resolve.specs.declared.well_formed.ModuleFault.TheVariants.{HandleOutOfRange, TypeNotEarlier, OperandNotEarlier}
use Rattle.shader_resolve.specs.declared.well_formed.ModuleFault.TheVariants.{CalleeNotEarlier, ArgumentCount, FilterNotEarlier}
use Rattle.shader_resolve.specs.declared.well_formed.ModuleFault.TheVariants.{ValuePointerArgument, EmitRange}

-- a fact of each item at its position
abbrev pub AtEach : {T : Type 0} → (ℕ → T → Type 0) → List T → Type 0
AtEach {T} Fact items = (position : ℕ) (item : T) → slice_get items position ≡ Some item → Fact position item

-- the operands are below the bound
abbrev pub AllBelow : ℕ → List (ℕ × Label) → Type 0
AllBelow bound operands = All (λ (operand : ℕ × Label). operand.0 < bound) operands

-- the operands of the expression are below the bound
abbrev pub OperandsBelow : ℕ → Expression → Type 0
OperandsBelow bound expression = AllBelow bound (expression_operands expression)

abbrev pub pending_size : ArraySize → Option ℕ
pending_size (Pending override) = Some override
pending_size _ = None

-- the override that sizes a type
abbrev pub sizing_override : TypeInner → Option ℕ
sizing_override (Array base size stride) = pending_size size
sizing_override (BindingArray base size) = pending_size size
sizing_override _ = None

-- the function whose result an expression is
abbrev pub expression_callee : Expression → Option ℕ
expression_callee (form.CallResult function) = Some function
expression_callee _ = None

abbrev pub IsNoValuePointer : TypeInner → Type 0
IsNoValuePointer (ValuePointer size scalar space) = ⊥
IsNoValuePointer _ = Unit {0}

-- the expressions of an Emit's range are below the bound
abbrev pub EmitsBelow : ℕ → Step → Type 0
EmitsBelow bound (Leaf (Emit start end)) = All (λ expression. expression < bound) (positions_between start end)
EmitsBelow bound _ = Unit {0}

module _ (checked : Module) where
  abbrev pub IsModuleType : ℕ → Type 0
  IsModuleType ty = ty < length checked.types

  abbrev pub IsGlobalExpression : ℕ → Type 0
  IsGlobalExpression expression = expression < length checked.global_expressions

  pub record TypeInRange (inner : TypeInner) : Type 0 where
    pub named : All IsModuleType (type_handles inner)
    pub sized : IfSome (sizing_override inner) (λ override. override < length checked.overrides)

  pub record SpecialTypesInRange (special : SpecialTypes) : Type 0 where
    pub ray_intersection : IfSome special.ray_intersection IsModuleType
    pub ray_vertex_return : IfSome special.ray_vertex_return IsModuleType
    pub predeclared : All (λ (entry : PredeclaredType × ℕ). IsModuleType entry.1) special.predeclared_types

  pub record ConstantInRange (constant : Constant) : Type 0 where
    pub ty : IsModuleType constant.ty
    pub init : IsGlobalExpression constant.init

  pub record OverrideInRange (override : Override) : Type 0 where
    pub ty : IsModuleType override.ty
    pub init : IfSome override.init IsGlobalExpression

  pub record GlobalInRange (variable : GlobalVariable) : Type 0 where
    pub ty : IsModuleType variable.ty
    pub init : IfSome variable.init IsGlobalExpression

  -- an initial value is among the expressions of the local's function
  pub record LocalInRange (function : Function) (variable : LocalVariable) : Type 0 where
    pub ty : IsModuleType variable.ty
    pub init : IfSome variable.init (λ init. init < length function.expressions)

  -- the handles of one of these expressions
  pub record ExpressionInRange (context : Context) (expressions : List Expression) (expression : Expression) : Type 0 where
    pub operands : OperandsBelow (length expressions) expression
    pub names : IsInRange context expression

  -- the handles of a statement, the range of an Emit aside
  pub record StatementInRange (function : Function) (step : Step) : Type 0 where
    pub operands : AllBelow (length function.expressions) (statement_operands step)
    pub result : IfSome (statement_result step) (λ result. result < length function.expressions)
    pub callee : IfSome (statement_callee step) (λ callee. callee < length checked.functions)

  pub record FunctionInRange (function : Function) : Type 0 where
    pub arguments : All (λ (argument : FunctionArgument). IsModuleType argument.ty) function.arguments
    pub result : IfSome function.result (λ (result : FunctionResult). IsModuleType result.ty)
    pub locals : All (LocalInRange function) function.local_variables
    pub expressions : All (ExpressionInRange (context_of checked function.local_variables function.arguments) function.expressions)
        function.expressions
    pub named : All (λ (entry : ℕ × Name). entry.0 < length function.expressions) function.named_expressions
    pub filter : IfSome function.diagnostic_filter_leaf (λ filter. filter < length checked.diagnostic_filters)
    pub statements : All (StatementInRange function) (statements function.body)

  -- a callee is earlier, if it is in range
  abbrev pub IsEarlier : ℕ → ℕ → Type 0
  IsEarlier earlier callee = callee < length checked.functions → callee < earlier

  -- all functions are earlier whose results the function names or which it calls, for a function with this many earlier ones
  pub record CalleesBelow (earlier : ℕ) (function : Function) : Type 0 where
    pub results : All (λ expression. IfSome (expression_callee expression) (IsEarlier earlier)) function.expressions
    pub calls : All (λ step. IfSome (statement_callee step) (IsEarlier earlier)) (statements function.body)

  -- a call passes as many arguments as its callee takes, if that is in range
  abbrev pub CountMatches : Step → Type 0
  CountMatches (Leaf (Call function arguments result)) = IfSome (slice_get checked.functions function)
      (λ callee. length callee.arguments ≡ length arguments)
  CountMatches _ = Unit {0}

  abbrev pub IsNoValuePointerArgument : FunctionArgument → Type 0
  IsNoValuePointerArgument argument = IfSome (slice_get checked.types argument.ty) (λ type. IsNoValuePointer type.inner)

  -- a fact of each function, with its number of earlier ones, and of each entry point, to which all functions are earlier
  pub record EachFunction (Fact : ℕ → Function → Type 0) : Type 0 where
    pub functions : AtEach Fact checked.functions
    pub entry_points : All (λ (entry : EntryPoint). Fact (length checked.functions) entry.function) checked.entry_points

  -- each handle is in the arena that it points into; a global expression has no locals
  pub record HandlesInRange : Type 0 where
    pub types : All (λ (type : «Type»). TypeInRange type.inner) checked.types
    pub special_types : SpecialTypesInRange checked.special_types
    pub constants : All ConstantInRange checked.constants
    pub overrides : All OverrideInRange checked.overrides
    pub global_variables : All GlobalInRange checked.global_variables
    pub global_expressions : All (ExpressionInRange (context_of checked [] []) checked.global_expressions) checked.global_expressions
    pub filters : All (λ (node : DiagnosticFilterNode). IfSome node.parent (λ parent. parent < length checked.diagnostic_filters))
        checked.diagnostic_filters
    pub functions : EachFunction (λ earlier function. FunctionInRange function)

  -- each type names only earlier types
  abbrev pub TypesEarlier : Type 0
  TypesEarlier = IsBackward checked.types

  -- each operand of an expression is an earlier expression
  pub record OperandsEarlier : Type 0 where
    pub global_expressions : AtEach OperandsBelow checked.global_expressions
    pub functions : EachFunction (λ earlier function. AtEach OperandsBelow function.expressions)

  -- each function whose result is named or that is called is earlier, if it is in range; for a global expression none is
  pub record CalleesEarlier : Type 0 where
    pub global_expressions : All (λ expression. IfSome (expression_callee expression) (IsEarlier 0)) checked.global_expressions
    pub functions : EachFunction CalleesBelow

  -- each call passes as many arguments as its callee takes
  abbrev pub ArgumentCountsMatch : Type 0
  ArgumentCountsMatch = EachFunction (λ earlier function. All CountMatches (statements function.body))

  -- each filter's parent is an earlier filter
  abbrev pub FiltersEarlier : Type 0
  FiltersEarlier = AtEach (λ position (node : DiagnosticFilterNode). IfSome node.parent (λ parent. parent < position))
      checked.diagnostic_filters

  -- no function takes an argument of a ValuePointer type
  abbrev pub NoValuePointerArguments : Type 0
  NoValuePointerArguments = EachFunction (λ earlier function. All IsNoValuePointerArgument function.arguments)

  -- each expression of an Emit's range is in its function
  abbrev pub EmitsInRange : Type 0
  EmitsInRange = EachFunction (λ earlier function. All (EmitsBelow (length function.expressions)) (statements function.body))

  pub record IsWellFormed : Type 0 where
    pub handles : HandlesInRange
    pub types : TypesEarlier
    pub operands : OperandsEarlier
    pub callees : CalleesEarlier
    pub argument_counts : ArgumentCountsMatch
    pub filters : FiltersEarlier
    pub arguments : NoValuePointerArguments
    pub emits : EmitsInRange

  -- the fact that excludes the violation
  abbrev pub Lacks : ModuleFault → Type 0
  Lacks HandleOutOfRange = HandlesInRange
  Lacks TypeNotEarlier = TypesEarlier
  Lacks OperandNotEarlier = OperandsEarlier
  Lacks CalleeNotEarlier = CalleesEarlier
  Lacks ArgumentCount = ArgumentCountsMatch
  Lacks FilterNotEarlier = FiltersEarlier
  Lacks ValuePointerArgument = NoValuePointerArguments
  Lacks EmitRange = EmitsInRange

  abbrev pub ModuleHasFault : ModuleFault → Type 0
  ModuleHasFault fault = ¬ Lacks fault
