-- The locations of a module, in order, and the first faulty one.
use Rattle.std.specs.Prelude.{◌≡◌, ◌⊎◌, ℕ, ◌<◌, List, [], ◌∷◌, ◌++◌, map, length, slice_get, IfSome, All}
use Rattle.std.specs.List.{enumerate_from, flat_map}
use Rattle.shader_ir.specs.Body.{Step}
use Rattle.shader_ir.specs.Occurs.{statements}
use Rattle.shader_ir.specs.TypeTree.{PointsBelow}
use Rattle.shader_ir.specs.declared.expression.Expression.{Expression}
use Rattle.shader_ir.specs.declared.function.EntryPoint.{EntryPoint}
use Rattle.shader_ir.specs.declared.function.Function.{Function}
use Rattle.shader_ir.specs.declared.function.FunctionArgument.{FunctionArgument}
use Rattle.shader_ir.specs.declared.function.FunctionResult.{FunctionResult}
use Rattle.shader_ir.specs.declared.function.LocalVariable.{LocalVariable}
use Rattle.shader_ir.specs.declared.module.DiagnosticFilterNode.{DiagnosticFilterNode}
use Rattle.shader_ir.specs.declared.module.Module.{Module}
use Rattle.shader_ir.specs.declared.name.Name.{Name}
use Rattle.shader_ir.specs.declared.types.«Type».{«Type»}
use Rattle.shader_resolve.specs.Context.{context_of}
use Rattle.shader_resolve.specs.Statements.{statement_callee}
use Rattle.shader_resolve.specs.WellFormed.{ConstantInRange, CountMatches, EmitsBelow, ExpressionInRange, GlobalInRange}
use Rattle.shader_resolve.specs.WellFormed.{IsEarlier, IsNoValuePointerArgument, IsModuleType, LocalInRange, OperandsBelow, OverrideInRange}
use Rattle.shader_resolve.specs.WellFormed.{SpecialTypesInRange, StatementInRange, TypeInRange, expression_callee}
use Rattle.shader_resolve.specs.declared.well_formed.ModuleFault.{ModuleFault}
use Rattle.shader_resolve.specs.declared.well_formed.ModuleFault.TheVariants.{HandleOutOfRange, TypeNotEarlier, OperandNotEarlier}
use Rattle.shader_resolve.specs.declared.well_formed.ModuleFault.TheVariants.{CalleeNotEarlier, ArgumentCount, FilterNotEarlier}
use Rattle.shader_resolve.specs.declared.well_formed.ModuleFault.TheVariants.{ValuePointerArgument, EmitRange}
use Rattle.shader_resolve.specs.declared.well_formed.locations.LocationInFunction.{LocationInFunction}
use Rattle.shader_resolve.specs.declared.well_formed.locations.LocationInFunction.TheVariants as part
use Rattle.shader_resolve.specs.declared.well_formed.locations.ModuleLocation.{ModuleLocation}
use Rattle.shader_resolve.specs.declared.well_formed.locations.ModuleLocation.TheVariants as location

-- a location for each item, in order
abbrev pub at_each : {T P : Type 0} → (ℕ → P) → List T → List P
at_each {T} location items = map (λ (entry : ℕ × T). location entry.0) (enumerate_from 0 items)

abbrev pub locations_in_function : Function → List LocationInFunction
locations_in_function function = part.Declarations ∷ (at_each part.Expression function.expressions ++ part.Body ∷ [])

-- a location in a function of the module, and in that of an entry point
abbrev pub in_function : ℕ → LocationInFunction → ModuleLocation
in_function handle part.Declarations = location.Function handle
in_function handle (part.Expression expression) = location.FunctionExpression handle expression
in_function handle part.Body = location.FunctionBody handle

abbrev pub in_entry_point : ℕ → LocationInFunction → ModuleLocation
in_entry_point index part.Declarations = location.EntryPoint index
in_entry_point index (part.Expression expression) = location.EntryPointExpression index expression
in_entry_point index part.Body = location.EntryPointBody index

-- the locations of an arena's functions, and of the entry points
abbrev pub locations_within : {T : Type 0} → (ℕ → LocationInFunction → ModuleLocation) → (T → Function) → List T → List ModuleLocation
locations_within {T} location function_of items =
    flat_map (λ (entry : ℕ × T). map (location entry.0) (locations_in_function (function_of entry.1)))
    (enumerate_from 0 items)

abbrev pub variable_locations : Module → List ModuleLocation
variable_locations checked =
    location.SpecialTypes
    ∷ (at_each location.Constant checked.constants ++
    (at_each location.Override checked.overrides ++ at_each location.GlobalVariable checked.global_variables))

abbrev pub locations : Module → List ModuleLocation
locations checked =
    variable_locations checked
    ++ (at_each location.Type checked.types
    ++ (at_each location.DiagnosticFilter checked.diagnostic_filters
    ++ (at_each location.GlobalExpression checked.global_expressions
    ++ (locations_within in_function (λ function. function) checked.functions
    ++ locations_within in_entry_point (λ (entry : EntryPoint). entry.function) checked.entry_points))))

-- the fact that excludes a violation where the only possible violation is a handle out of range
abbrev pub HandlesLack : Type 0 → ModuleFault → Type 0
HandlesLack InRange HandleOutOfRange = InRange
HandlesLack InRange _ = Unit {0}

-- for each item of a module, the fact that excludes a violation there
module _ (checked : Module) where
  abbrev pub TypeLacks : ℕ → «Type» → ModuleFault → Type 0
  TypeLacks handle type HandleOutOfRange = TypeInRange checked type.inner
  TypeLacks handle type TypeNotEarlier = PointsBelow handle type.inner
  TypeLacks handle type _ = Unit {0}

  abbrev pub FilterLacks : ℕ → DiagnosticFilterNode → ModuleFault → Type 0
  FilterLacks handle node HandleOutOfRange = IfSome node.parent (λ parent. parent < length checked.diagnostic_filters)
  FilterLacks handle node FilterNotEarlier = IfSome node.parent (λ parent. parent < handle)
  FilterLacks handle node _ = Unit {0}

  -- the fact for one of these expressions, of a function with this many earlier ones
  abbrev pub ExpressionLacks : (earlier : ℕ) → List LocalVariable → List FunctionArgument → List Expression → ℕ → Expression
      → ModuleFault → Type 0
  ExpressionLacks earlier locals arguments expressions handle expression HandleOutOfRange = ExpressionInRange checked
      (context_of checked locals arguments) expressions expression
  ExpressionLacks earlier locals arguments expressions handle expression OperandNotEarlier = OperandsBelow handle expression
  ExpressionLacks earlier locals arguments expressions handle expression CalleeNotEarlier = IfSome (expression_callee expression)
      (IsEarlier checked earlier)
  ExpressionLacks earlier locals arguments expressions handle expression _ = Unit {0}

  -- the handles of a function are in range, except those of its expressions and statements
  pub record DeclarationsInRange (function : Function) : Type 0 where
    pub arguments : All (λ (argument : FunctionArgument). IsModuleType checked argument.ty) function.arguments
    pub result : IfSome function.result (λ (result : FunctionResult). IsModuleType checked result.ty)
    pub locals : All (LocalInRange checked function) function.local_variables
    pub named : All (λ (entry : ℕ × Name). entry.0 < length function.expressions) function.named_expressions
    pub filter : IfSome function.diagnostic_filter_leaf (λ filter. filter < length checked.diagnostic_filters)

  abbrev pub DeclarationsLack : Function → ModuleFault → Type 0
  DeclarationsLack function HandleOutOfRange = DeclarationsInRange function
  DeclarationsLack function ValuePointerArgument = All (IsNoValuePointerArgument checked) function.arguments
  DeclarationsLack function _ = Unit {0}

  abbrev pub StatementLacks : (earlier : ℕ) → Function → Step → ModuleFault → Type 0
  StatementLacks earlier function step HandleOutOfRange = StatementInRange checked function step
  StatementLacks earlier function step CalleeNotEarlier = IfSome (statement_callee step) (IsEarlier checked earlier)
  StatementLacks earlier function step ArgumentCount = CountMatches checked step
  StatementLacks earlier function step EmitRange = EmitsBelow (length function.expressions) step
  StatementLacks earlier function step _ = Unit {0}

  -- the fact for a location of a function with this many earlier ones
  abbrev pub FunctionLacks : (earlier : ℕ) → Function → LocationInFunction → ModuleFault → Type 0
  FunctionLacks earlier function part.Declarations fault = DeclarationsLack function fault
  FunctionLacks earlier function (part.Expression handle) fault =
      IfSome (slice_get function.expressions handle)
      (λ expression. ExpressionLacks earlier function.local_variables function.arguments function.expressions handle expression fault)
  FunctionLacks earlier function part.Body fault = All (λ (step : Step). StatementLacks earlier function step fault)
      (statements function.body)

  -- to an entry point all functions are earlier
  abbrev pub OfFunction : ℕ → LocationInFunction → ModuleFault → Type 0
  OfFunction handle inner fault = IfSome (slice_get checked.functions handle) (λ function. FunctionLacks handle function inner fault)

  abbrev pub OfEntryPoint : ℕ → LocationInFunction → ModuleFault → Type 0
  OfEntryPoint index inner fault =
      IfSome (slice_get checked.entry_points index) (λ (entry : EntryPoint). FunctionLacks
      (length checked.functions) entry.function inner fault)

  abbrev pub LocationLacks : ModuleLocation → ModuleFault → Type 0
  LocationLacks location.SpecialTypes fault = HandlesLack (SpecialTypesInRange checked checked.special_types) fault
  LocationLacks (location.Constant handle) fault = IfSome (slice_get checked.constants handle) (λ constant. HandlesLack
      (ConstantInRange checked constant) fault)
  LocationLacks (location.Override handle) fault = IfSome (slice_get checked.overrides handle) (λ override. HandlesLack
      (OverrideInRange checked override) fault)
  LocationLacks (location.GlobalVariable handle) fault =
      IfSome (slice_get checked.global_variables handle) (λ variable. HandlesLack (GlobalInRange checked variable) fault)
  LocationLacks (location.Type handle) fault = IfSome (slice_get checked.types handle) (λ type. TypeLacks handle type fault)
  LocationLacks (location.DiagnosticFilter handle) fault = IfSome (slice_get checked.diagnostic_filters handle)
      (λ node. FilterLacks handle node fault)
  LocationLacks (location.GlobalExpression handle) fault =
      IfSome (slice_get checked.global_expressions handle)
      (λ expression. ExpressionLacks 0 [] [] checked.global_expressions handle expression fault)
  LocationLacks (location.Function handle) fault = OfFunction handle part.Declarations fault
  LocationLacks (location.FunctionExpression handle expression) fault = OfFunction handle (part.Expression expression) fault
  LocationLacks (location.FunctionBody handle) fault = OfFunction handle part.Body fault
  LocationLacks (location.EntryPoint index) fault = OfEntryPoint index part.Declarations fault
  LocationLacks (location.EntryPointExpression index expression) fault = OfEntryPoint index (part.Expression expression) fault
  LocationLacks (location.EntryPointBody index) fault = OfEntryPoint index part.Body fault

-- the violation occurs at the location, which is the first faulty one of the list
abbrev pub OccursFirst : {P : Type 0} → (P → ModuleFault → Type 0) → List P → P → ModuleFault → Type 0
OccursFirst Lacks [] found fault = ⊥
OccursFirst Lacks (here ∷ later) found fault = ((here ≡ found) × ¬ Lacks here fault) ⊎ (((any : ModuleFault)
    → Lacks here any) × OccursFirst Lacks later found fault)

-- the violation occurs at the first faulty location of the module
abbrev pub IsFirstModuleFault : Module → ModuleLocation → ModuleFault → Type 0
IsFirstModuleFault checked found fault = OccursFirst (LocationLacks checked) (locations checked) found fault
