-- check_module is sound and complete: its result decides which violations the module has.
use Rattle.std.proofs.Common.{◌≡◌, ◌↔◌, sym, subst, refl, ℕ, zero, suc, ◌+◌, ◌<◌, Bool, true, false}
use Rattle.std.proofs.Common.{List, [], ◌∷◌, IfSome, IsOk, IfErr, Ok, Err, All, length, arith}
use Rattle.std.specs.List.{enumerate_from}
use Rattle.std.proofs.lemmas.Bool.Decides.{not_from_Decides}
use Rattle.std.proofs.lemmas.List.Elements.{All-nil, All-cons, All-head, All-tail, All-weaker}
use Rattle.std.proofs.lemmas.Option.{slice_get_within}
use Rattle.shader_ir.specs.Body.{Step}
use Rattle.shader_ir.specs.Occurs.{statements}
use Rattle.shader_ir.specs.Operands.{expression_operands}
use Rattle.shader_ir.specs.TypeTree.{type_handles, IsBackward, PointsBelow}
use Rattle.shader_ir.specs.declared.expression.Expression.{Expression}
use Rattle.shader_ir.specs.declared.expression.Expression.TheVariants as form
use Rattle.shader_ir.specs.declared.function.EntryPoint.{EntryPoint}
use Rattle.shader_ir.specs.declared.function.Function.{Function}
use Rattle.shader_ir.specs.declared.function.FunctionArgument.{FunctionArgument}
use Rattle.shader_ir.specs.declared.function.LocalVariable.{LocalVariable}
use Rattle.shader_ir.specs.declared.module.DiagnosticFilterNode.{DiagnosticFilterNode}
use Rattle.shader_ir.specs.declared.module.Module.{Module}
use Rattle.shader_ir.specs.declared.types.«Type».{«Type»}
use Rattle.shader_resolve.specs.Context.{context_of, IsInRange}
use Rattle.shader_resolve.specs.FaultyLocations.{ExpressionLacks, FilterLacks, StatementLacks, TypeLacks}
use Rattle.shader_resolve.specs.ModuleTests.{Checked, bounds_of, check_argument, check_data, check_entry_point, check_expression}
use Rattle.shader_resolve.specs.ModuleTests.{check_filter, check_function, check_module, check_statement, check_type, global_bounds}
use Rattle.shader_resolve.specs.ModuleTests.{guard, in_arena, in_body, in_entries, in_list, no_fault, then}
use Rattle.shader_resolve.specs.Statements.{statement_callee}
use Rattle.shader_resolve.specs.WellFormed.{AtEach, CalleesBelow, CountMatches, EmitsBelow, ExpressionInRange, FunctionInRange}
use Rattle.shader_resolve.specs.WellFormed.{IsEarlier, IsNoValuePointerArgument, IsModuleType, IsWellFormed, Lacks, OperandsBelow}
use Rattle.shader_resolve.specs.WellFormed.{ModuleHasFault, StatementInRange, TypeInRange, expression_callee}
use Rattle.shader_resolve.specs.declared.well_formed.ModuleFault.{ModuleFault}
use Rattle.shader_resolve.specs.declared.well_formed.ModuleFault.TheVariants.{HandleOutOfRange, TypeNotEarlier, OperandNotEarlier}
use Rattle.shader_resolve.specs.declared.well_formed.ModuleFault.TheVariants.{CalleeNotEarlier, ArgumentCount, FilterNotEarlier}
use Rattle.shader_resolve.specs.declared.well_formed.ModuleFault.TheVariants.{ValuePointerArgument, EmitRange}
use Rattle.shader_resolve.proofs.BodyLemmas.{body-list}
use Rattle.shader_resolve.proofs.PositionLemmas.{all-positions, each-position}
use Rattle.shader_resolve.proofs.TestLemmas.{VariablesInRange, OthersInRange, argument-decides, callee-decides, counts-decide}
use Rattle.shader_resolve.proofs.TestLemmas.{emits-decide, expression-decides, function-decides, handles-decide, operands-decide}
use Rattle.shader_resolve.proofs.TestLemmas.{optional-decides, statement-decides, type-decides, variables-decide}
use Rattle.std.proofs.lemmas.Bool.Decides.{Decides-ltb}

-- if there is no violation each fact holds, and the fact of a returned violation doesn't
abbrev pub Sound : Checked → (ModuleFault → Type 0) → Type 0
Sound (Ok nothing) Fact = (fault : ModuleFault) → Fact fault
Sound (Err fault) Fact = ¬ Fact fault

pub then-sound : (first rest : Checked) (F G : ModuleFault → Type 0) → Sound first F → Sound rest G →
    Sound (then first rest) (λ fault. F fault × G fault)
then-sound (Ok nothing) (Ok more) F G f g = λ fault. (f fault, g fault)
then-sound (Ok nothing) (Err failure) F G f g = λ both. g both.1
then-sound (Err failure) rest F G f g = λ both. f both.0

pub along : (answer : Checked) (F G : ModuleFault → Type 0) → ((fault : ModuleFault) → F fault → G fault) →
    ((fault : ModuleFault) → G fault → F fault) → Sound answer F → Sound answer G
along (Ok nothing) F G to from sound = λ fault. to fault (sound fault)
along (Err failure) F G to from sound = λ g. sound (from failure g)

pub guarded : (test : Bool) (fault : ModuleFault) (rest : Checked) (F : ModuleFault → Type 0) → (test ≡ true → Sound rest F) →
    (test ≡ false → ¬ F fault) → Sound (guard test fault rest) F
guarded true fault rest F passes fails = passes refl
guarded false fault rest F passes fails = fails refl

pub in_list-sound : {T : Type 0} (check : T → Checked) (F : T → ModuleFault → Type 0) → ((item : T) → Sound (check item) (F item)) →
    (items : List T)
    → Sound (in_list check items) (λ fault. All (λ (item : T). F item fault) items)
in_list-sound {T} check F each [] = λ fault. All-nil (λ (item : T). F item fault)
in_list-sound {T} check F each (item ∷ items) =
    along (then (check item) (in_list check items)) (λ fault. F item fault ×
    All (λ (item : T). F item fault) items) (λ fault. All (λ (item : T). F item fault) (item ∷ items))
    (λ fault both. All-cons (λ (item : T). F item fault) item items both.0 both.1)
    (λ fault all. (All-head (λ (item : T). F item fault) item items all, All-tail (λ (item : T). F item fault) item items all))
    (then-sound (check item) (in_list check items) (F item) (λ fault. All (λ (item : T). F item fault) items) (each item)
    (in_list-sound check F each items))

module _ {T : Type 0} (check : ℕ → T → Checked) (F : ℕ → T → ModuleFault → Type 0) (each : (position : ℕ) (item : T) →
    Sound (check position item) (F position item)) where
  AtEach-cons : (fault : ModuleFault) (first : ℕ) (item : T) (items : List T)
      → F first item fault × AtEach (λ position item. F (first + 1 + position) item fault) items →
      AtEach (λ position item. F (first + position) item fault) (item ∷ items)
  AtEach-cons fault first item items both zero found is =
      let same : first ≡ first + 0 = omega arith in
      let there : item ≡ found = cc in
      subst (λ position. F position found fault) same (subst (λ item. F first item fault) there both.0)
  AtEach-cons fault first item items both (suc position) found is =
      let same : first + 1 + position ≡ first + suc position = omega arith in
      subst (λ position. F position found fault) same (both.1 position found is)

  AtEach-parts : (fault : ModuleFault) (first : ℕ) (item : T) (items : List T)
      → AtEach (λ position item. F (first + position) item fault) (item ∷ items) →
      F first item fault × AtEach (λ position item. F (first + 1 + position) item fault) items
  AtEach-parts fault first item items all =
      let same : first + 0 ≡ first = omega arith in (
        subst (λ position. F position item fault) same (all 0 item refl),
        λ position found is.
            let next : first + suc position ≡ first + 1 + position = omega arith in
            subst (λ position. F position found fault) next (all (suc position) found is),
      )

  entries-sound : (first : ℕ) (items : List T) → Sound (in_entries check (enumerate_from first items))
      (λ fault. AtEach (λ position item. F (first + position) item fault) items)
  entries-sound first [] = λ fault position item is. absurd (cc)
  entries-sound first (item ∷ items) =
      along (then (check first item) (in_entries check (enumerate_from (first + 1) items)))
      (λ fault. F first item fault × AtEach (λ position item. F (first + 1 + position) item fault) items)
      (λ fault. AtEach (λ position item. F (first + position) item fault) (item ∷ items))
      (λ fault. AtEach-cons fault first item items)
      (λ fault. AtEach-parts fault first item items)
      (then-sound (check first item) (in_entries check (enumerate_from (first + 1) items)) (F first item) _ (each first item)
      (entries-sound (first + 1) items))

  in_arena-sound : (items : List T) → Sound (in_arena check items) (λ fault. AtEach (λ position item. F position item fault) items)
  in_arena-sound items =
      along (in_arena check items) (λ fault. AtEach (λ position item. F (0 + position) item fault) items)
      (λ fault. AtEach (λ position item. F position item fault) items)
      (λ fault all position item is. let same : 0 + position ≡ position = omega arith in
      subst (λ position. F position item fault) same (all position item is))
      (λ fault all position item is. let same : position ≡ 0 + position = omega arith in
      subst (λ position. F position item fault) same (all position item is))
      (entries-sound 0 items)

-- a trivial fact holds at each position
any-position : {T : Type 0} (items : List T) → AtEach (λ position item. Unit {0}) items
any-position items position item is = tt

pub any-item : {T : Type 0} (items : List T) → All (λ (item : T). Unit {0}) items
any-item items k d lt = tt

module _ (checked : Module) where
  abbrev pub TypeFacts : ℕ → «Type» → ModuleFault → Type 0
  TypeFacts = TypeLacks checked

  type-facts : (position : ℕ) (type : «Type») → TypeInRange checked type.inner → PointsBelow position type.inner → (fault : ModuleFault) →
      TypeFacts position type fault
  type-facts position type range earlier HandleOutOfRange = range
  type-facts position type range earlier TypeNotEarlier = earlier
  type-facts position type range earlier fault = tt

  pub type-sound : (position : ℕ) (type : «Type») → Sound (check_type checked position type.inner) (TypeFacts position type)
  type-sound position type =
      guarded _ HandleOutOfRange _ (TypeFacts position type)
      (λ range.
      guarded _ TypeNotEarlier no_fault (TypeFacts position type)
      (λ earlier. type-facts position type ((type-decides checked type.inner).0 range)
      ((handles-decide position (type_handles type.inner)).0 earlier))
      (λ fails. not_from_Decides _ (handles-decide position (type_handles type.inner)) fails))
      (λ fails. not_from_Decides _ (type-decides checked type.inner) fails)

  abbrev pub FilterFacts : ℕ → DiagnosticFilterNode → ModuleFault → Type 0
  FilterFacts = FilterLacks checked

  filter-facts : (position : ℕ) (node : DiagnosticFilterNode) → IfSome node.parent (λ parent. parent < length checked.diagnostic_filters)
      → IfSome node.parent (λ parent. parent < position) → (fault : ModuleFault) → FilterFacts position node fault
  filter-facts position node range earlier HandleOutOfRange = range
  filter-facts position node range earlier FilterNotEarlier = earlier
  filter-facts position node range earlier fault = tt

  pub filter-sound : (position : ℕ) (node : DiagnosticFilterNode) → Sound (check_filter checked position node) (FilterFacts position node)
  filter-sound position node =
      guarded _ HandleOutOfRange _ (FilterFacts position node)
      (λ range.
      guarded _ FilterNotEarlier no_fault (FilterFacts position node)
      (λ earlier. filter-facts position node ((optional-decides (length checked.diagnostic_filters) node.parent).0 range)
      ((optional-decides position node.parent).0 earlier))
      (λ fails. not_from_Decides _ (optional-decides position node.parent) fails))
      (λ fails. not_from_Decides _ (optional-decides (length checked.diagnostic_filters) node.parent) fails)

  callee-there : (locals : List LocalVariable) (arguments : List FunctionArgument) (expression : Expression) →
      IsInRange (context_of checked locals arguments) expression
      → IfSome (expression_callee expression) (λ callee. callee < length checked.functions)
  callee-there locals arguments (form.CallResult function) there = there
  callee-there locals arguments expression there = tt

  module _ (earlier : ℕ) (locals : List LocalVariable) (arguments : List FunctionArgument) (expressions : List Expression) where
    abbrev pub ExpressionFacts : ℕ → Expression → ModuleFault → Type 0
    ExpressionFacts = ExpressionLacks checked earlier locals arguments expressions

    expression-facts : (position : ℕ) (expression : Expression) →
        ExpressionInRange checked (context_of checked locals arguments) expressions expression → OperandsBelow position expression
        → IfSome (expression_callee expression) (IsEarlier checked earlier) → (fault : ModuleFault) →
        ExpressionFacts position expression fault
    expression-facts position expression range operands callee HandleOutOfRange = range
    expression-facts position expression range operands callee OperandNotEarlier = operands
    expression-facts position expression range operands callee CalleeNotEarlier = callee
    expression-facts position expression range operands callee fault = tt

    pub expression-sound : (position : ℕ) (expression : Expression)
        → Sound (check_expression checked (record { earlier = earlier; locals = length locals; expressions = length expressions }) position
        expression) (ExpressionFacts position expression)
    expression-sound position expression =
        guarded _ HandleOutOfRange _ (ExpressionFacts position expression)
        (λ range.
        let in_range = (expression-decides checked locals arguments expressions expression).0 range in
        let decides = callee-decides checked earlier (expression_callee expression)
        (callee-there locals arguments expression in_range.names) in
        guarded _ OperandNotEarlier _ (ExpressionFacts position expression)
        (λ operands.
        guarded _ CalleeNotEarlier no_fault (ExpressionFacts position expression)
        (λ callee. expression-facts position expression in_range ((operands-decide position (expression_operands expression)).0 operands)
        (decides.0 callee))
        (λ fails. not_from_Decides _ decides fails))
        (λ fails. not_from_Decides _ (operands-decide position (expression_operands expression)) fails))
        (λ fails. not_from_Decides _ (expression-decides checked locals arguments expressions expression) fails)

  abbrev pub ArgumentFacts : FunctionArgument → ModuleFault → Type 0
  ArgumentFacts argument HandleOutOfRange = IsModuleType checked argument.ty
  ArgumentFacts argument ValuePointerArgument = IsNoValuePointerArgument checked argument
  ArgumentFacts argument _ = Unit {0}

  argument-facts : (argument : FunctionArgument) → IsModuleType checked argument.ty → IsNoValuePointerArgument checked argument →
      (fault : ModuleFault) → ArgumentFacts argument fault
  argument-facts argument range pointer HandleOutOfRange = range
  argument-facts argument range pointer ValuePointerArgument = pointer
  argument-facts argument range pointer fault = tt

  pub argument-sound : (argument : FunctionArgument) → Sound (check_argument checked argument) (ArgumentFacts argument)
  argument-sound argument =
      guarded _ HandleOutOfRange _ (ArgumentFacts argument)
      (λ range.
      guarded _ ValuePointerArgument no_fault (ArgumentFacts argument)
      (λ pointer. argument-facts argument ((Decides-ltb argument.ty (length checked.types)).0 range)
      ((argument-decides checked argument).0 pointer))
      (λ fails. not_from_Decides _ (argument-decides checked argument) fails))
      (λ fails. not_from_Decides _ (Decides-ltb argument.ty (length checked.types)) fails)

  module _ (earlier : ℕ) (function : Function) where
    abbrev pub StatementFacts : Step → ModuleFault → Type 0
    StatementFacts = StatementLacks checked earlier function

    statement-facts : (step : Step) → StatementInRange checked function step → IfSome (statement_callee step) (IsEarlier checked earlier) →
        CountMatches checked step
        → EmitsBelow (length function.expressions) step → (fault : ModuleFault) → StatementFacts step fault
    statement-facts step range callee count emits HandleOutOfRange = range
    statement-facts step range callee count emits CalleeNotEarlier = callee
    statement-facts step range callee count emits ArgumentCount = count
    statement-facts step range callee count emits EmitRange = emits
    statement-facts step range callee count emits fault = tt

    statement-sound : (step : Step) → Sound (check_statement checked (bounds_of earlier function) step) (StatementFacts step)
    statement-sound step =
        guarded _ HandleOutOfRange _ (StatementFacts step)
        (λ range.
        let in_range = (statement-decides checked function step).0 range in
        let decides = callee-decides checked earlier (statement_callee step) in_range.callee in
        guarded _ CalleeNotEarlier _ (StatementFacts step)
        (λ callee.
        guarded _ ArgumentCount _ (StatementFacts step)
        (λ count.
        guarded _ EmitRange no_fault (StatementFacts step)
        (λ emits. statement-facts step in_range (decides.0 callee) ((counts-decide checked step).0 count)
        ((emits-decide (length function.expressions) step).0 emits))
        (λ fails. not_from_Decides _ (emits-decide (length function.expressions) step) fails))
        (λ fails. not_from_Decides _ (counts-decide checked step) fails))
        (λ fails. not_from_Decides _ decides fails))
        (λ fails. not_from_Decides _ (statement-decides checked function step) fails)

    abbrev FunctionFacts : ModuleFault → Type 0
    FunctionFacts HandleOutOfRange = FunctionInRange checked function
    FunctionFacts OperandNotEarlier = AtEach OperandsBelow function.expressions
    FunctionFacts CalleeNotEarlier = CalleesBelow checked earlier function
    FunctionFacts ArgumentCount = All (CountMatches checked) (statements function.body)
    FunctionFacts ValuePointerArgument = All (IsNoValuePointerArgument checked) function.arguments
    FunctionFacts EmitRange = All (EmitsBelow (length function.expressions)) (statements function.body)
    FunctionFacts _ = Unit {0}

    -- the facts of the checks after those of the other handles
    abbrev PartFacts : ModuleFault → Type 0
    PartFacts fault =
        All (λ (argument : FunctionArgument). ArgumentFacts argument fault) function.arguments
        × (AtEach (λ position expression. ExpressionFacts earlier function.local_variables function.arguments function.expressions position
        expression fault) function.expressions
        × All (λ (step : Step). StatementFacts step fault) (statements function.body))

    function-facts : OthersInRange checked function → (fault : ModuleFault) → PartFacts fault → FunctionFacts fault
    function-facts others HandleOutOfRange parts = record {
      arguments = parts.0;
      result = others.result;
      locals = others.locals;
      expressions = all-positions (ExpressionInRange checked (context_of checked function.local_variables function.arguments)
          function.expressions) function.expressions parts.1.0;
      named = others.named;
      filter = others.filter;
      statements = parts.1.1;
    }
    function-facts others OperandNotEarlier parts = parts.1.0
    function-facts others CalleeNotEarlier parts = record {
      results = all-positions (λ expression. IfSome (expression_callee expression) (IsEarlier checked earlier)) function.expressions
          parts.1.0;
      calls = parts.1.1;
    }
    function-facts others ArgumentCount parts = parts.1.1
    function-facts others ValuePointerArgument parts = parts.0
    function-facts others EmitRange parts = parts.1.1
    function-facts others fault parts = tt

    part-facts : (fault : ModuleFault) → FunctionFacts fault → PartFacts fault
    part-facts HandleOutOfRange is = (
      is.arguments,
      (
        each-position (ExpressionInRange checked (context_of checked function.local_variables function.arguments) function.expressions)
            function.expressions is.expressions,
        is.statements,
      ),
    )
    part-facts TypeNotEarlier is = (any-item function.arguments, (any-position function.expressions, any-item (statements function.body)))
    part-facts OperandNotEarlier is = (any-item function.arguments, (is, any-item (statements function.body)))
    part-facts CalleeNotEarlier is = (
      any-item function.arguments,
      (
        each-position (λ expression. IfSome (expression_callee expression) (IsEarlier checked earlier)) function.expressions
            is.results,
        is.calls,
      ),
    )
    part-facts ArgumentCount is = (any-item function.arguments, (any-position function.expressions, is))
    part-facts FilterNotEarlier is = (any-item function.arguments, (any-position function.expressions, any-item (statements function.body)))
    part-facts ValuePointerArgument is = (is, (any-position function.expressions, any-item (statements function.body)))
    part-facts EmitRange is = (any-item function.arguments, (any-position function.expressions, is))

    pub body-sound : Sound (in_body (check_statement checked (bounds_of earlier function)) function.body)
        (λ fault. All (λ (step : Step). StatementFacts step fault) (statements function.body))
    body-sound =
        subst (λ answer. Sound answer (λ fault. All (λ (step : Step). StatementFacts step fault) (statements function.body)))
        (sym (body-list (check_statement checked (bounds_of earlier function)) function.body))
        (in_list-sound (check_statement checked (bounds_of earlier function)) StatementFacts statement-sound (statements function.body))

    parts-sound : Sound
        (then (in_list (check_argument checked) function.arguments)
        (then (in_arena (check_expression checked (bounds_of earlier function)) function.expressions)
        (in_body (check_statement checked (bounds_of earlier function)) function.body)))
        PartFacts
    parts-sound =
        then-sound (in_list (check_argument checked) function.arguments) _
        (λ fault. All (λ (argument : FunctionArgument). ArgumentFacts argument fault) function.arguments) _
        (in_list-sound (check_argument checked) ArgumentFacts argument-sound function.arguments)
        (then-sound (in_arena (check_expression checked (bounds_of earlier function)) function.expressions)
        (in_body (check_statement checked (bounds_of earlier function)) function.body) _ _
        (in_arena-sound (check_expression checked (bounds_of earlier function))
        (ExpressionFacts earlier function.local_variables function.arguments function.expressions)
        (expression-sound earlier function.local_variables function.arguments function.expressions) function.expressions)
        body-sound)

    function-sound : Sound (check_function checked earlier function) FunctionFacts
    function-sound =
        guarded _ HandleOutOfRange _ FunctionFacts
        (λ others. along _ PartFacts FunctionFacts (function-facts ((function-decides checked function).0 others)) part-facts parts-sound)
        (λ fails is. not_from_Decides _ (function-decides checked function) fails
        (record { result = is.result; locals = is.locals; named = is.named; filter = is.filter }))

  -- the facts of the checks after those of the variables' handles
  abbrev RestFacts : ModuleFault → Type 0
  RestFacts fault =
      AtEach (λ position type. TypeFacts position type fault) checked.types
      × (AtEach (λ position node. FilterFacts position node fault) checked.diagnostic_filters)

  abbrev DataFacts : ModuleFault → Type 0
  DataFacts HandleOutOfRange = VariablesInRange checked × RestFacts HandleOutOfRange
  DataFacts fault = RestFacts fault

  data-facts : VariablesInRange checked → (fault : ModuleFault) → RestFacts fault → DataFacts fault
  data-facts range HandleOutOfRange rest = (range, rest)
  data-facts range fault rest = rest

  rest-facts : (fault : ModuleFault) → DataFacts fault → RestFacts fault
  rest-facts HandleOutOfRange both = both.1
  rest-facts fault rest = rest

  data-sound : Sound (check_data checked) DataFacts
  data-sound =
      guarded _ HandleOutOfRange _ DataFacts
      (λ range.
      along _ RestFacts DataFacts (data-facts ((variables-decide checked).0 range)) rest-facts
      (then-sound (in_arena (λ position type. check_type checked position type.inner) checked.types)
      (in_arena (check_filter checked) checked.diagnostic_filters) _ _
      (in_arena-sound (λ position type. check_type checked position type.inner) TypeFacts type-sound checked.types)
      (in_arena-sound (check_filter checked) FilterFacts filter-sound checked.diagnostic_filters)))
      (λ fails both. not_from_Decides _ (variables-decide checked) fails both.0)

  abbrev AllFacts : ModuleFault → Type 0
  AllFacts fault =
      DataFacts fault
      × (AtEach (λ position expression. ExpressionFacts 0 [] [] checked.global_expressions position expression fault)
      checked.global_expressions
      × (AtEach (λ earlier function. FunctionFacts earlier function fault) checked.functions
      × (All (λ (entry : EntryPoint). FunctionFacts (length checked.functions) entry.function fault) checked.entry_points)))

  all-sound : Sound (check_module checked) AllFacts
  all-sound =
      then-sound (check_data checked) _ DataFacts _ data-sound
      (then-sound (in_arena (check_expression checked (global_bounds checked)) checked.global_expressions) _ _ _
      (in_arena-sound (check_expression checked (global_bounds checked)) (ExpressionFacts 0 [] [] checked.global_expressions)
      (expression-sound 0 [] [] checked.global_expressions) checked.global_expressions)
      (then-sound (in_arena (check_function checked) checked.functions) (in_list (check_entry_point checked) checked.entry_points) _ _
      (in_arena-sound (check_function checked) FunctionFacts function-sound checked.functions)
      (in_list-sound (check_entry_point checked) (λ entry. FunctionFacts (length checked.functions) entry.function)
      (λ entry. function-sound (length checked.functions) entry.function) checked.entry_points)))

  backward : AtEach (λ position (type : «Type»). PointsBelow position type.inner) checked.types → IsBackward checked.types
  backward earlier = record {
    in_range = λ position type at.
        let lt = slice_get_within checked.types position type at in
        All-weaker (λ handle. handle < position) (λ handle. handle < length checked.types) (λ handle below. omega arith)
        (type_handles type.inner) (earlier position type at);
    earlier = earlier;
  }

  lacks : (fault : ModuleFault) → AllFacts fault → Lacks checked fault
  lacks HandleOutOfRange all = record {
    types = all-positions (λ (type : «Type»). TypeInRange checked type.inner) checked.types all.0.1.0;
    special_types = all.0.0.special_types;
    constants = all.0.0.constants;
    overrides = all.0.0.overrides;
    global_variables = all.0.0.global_variables;
    global_expressions = all-positions (ExpressionInRange checked (context_of checked [] []) checked.global_expressions)
        checked.global_expressions all.1.0;
    filters = all-positions (λ (node : DiagnosticFilterNode). IfSome node.parent (λ parent. parent < length checked.diagnostic_filters))
        checked.diagnostic_filters all.0.1.1;
    functions = record { functions = all.1.1.0; entry_points = all.1.1.1 };
  }
  lacks TypeNotEarlier all = backward all.0.0
  lacks OperandNotEarlier all = record {
    global_expressions = all.1.0;
    functions =
        record { functions = all.1.1.0; entry_points = all.1.1.1 };
  }
  lacks CalleeNotEarlier all = record {
    global_expressions = all-positions (λ expression. IfSome (expression_callee expression) (IsEarlier checked 0))
        checked.global_expressions all.1.0;
    functions = record { functions = all.1.1.0; entry_points = all.1.1.1 };
  }
  lacks ArgumentCount all = record { functions = all.1.1.0; entry_points = all.1.1.1 }
  lacks FilterNotEarlier all = all.0.1
  lacks ValuePointerArgument all = record { functions = all.1.1.0; entry_points = all.1.1.1 }
  lacks EmitRange all = record { functions = all.1.1.0; entry_points = all.1.1.1 }

  no-data : AtEach (λ position (type : «Type»). Unit {0}) checked.types ×
      (AtEach (λ position (node : DiagnosticFilterNode). Unit {0}) checked.diagnostic_filters)
  no-data = (any-position checked.types, any-position checked.diagnostic_filters)

  facts : (fault : ModuleFault) → Lacks checked fault → AllFacts fault
  facts HandleOutOfRange is = (
    (
      record {
        special_types = is.special_types;
        constants = is.constants;
        overrides = is.overrides;
        global_variables =
            is.global_variables;
      },
      (
        each-position (λ (type : «Type»). TypeInRange checked type.inner) checked.types is.types,
        each-position (λ (node : DiagnosticFilterNode). IfSome node.parent (λ parent. parent < length checked.diagnostic_filters))
            checked.diagnostic_filters is.filters,
      ),
    ),
    (
      each-position (ExpressionInRange checked (context_of checked [] []) checked.global_expressions) checked.global_expressions
          is.global_expressions,
      (is.functions.functions, is.functions.entry_points),
    ),
  )
  facts TypeNotEarlier is = (
    (is.earlier, any-position checked.diagnostic_filters),
    (
      any-position checked.global_expressions,
      (any-position checked.functions, any-item checked.entry_points),
    ),
  )
  facts OperandNotEarlier is = (no-data, (is.global_expressions, (is.functions.functions, is.functions.entry_points)))
  facts CalleeNotEarlier is = (
    no-data,
    (
      each-position (λ expression. IfSome (expression_callee expression) (IsEarlier checked 0)) checked.global_expressions
          is.global_expressions,
      (is.functions.functions, is.functions.entry_points),
    ),
  )
  facts ArgumentCount is = (no-data, (any-position checked.global_expressions, (is.functions, is.entry_points)))
  facts FilterNotEarlier is = (
    (any-position checked.types, is),
    (any-position checked.global_expressions, (any-position checked.functions, any-item checked.entry_points)),
  )
  facts ValuePointerArgument is = (no-data, (any-position checked.global_expressions, (is.functions, is.entry_points)))
  facts EmitRange is = (no-data, (any-position checked.global_expressions, (is.functions, is.entry_points)))

  pub module-sound : Sound (check_module checked) (Lacks checked)
  module-sound = along (check_module checked) AllFacts (Lacks checked) lacks facts all-sound

  each-lack : IsWellFormed checked → (fault : ModuleFault) → Lacks checked fault
  each-lack is HandleOutOfRange = is.handles
  each-lack is TypeNotEarlier = is.types
  each-lack is OperandNotEarlier = is.operands
  each-lack is CalleeNotEarlier = is.callees
  each-lack is ArgumentCount = is.argument_counts
  each-lack is FilterNotEarlier = is.filters
  each-lack is ValuePointerArgument = is.arguments
  each-lack is EmitRange = is.emits

  -- the result is Ok exactly if the module is well formed
  pub ok-decides : (answer : Checked) → Sound answer (Lacks checked) → IsOk answer ↔ IsWellFormed checked
  ok-decides (Ok nothing) sound = (
    λ any.
        record {
          handles = sound HandleOutOfRange;
          types = sound TypeNotEarlier;
          operands = sound OperandNotEarlier;
          callees = sound CalleeNotEarlier;
          argument_counts = sound ArgumentCount;
          filters = sound FilterNotEarlier;
          arguments = sound ValuePointerArgument;
          emits = sound EmitRange;
        },
    λ any. refl,
  )
  ok-decides (Err failure) sound = (λ none. absurd (cc), λ is. absurd (sound (each-lack is failure)))

  -- a returned violation occurs in the module
  pub fault-is_there : (answer : Checked) → Sound answer (Lacks checked) → IfErr answer (ModuleHasFault checked)
  fault-is_there (Ok nothing) sound = tt
  fault-is_there (Err failure) sound = sound
