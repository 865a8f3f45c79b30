-- Backward references in a well-formed module.
use Rattle.std.proofs.Common.{◌≡◌, ℕ, ◌<◌, All, List, Some, IfSome, slice_get, length}
use Rattle.std.specs.List.{Contains}
use Rattle.std.proofs.lemmas.List.Elements.{All-contains}
use Rattle.std.proofs.lemmas.Option.{slice_get_within, get_or_from_slice_get}
use Rattle.shader_ir.specs.declared.function.EntryPoint.{EntryPoint}
use Rattle.shader_resolve.specs.Context.{context_of}
use Rattle.shader_resolve.specs.Statements.{statement_callee}
use Rattle.shader_resolve.specs.WellFormed.{AtEach, CalleesBelow, ExpressionInRange, FunctionInRange, IsEarlier}
use Rattle.shader_resolve.specs.WellFormed.{OperandsBelow, StatementInRange, expression_callee}
use Rattle.shader_analysis_spec.specs.Program.{Function, Module, Expression, Label, Step, expression_operands, statements}
use Rattle.shader_analysis_spec.specs.Infos.{NamesEarlier, by_call, by_result}
use Rattle.shader_analysis_spec.specs.Earlier.{PointsBackwards, WellFormedModulesPointBackwards}

-- an item at a position is an item of the list
pub is_item : {X : Type 0} (xs : List X) (i : ℕ) (x : X) → slice_get xs i ≡ Some x → Contains xs x
is_item xs i x is = (i, slice_get_within xs i x is, get_or_from_slice_get xs i x x is)

pub backwards : (expressions : List Expression) → AtEach OperandsBelow expressions → PointsBackwards expressions
backwards expressions below e x o is holds =
    All-contains (λ (operand : ℕ × Label). operand.0 < e) (expression_operands x) o (below e x is) holds

-- a callee exists, and therefore it is earlier
names_earlier : (m : Module) (i : ℕ) (f : Function) → FunctionInRange m f → CalleesBelow m i f → NamesEarlier i f
names_earlier m i f within below c (by_call {arguments = arguments} {result = result} holds) =
    let there = All-contains (StatementInRange m f) (statements f.body) _ within.statements holds in
    All-contains (λ (step : Step). IfSome (statement_callee step) (IsEarlier m i)) (statements f.body) _ below.calls holds there.callee
names_earlier m i f within below c (by_result position is_there) =
    let item = is_item f.expressions position _ is_there in
    let there = All-contains (ExpressionInRange m (context_of m f.local_variables f.arguments) f.expressions) f.expressions _
    within.expressions item in
    All-contains (λ (expression : Expression). IfSome (expression_callee expression) (IsEarlier m i)) f.expressions _ below.results
    item there.names

pub point_backwards : WellFormedModulesPointBackwards
point_backwards m well =
    let within = well.handles.functions in
    let callees = well.callees.functions in
    let operands = well.operands.functions in
    let at : (P : Function → Type 0) → All (λ (entry : EntryPoint). P entry.function) m.entry_points → (i : ℕ) (entry : EntryPoint) →
    slice_get m.entry_points i ≡ Some entry → P entry.function =
    λ P all i entry is. All-contains (λ (entry : EntryPoint). P entry.function) m.entry_points entry all
    (is_item m.entry_points i entry is) in
    record {
      functions = λ i f is. names_earlier m i f (within.functions i f is) (callees.functions i f is);
      entry_points = λ i entry is. names_earlier m (length m.functions) entry.function
          (at (FunctionInRange m) within.entry_points i entry is)
          (at (CalleesBelow m (length m.functions)) callees.entry_points i entry is);
      expressions = λ i f is. backwards f.expressions (operands.functions i f is);
      entry_expressions = λ i entry is. backwards entry.function.expressions
          (at (λ function. AtEach OperandsBelow function.expressions) operands.entry_points i entry is);
      global_expressions = backwards m.global_expressions well.operands.global_expressions;
      filters = well.filters;
    }
