-- The contexts of a well-formed module.
use Rattle.std.proofs.Common.{List, [], All, get_or}
use Rattle.std.proofs.lemmas.List.Elements.{All-nil, All-weaker}
use Rattle.shader_ir.specs.declared.expression.Expression.{Expression}
use Rattle.shader_ir.specs.declared.expression.Expression.TheVariants as form
use Rattle.shader_ir.specs.declared.function.Function.{Function}
use Rattle.shader_ir.specs.declared.function.FunctionArgument.{FunctionArgument}
use Rattle.shader_ir.specs.declared.function.LocalVariable.{LocalVariable}
use Rattle.shader_ir.specs.declared.«module».Module.{Module}
use Rattle.shader_resolve.specs.Context.{Context, context_of, IsInRange, TypesInRange}
use Rattle.shader_resolve.specs.ContextLaws.{QueriedEarlier, FunctionFits, WellFormedContextsFit}
use Rattle.shader_resolve.specs.WellFormed.{AtEach, FunctionInRange, HandlesInRange, IsModuleType, OperandsBelow}
use Rattle.shader_resolve.proofs.QueriedLemmas.{queried}
use Rattle.shader_resolve.proofs.NumberLemmas.{IsStep, Numbered, module-numbers}
use Rattle.shader_resolve.proofs.PositionLemmas.{all-positions}

-- if operands are earlier, so are the queried ones
queried-earlier : (context : Context) (expressions : List Expression) → AtEach OperandsBelow expressions →
    QueriedEarlier context expressions
queried-earlier context expressions earlier position expression is = queried context expression position (earlier position expression is)

step-in : (checked : Module) (expression : Expression) → IsInRange (context_of checked [] []) expression →
    IsStep checked.constants checked.overrides expression
step-in checked (form.Constant constant) lt = lt
step-in checked (form.Override override) lt = lt
step-in checked expression any = tt

module _ (checked : Module) (stored : HandlesInRange checked) where
  types-in_range : (locals : List LocalVariable) (arguments : List FunctionArgument) →
      All (λ (variable : LocalVariable). IsModuleType checked variable.ty) locals
      → All (λ (argument : FunctionArgument). IsModuleType checked argument.ty) arguments →
      TypesInRange (context_of checked locals arguments)
  types-in_range locals arguments local_types argument_types =
      let functions = all-positions (FunctionInRange checked) checked.functions stored.functions.functions in
      record {
        constants = λ k d lt. (stored.constants k d lt).ty;
        overrides = λ k d lt. (stored.overrides k d lt).ty;
        globals = λ k d lt. (stored.global_variables k d lt).ty;
        locals = local_types;
        results = λ k d lt. (functions k d lt).result;
        arguments = argument_types;
        ray_intersection = stored.special_types.ray_intersection;
        ray_vertex_return = stored.special_types.ray_vertex_return;
        predeclared = stored.special_types.predeclared;
      }

  function-fits : (function : Function) → FunctionInRange checked function → AtEach OperandsBelow function.expressions →
      FunctionFits checked function
  function-fits function range earlier = record {
    types = types-in_range function.local_variables function.arguments (λ k d lt. (range.locals k d lt).ty) range.arguments;
    names = λ k d lt. (range.expressions k d lt).names;
    queried = queried-earlier (context_of checked function.local_variables function.arguments) function.expressions earlier;
  }

  global-names : All (IsInRange (context_of checked [] [])) checked.global_expressions
  global-names k d lt = (stored.global_expressions k d lt).names

  numbered : Numbered checked.types checked.constants checked.overrides checked.global_expressions
  numbered = record {
    sizes = λ k d lt. (stored.types k d lt).sized;
    constants_in = λ k d lt. (stored.constants k d lt).init;
    overrides_in = λ k d lt. (stored.overrides k d lt).init;
    steps = All-weaker (IsInRange (context_of checked [] [])) (IsStep checked.constants checked.overrides) (step-in checked)
        checked.global_expressions global-names;
  }

pub contexts_of_well_formed : WellFormedContextsFit
contexts_of_well_formed checked is =
    let range = is.handles.functions in
    let earlier = is.operands.functions in
    record {
      backward = is.types;
      functions =
          all-positions (FunctionFits checked) checked.functions
          (λ position function at. function-fits checked is.handles function (range.functions position function at)
          (earlier.functions position function at));
      entry_points = λ k d lt. function-fits checked is.handles (get_or checked.entry_points k d).function (range.entry_points k d lt)
          (earlier.entry_points k d lt);
      global_expressions = record {
        types =
            types-in_range checked is.handles [] [] (All-nil (λ (variable : LocalVariable). IsModuleType checked variable.ty))
            (All-nil (λ (argument : FunctionArgument). IsModuleType checked argument.ty));
        names = global-names checked is.handles;
        queried = queried-earlier (context_of checked [] []) checked.global_expressions is.operands.global_expressions;
      };
      numbers = module-numbers checked (numbered checked is.handles);
    }
