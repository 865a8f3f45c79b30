-- The reasons for the values of a function, as they are computed.
use Rattle.std.specs.Prelude.{ℕ, List, [], ◌∷◌, ◌++◌, Option, Some, None, slice_get, if◌then◌else◌}
use Rattle.std.specs.Option.{option_and_then, option_or}
use Rattle.shader_analysis_spec.specs.Origins.{is_source}
use Rattle.shader_analysis_spec.specs.Program.{Function, Module, Expression, Label, Step, Leaf, Return, CooperativeStore, Call}
use Rattle.shader_analysis_spec.specs.Program.{expression_operands, statement_operands}
use Rattle.shader_passes.specs.Facts.{callee_of}
use Rattle.shader_uniformity_trace.specs.declared.trace.Table.{Table}
use Rattle.shader_uniformity_trace.specs.declared.link.FunctionLocation.{FunctionLocation}
use Rattle.shader_uniformity_trace.specs.declared.link.FunctionLocation.TheVariants as location
use Rattle.shader_uniformity_trace.specs.declared.link.Link.{Link}
use Rattle.shader_uniformity_trace.specs.declared.link.Link.TheVariants as link
use Rattle.shader_uniformity_trace.specs.declared.reasons.Trace.{Trace}
use Rattle.shader_uniformity_trace.specs.declared.reasons.Reason.{Reason}
use Rattle.shader_uniformity_trace.specs.declared.reasons.Reason.TheVariants.{Source, Through}

-- the reason for an expression, and for the result of an earlier function
abbrev pub reason_at : List (Option Reason) → ℕ → Option Reason
reason_at reasons expression = option_and_then (λ reason. reason) (slice_get reasons expression)

abbrev pub result_reason_at : List Trace → ℕ → Option Reason
result_reason_at traces function = option_and_then (λ trace. trace.result) (slice_get traces function)

-- the reason for a value that depends on the link, if there is a reason for the link
abbrev pub led_to : Link → Option Reason → Option Reason
led_to next (Some reason) = Some (Through next)
led_to next None = None

abbrev pub operand_reason : FunctionLocation → List (Option Reason) → ℕ → Option Reason
operand_reason at reasons operand = led_to (link.Expression at operand) (reason_at reasons operand)

-- the reason by the first operand that has one
abbrev pub first_reason : FunctionLocation → List (Option Reason) → List (ℕ × Label) → Option Reason
first_reason at reasons [] = None
first_reason at reasons (operand ∷ operands) =
    option_or (operand_reason at reasons operand.0) (first_reason at reasons operands)

abbrev pub by_callee : List Trace → Option ℕ → Option Reason
by_callee traces (Some function) = led_to (link.Result (location.Function function)) (result_reason_at traces function)
by_callee traces None = None

-- the reason for an expression, given those for the expressions before it
abbrev pub own_reason : Module → List Trace → FunctionLocation → Function → List (Option Reason) → Expression → Option Reason
own_reason m traces at f reasons expression =
    if is_source m f expression then Some Source
    else option_or (by_callee traces (callee_of expression)) (first_reason at reasons (expression_operands expression))

-- the reasons for the given expressions, appended to those for the expressions before
module _ (m : Module) (traces : List Trace) (at : FunctionLocation) (f : Function) where
  abbrev pub reasons_after : List (Option Reason) → List (ℕ × Expression) → List (Option Reason)
  reasons_after reasons [] = reasons
  reasons_after reasons (item ∷ items) = reasons_after (reasons ++ own_reason m traces at f reasons item.1 ∷ []) items

-- the reason by what a statement contributes to the function's result
abbrev pub statement_reason : FunctionLocation → List Trace → List (Option Reason) → Step → Option Reason
statement_reason at traces reasons (Leaf (Return value)) = first_reason at reasons (statement_operands (Leaf (Return value)))
statement_reason at traces reasons (Leaf (CooperativeStore target tile)) =
    first_reason at reasons (statement_operands (Leaf (CooperativeStore target tile)))
statement_reason at traces reasons (Leaf (Call function arguments result)) = by_callee traces (Some function)
statement_reason at traces reasons _ = None

abbrev pub first_given : FunctionLocation → List Trace → List (Option Reason) → List Step → Option Reason
first_given at traces reasons [] = None
first_given at traces reasons (step ∷ steps) = option_or (statement_reason at traces reasons step) (first_given at traces reasons steps)

-- the reasons in the function at a location
abbrev pub trace_at : Table → FunctionLocation → Option Trace
trace_at table (location.Function i) = slice_get table.functions.items i
trace_at table (location.EntryPoint i) = slice_get table.entry_points.items i

-- the reason for a link, and the link that comes after one that is no source
abbrev pub reason_of : Table → Link → Option Reason
reason_of table (link.Expression at e) =
    option_and_then (λ (trace : Trace). reason_at trace.expressions.items e) (trace_at table at)
reason_of table (link.Result at) = option_and_then (λ (trace : Trace). trace.result) (trace_at table at)

abbrev pub next_link : Reason → Option Link
next_link Source = None
next_link (Through next) = Some next

abbrev pub next_of : Table → Link → Option Link
next_of table first = option_and_then next_link (reason_of table first)
