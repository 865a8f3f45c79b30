-- The facts about a function's expressions, from the first on, as the analysis computes them.
use Rattle.std.specs.Prelude.{ℕ, List, [], ◌∷◌, ◌++◌, Option, Some, None, slice_get, if◌then◌else◌, unwrap_or, bit_and}
use Rattle.std.specs.Option.{option_and_then, option_map, option_or}
use Rattle.shader_analysis_spec.specs.Origins.{is_source}
use Rattle.shader_ir.specs.Operands.{expression_operands}
use Rattle.shader_ir.specs.declared.expression.Expression.{Expression}
use Rattle.shader_ir.specs.declared.expression.Expression.TheVariants as form
use Rattle.shader_ir.specs.declared.expression.SampleLevel.{SampleLevel}
use Rattle.shader_ir.specs.declared.expression.SampleLevel.TheVariants as level
use Rattle.shader_ir.specs.declared.function.Function.{Function}
use Rattle.shader_ir.specs.declared.«module».Module.{Module}
use Rattle.shader_ir.specs.declared.proc.operands.Label.{Label}
use Rattle.shader_info.specs.declared.info.FunctionInfo.{FunctionInfo}
use Rattle.shader_info.specs.declared.flags.UniformityRequirements.{UniformityRequirements}

-- what the passes find of an expression: a source that makes it non-uniform, what it needs of the flow, and the global that it points into
pub record Fact : Type 0 where
  pub origin : Option ℕ
  pub requirements : UniformityRequirements
  pub root : Option ℕ

-- a fact about an earlier expression
abbrev pub origin_at : List Fact → ℕ → Option ℕ
origin_at facts expression = option_and_then (λ fact. fact.origin) (slice_get facts expression)

abbrev pub root_at : List Fact → ℕ → Option ℕ
root_at facts expression = option_and_then (λ fact. fact.root) (slice_get facts expression)

abbrev pub needs_at : List Fact → ℕ → ℕ
needs_at facts expression = unwrap_or (option_map (λ fact. fact.requirements.0) (slice_get facts expression)) 0

-- a fact recorded of a function
abbrev pub result_origin_at : List FunctionInfo → ℕ → Option ℕ
result_origin_at infos function = option_and_then (λ info. info.uniformity.non_uniform_result) (slice_get infos function)

abbrev pub result_needs : List FunctionInfo → ℕ → ℕ
result_needs infos function = unwrap_or (option_map (λ info. bit_and info.uniformity.requirements.0 15) (slice_get infos function)) 0

-- the first origin among some operands
abbrev pub first_origin : List Fact → List (ℕ × Label) → Option ℕ
first_origin facts [] = None
first_origin facts (operand ∷ operands) = option_or (origin_at facts operand.0) (first_origin facts operands)

-- the function whose result the expression is
abbrev pub callee_of : Expression → Option ℕ
callee_of (form.CallResult function) = Some function
callee_of _ = None

abbrev pub callee_origin : List FunctionInfo → Option ℕ → Option ℕ
callee_origin infos (Some function) = result_origin_at infos function
callee_origin infos None = None

-- a source that makes the expression non-uniform
abbrev pub own_origin : Module → List FunctionInfo → Function → List Fact → ℕ → Expression → Option ℕ
own_origin checked infos function facts handle expression =
    if is_source checked function expression then Some handle
    else option_or (callee_origin infos (callee_of expression)) (first_origin facts (expression_operands expression))

abbrev pub own_root : List Fact → Expression → Option ℕ
own_root facts (form.GlobalVariable variable) = Some variable
own_root facts (form.Access base index) = root_at facts base
own_root facts (form.AccessIndex base index) = root_at facts base
own_root facts _ = None

-- the needs of an expression
abbrev pub level_needs : SampleLevel → ℕ
level_needs level.Auto = 4
level_needs (level.Bias expression) = 4
level_needs _ = 0

abbrev pub form_needs : Expression → ℕ
form_needs (form.ImageSample image sampler flatten clamp_to_edge coordinate array_index offset level depth_ref) = level_needs level
form_needs (form.Derivative axis ctrl expr) = 2
form_needs (form.CooperativeLoad columns rows role tile) = 8
form_needs (form.CooperativeMultiplyAdd a b c) = 8
form_needs _ = 0

abbrev pub called_needs : List FunctionInfo → Option ℕ → ℕ → ℕ
called_needs infos (Some function) own = result_needs infos function
called_needs infos None own = own

abbrev pub own_needs : List FunctionInfo → Expression → ℕ
own_needs infos expression = called_needs infos (callee_of expression) (form_needs expression)

module _ (checked : Module) (infos : List FunctionInfo) (function : Function) where
  abbrev pub entry : List Fact → ℕ → Expression → Fact
  entry facts handle expression = record {
    origin = own_origin checked infos function facts handle expression;
    requirements = record { 0 = own_needs infos expression };
    root = own_root facts expression;
  }

  -- the facts of the given expressions, appended to those of the expressions before
  abbrev pub facts_after : List Fact → List (ℕ × Expression) → List Fact
  facts_after facts [] = facts
  facts_after facts (item ∷ items) = facts_after (facts ++ entry facts item.0 item.1 ∷ []) items
