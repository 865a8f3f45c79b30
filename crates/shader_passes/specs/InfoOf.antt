-- The info of a function as the definitions see it.
use Rattle.std.specs.Prelude.{ℕ, ◌<◌, List, map}
use Rattle.std.specs.List.{Contains}
use Rattle.shader_analysis_spec.specs.Infos.{Info}
use Rattle.shader_analysis_spec.specs.Program.{Function, Expression, Label, expression_operands, IsExpressionAt}
use Rattle.shader_info.specs.declared.info.FunctionInfo.{FunctionInfo}
use Rattle.shader_passes.specs.RecordedPairs.{info_pairs}

abbrev pub info_of : FunctionInfo → Info
info_of info = record {
  types = map (λ e. e.ty) info.expressions;
  counts = map (λ e. e.ref_count) info.expressions;
  non_uniform = map (λ e. e.uniformity.non_uniform_result) info.expressions;
  non_uniform_result = info.uniformity.non_uniform_result;
  expression_needs = map (λ e. e.uniformity.requirements.0) info.expressions;
  needs = info.uniformity.requirements.0;
  may_kill = info.may_kill;
  global_uses = map (λ uses. uses.0) info.global_uses;
  pairs = info_pairs info;
}

abbrev pub infos_of : List FunctionInfo → List Info
infos_of infos = map info_of infos

-- each operand of an expression of the function is an earlier expression
abbrev pub PointsBackwards : Function → Type 0
PointsBackwards f = (e : ℕ) (x : Expression) (o : ℕ × Label) → IsExpressionAt f e x → Contains (expression_operands x) o → o.0 < e
