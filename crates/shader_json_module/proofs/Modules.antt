-- Modules are determined by their JSON.
use Rattle.std.proofs.Common.{◌≡◌, Option, Some, None}
use Rattle.std.proofs.Common.{MatchOption}
use Rattle.std.proofs.Common.{codes}
use Rattle.json.specs.Json.{Json}
use Rattle.shader_json_reader.specs.Numbers.{IsHandle, IsText}
use Rattle.shader_json_reader.specs.Shapes.{IsList}
use Rattle.shader_json_reader.specs.Shapes.{Determines}
use Rattle.shader_json_reader.proofs.NumberLemmas.{handle_same, text_same}
use Rattle.shader_json_reader.proofs.ShapeLemmas.{field, list, optional}
use Rattle.shader_json_reader.proofs.ShapeLemmas.{same_object}
use Rattle.json.specs.Json.{document}
use Rattle.shader_json_declarations.specs.Arenas.{IsArena}
use Rattle.shader_json_declarations.proofs.ArenaLemmas.{arena}
use Rattle.shader_json_module.specs.Laws.{TextDeterminesModule}
use Rattle.shader_json_declarations.specs.Declarations.{IsArgument, IsConstant, IsGlobal, IsLocal, IsOverride, IsResult, IsStage}
use Rattle.shader_json_declarations.specs.Filters.{IsFilterNode}
use Rattle.shader_json_declarations.specs.NamedExpressions.{AreNamedExpressions}
use Rattle.shader_json_declarations.specs.SpecialTypes.{AreSpecialTypes}
use Rattle.shader_json_declarations.specs.Types.{AreTypes}
use Rattle.shader_json_expressions.specs.Expressions.{IsExpression}
use Rattle.shader_json_functions.specs.Statements.{IsBlock}
use Rattle.shader_json_functions.specs.Functions.{IsEntryPoint, IsFunction}
use Rattle.shader_json_module.specs.Modules.{IsModule}
use Rattle.shader_json_reader.specs.Shapes.{Determines}
use Rattle.shader_json_declarations.proofs.DeterminedDeclarations.{argument_same, constant_same, filter_node_same, global_same, local_same}
use Rattle.shader_json_declarations.proofs.DeterminedDeclarations.{named_expressions_same, override_same, result_same}
use Rattle.shader_json_declarations.proofs.DeterminedDeclarations.{special_types_same, stage_same}
use Rattle.shader_json_expressions.proofs.DeterminedExpressions.{expression_same}
use Rattle.shader_json_functions.proofs.DeterminedStatements.{block_same}
use Rattle.shader_json_declarations.proofs.DeterminedTypes.{types_same}

pub function_same : Determines IsFunction
function_same j x y u v = same_object _ _ _ _ (λ ms p q i. record {
  name = optional IsText text_same
      (codes "name") ms x.name y.name p.2 q.2 i;
  arguments = field (IsList IsArgument) (list IsArgument argument_same)
      (codes "arguments") ms x.arguments y.arguments p.3 q.3 i;
  result =
      optional IsResult result_same (codes "result") ms x.result y.result p.4 q.4 i;
  local_variables = field
      (IsArena IsLocal) (arena IsLocal local_same) (codes "local_variables") ms x.local_variables y.local_variables p.5 q.5 i;
  expressions =
      field (IsArena IsExpression) (arena IsExpression expression_same) (codes "expressions") ms x.expressions y.expressions p.0 q.0 i;
  named_expressions = field
      AreNamedExpressions named_expressions_same (codes "named_expressions") ms x.named_expressions y.named_expressions p.7 q.7 i;
  body = field IsBlock block_same
      (codes "body") ms x.body y.body p.1 q.1 i;
  diagnostic_filter_leaf = optional IsHandle handle_same
      (codes "diagnostic_filter_leaf") ms x.diagnostic_filter_leaf y.diagnostic_filter_leaf p.6 q.6 i;
}) j u v

pub entry_point_same : Determines IsEntryPoint
entry_point_same j x y u v = same_object _ _ _ _ (λ ms p q i. record {
  name = field IsText text_same
      (codes "name") ms x.name y.name p.1 q.1 i;
  stage = field IsStage stage_same (codes "stage") ms x.stage y.stage p.2 q.2 i;
  function =
      field IsFunction function_same (codes "function") ms x.function y.function p.0 q.0 i;
}) j u v

pub module_same : Determines IsModule
module_same j x y u v = same_object _ _ _ _ (λ ms p q i. record {
  types = field AreTypes types_same (codes "types") ms x.types y.types p.0.0 q.0.0 i;
  special_types =
      field AreSpecialTypes special_types_same
      (codes "special_types") ms x.special_types y.special_types p.1.0 q.1.0 i;
  constants = field (IsArena IsConstant)
      (arena IsConstant constant_same) (codes "constants") ms x.constants y.constants p.1.1 q.1.1 i;
  overrides = field (IsArena IsOverride)
      (arena IsOverride override_same) (codes "overrides") ms x.overrides y.overrides p.1.2 q.1.2 i;
  global_variables = field
      (IsArena IsGlobal) (arena IsGlobal global_same) (codes "global_variables") ms x.global_variables y.global_variables p.1.3 q.1.3 i;
  global_expressions = field (IsArena IsExpression) (arena IsExpression expression_same)
      (codes "global_expressions") ms x.global_expressions y.global_expressions p.0.1 q.0.1 i;
  functions = field (IsArena IsFunction)
      (arena IsFunction function_same) (codes "functions") ms x.functions y.functions p.0.2 q.0.2 i;
  entry_points = field (IsList IsEntryPoint) (list IsEntryPoint entry_point_same)
      (codes "entry_points") ms x.entry_points y.entry_points p.0.3 q.0.3 i;
  diagnostic_filters = field (IsArena IsFilterNode)
      (arena IsFilterNode filter_node_same) (codes "diagnostic_filters") ms x.diagnostic_filters y.diagnostic_filters p.1.4 q.1.4 i;
}) j u v

-- of a text there is one value at most
pub text_determines : TextDeterminesModule
text_determines bytes x y u v = of (document bytes) u v
  where
    of : (found : Option Json) → MatchOption found ⊥ (λ j. IsModule j x) → MatchOption found ⊥ (λ j. IsModule j y) → x ≡ y
    of None u v = absurd u
    of (Some j) u v = module_same j x y u v
