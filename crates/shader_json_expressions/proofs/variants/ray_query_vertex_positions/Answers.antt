use Rattle.std.proofs.Common.{codes, refl}
use Rattle.shader_ir.specs.declared.expression.Expression.TheVariants as e
use Rattle.shader_json_reader.proofs.AnswerLemmas.{passed_on}
use Rattle.shader_json_reader.proofs.ShapeLemmas.{apart}
use Rattle.shader_json_expressions.proofs.DeterminedExpressions.{label_expression}
use Rattle.shader_json_expressions.proofs.variants.ray_query_vertex_positions.Goals as goal

pub returns-in_err-query-clause-accepts : goal.returns-in_err-query-clause-accepts
returns-in_err-query-clause-accepts c (e.RayQueryVertexPositions query committed) u =
    passed_on _ _ c.from_residual.ensures.1 (c.in_err-query.ensures.accepts (query, committed) u.1)
returns-in_err-query-clause-accepts c x u = apart (codes "RayQueryVertexPositions") (label_expression x) refl u.0
