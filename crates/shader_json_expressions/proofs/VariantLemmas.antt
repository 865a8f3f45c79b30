-- What a variant of a known name stands for has that name, and the payload stands for its parts.
use Rattle.std.proofs.Common.{◌≡◌, ◌∙◌, sym, refl, ℕ, List, false, Some, codes}
use Rattle.std.specs.Str.{bytes_eq}
use Rattle.json.specs.Json.{Json}
use Rattle.shader_ir.specs.declared.expression.ImageQuery.{ImageQuery}
use Rattle.shader_ir.specs.declared.expression.ImageQuery.TheVariants as queries
use Rattle.shader_ir.specs.declared.expression.SampleLevel.{SampleLevel}
use Rattle.shader_ir.specs.declared.expression.SampleLevel.TheVariants as levels
use Rattle.shader_ir.specs.declared.literal.Literal.{Literal}
use Rattle.shader_ir.specs.declared.literal.Literal.TheVariants as l
use Rattle.shader_json_reader.proofs.ShapeLemmas.{apart}
use Rattle.shader_json_expressions.specs.Literals.{IsLiteralOf}
use Rattle.shader_json_expressions.specs.Operators.{IsLevelOf, IsQueryOf}
use Rattle.shader_json_expressions.proofs.DeterminedExpressions.{label_literal, labelled_literal}
use Rattle.shader_json_expressions.proofs.DeterminedOperators.{label_level, label_query, labelled_level, labelled_query}

module _ {X : Type 0} (name : List ℕ) (j : Json) where
  other_level : (wanted : List ℕ) → name ≡ wanted → (x : SampleLevel) → bytes_eq wanted (label_level x) ≡ false → IsLevelOf name (Some j) x
      → X
  other_level wanted is x differ u = apart wanted (label_level x) differ (sym is ∙ labelled_level name (Some j) x u)

  pub gradient : ((x y : _) → IsLevelOf name (Some j) (levels.Gradient x y) → X) → name ≡ codes "Gradient" → (x : SampleLevel)
      → IsLevelOf name (Some j) x → X
  gradient f is (levels.Gradient x y) u = f x y u
  gradient f is x u = other_level (codes "Gradient") is x refl u

  other_query : (wanted : List ℕ) → name ≡ wanted → (x : ImageQuery) → bytes_eq wanted (label_query x) ≡ false → IsQueryOf name (Some j) x
      → X
  other_query wanted is x differ u = apart wanted (label_query x) differ (sym is ∙ labelled_query name (Some j) x u)

  pub query_size : ((level : _) → IsQueryOf name (Some j) (queries.Size level) → X) → name ≡ codes "Size" → (x : ImageQuery)
      → IsQueryOf name (Some j) x → X
  query_size f is (queries.Size level) u = f level u
  query_size f is x u = other_query (codes "Size") is x refl u

  other_literal : (wanted : List ℕ) → name ≡ wanted → (x : Literal) → bytes_eq wanted (label_literal x) ≡ false
      → IsLiteralOf name (Some j) x → X
  other_literal wanted is x differ u = apart wanted (label_literal x) differ (sym is ∙ labelled_literal name (Some j) x u)

  pub f64 : ((bits : _) → IsLiteralOf name (Some j) (l.F64 bits) → X) → name ≡ codes "F64" → (x : Literal) → IsLiteralOf name (Some j) x → X
  f64 f is (l.F64 bits) u = f bits u
  f64 f is x u = other_literal (codes "F64") is x refl u

  pub f32 : ((bits : _) → IsLiteralOf name (Some j) (l.F32 bits) → X) → name ≡ codes "F32" → (x : Literal) → IsLiteralOf name (Some j) x → X
  f32 f is (l.F32 bits) u = f bits u
  f32 f is x u = other_literal (codes "F32") is x refl u

  pub abstract_float : ((bits : _) → IsLiteralOf name (Some j) (l.AbstractFloat bits) → X) → name ≡ codes "AbstractFloat" → (x : Literal)
      → IsLiteralOf name (Some j) x → X
  abstract_float f is (l.AbstractFloat bits) u = f bits u
  abstract_float f is x u = other_literal (codes "AbstractFloat") is x refl u
