-- The printed forms of types and rules.
use Rattle.std.specs.Prelude.{ℕ, List, [], ◌++◌, codes, Option, Some, None}
use Rattle.std.specs.List.{join_by}
use Rattle.shader_ir.specs.declared.«module».PredeclaredType.{PredeclaredType}
use Rattle.shader_ir.specs.declared.«module».PredeclaredType.TheVariants.{FrexpResult, ModfResult}
use Rattle.shader_ir.specs.declared.proc.type_resolution.TypeResolution.{TypeResolution}
use Rattle.shader_ir.specs.declared.proc.type_resolution.TypeResolution.TheVariants as resolutions
use Rattle.shader_ir.specs.declared.scalar.Scalar as s
use Rattle.shader_ir.specs.declared.scalar.VectorSize.{VectorSize}
use Rattle.shader_ir.specs.declared.types.TypeInner.{TypeInner}
use Rattle.shader_ir.specs.declared.types.TypeInner.TheVariants as inner
use Rattle.shader_overloads.specs.declared.rule.Conclusion.{Conclusion}
use Rattle.shader_overloads.specs.declared.rule.Conclusion.TheVariants as conclusions
use Rattle.shader_overloads.specs.declared.rule.Rule.{Rule}
use Rattle.shader_type_text.specs.declared.types.PlainType.TheVariants.{Scalar, Vector, Matrix}
use Rattle.shader_type_text.specs.Types.{plain_text}

-- a plain type is printed as it is spelled; other types, which no built-in function has, print
-- nothing
abbrev pub inner_text : TypeInner → List ℕ
inner_text (inner.Scalar scalar) = plain_text (Scalar scalar)
inner_text (inner.Vector size scalar) = plain_text (Vector size scalar)
inner_text (inner.Matrix columns rows scalar) = plain_text (Matrix columns rows scalar)
inner_text _ = []

-- a scalar, or a vector of it if there is a size
abbrev pub sized_text : Option VectorSize → s.Scalar → List ℕ
sized_text None scalar = plain_text (Scalar scalar)
sized_text (Some size) scalar = plain_text (Vector size scalar)

abbrev pub predeclared_text : PredeclaredType → List ℕ
predeclared_text (FrexpResult size scalar) = codes "frexp_result<" ++ sized_text size scalar ++ codes ">"
predeclared_text (ModfResult size scalar) = codes "modf_result<" ++ sized_text size scalar ++ codes ">"

abbrev pub conclusion_text : Conclusion → List ℕ
conclusion_text (conclusions.Value inner) = inner_text inner
conclusion_text (conclusions.Predeclared predeclared) = predeclared_text predeclared

abbrev pub resolution_text : TypeResolution → List ℕ
resolution_text (resolutions.Value inner) = inner_text inner
resolution_text (resolutions.Handle handle) = []

-- `(T, T) -> C`
abbrev pub rule_text : Rule → List ℕ
rule_text rule = codes "(" ++ join_by resolution_text (codes ", ") rule.arguments ++ codes ") -> " ++ conclusion_text rule.conclusion
