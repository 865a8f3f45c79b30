-- Rules: the arguments and the result of a built-in function.
use Rattle.std.specs.Prelude.{ℕ, Bool, true, false, List, map, replicate, Option, Some, None}
use Rattle.std.specs.List.{flat_map}
use Rattle.shader_ir.specs.declared.scalar.Scalar.{Scalar}
use Rattle.shader_ir.specs.declared.scalar.ScalarKind.TheVariants as kinds
use Rattle.shader_ir.specs.declared.scalar.VectorSize.{VectorSize}
use Rattle.shader_ir.specs.declared.scalar.VectorSize.TheVariants.{Bi, Quad}
use Rattle.shader_ir.specs.declared.types.TypeInner.TheVariants as types
use Rattle.shader_ir.specs.declared.«module».PredeclaredType.TheVariants.{FrexpResult, ModfResult}
use Rattle.shader_ir.specs.declared.proc.type_resolution.TypeResolution.TheVariants as resolutions
use Rattle.shader_ir.specs.Scalars.{scalar}
use Rattle.shader_overloads.specs.declared.constructor_set.ConstructorSize.{ConstructorSize}
use Rattle.shader_overloads.specs.declared.constructor_set.ConstructorSize.TheVariants as sizes
use Rattle.shader_overloads.specs.declared.rule.Conclusion.{Conclusion}
use Rattle.shader_overloads.specs.declared.rule.Conclusion.TheVariants.{Value, Predeclared}
use Rattle.shader_overloads.specs.declared.regular.ConclusionRule.{ConclusionRule}
use Rattle.shader_overloads.specs.declared.regular.ConclusionRule.TheVariants as conclusions
use Rattle.shader_overloads.specs.declared.rule.Rule.{Rule}
use Rattle.shader_overloads.specs.Constructors.{to_inner}

-- whether a constructor builds scalars or vectors
abbrev pub is_scalar_or_vector : ConstructorSize → Bool
is_scalar_or_vector sizes.Scalar = true
is_scalar_or_vector (sizes.Vector size) = true
is_scalar_or_vector (sizes.Matrix columns rows) = false

-- the size of a vector, or none for a scalar
abbrev pub vector_size : ConstructorSize → Option VectorSize
vector_size (sizes.Vector size) = Some size
vector_size _ = None

-- whether a regular set may have this conclusion for an argument of this constructor
abbrev pub can_conclude : ConclusionRule → ConstructorSize → Bool
can_conclude conclusions.Frexp size = is_scalar_or_vector size
can_conclude conclusions.Modf size = is_scalar_or_vector size
can_conclude _ size = true

-- the conclusion for an argument of this constructor and scalar
abbrev pub conclusion_of : ConclusionRule → ConstructorSize → Scalar → Conclusion
conclusion_of conclusions.ArgumentType size s = Value (to_inner size s)
conclusion_of conclusions.Scalar size s = Value (types.Scalar s)
conclusion_of conclusions.Frexp size s = Predeclared (FrexpResult (vector_size size) s)
conclusion_of conclusions.Modf size s = Predeclared (ModfResult (vector_size size) s)
conclusion_of conclusions.U32 size s = Value (types.Scalar (scalar kinds.Uint 4))
conclusion_of conclusions.I32 size s = Value (types.Scalar (scalar kinds.Sint 4))
conclusion_of conclusions.Vec2F size s = Value (types.Vector Bi (scalar kinds.Float 4))
conclusion_of conclusions.Vec4F size s = Value (types.Vector Quad (scalar kinds.Float 4))
conclusion_of conclusions.Vec4I size s = Value (types.Vector Quad (scalar kinds.Sint 4))
conclusion_of conclusions.Vec4U size s = Value (types.Vector Quad (scalar kinds.Uint 4))

-- the rule of one constructor and scalar: all its arguments have the type that these build
abbrev pub rule_for : ℕ → ConclusionRule → ConstructorSize → Scalar → Rule
rule_for arity conclude size s =
    record { arguments = replicate arity (resolutions.Value (to_inner size s)); conclusion = conclusion_of conclude size s }

-- the rules of a regular set, by constructor and then by scalar
unfoldable pub regular_rules : ℕ → ConclusionRule → List ConstructorSize → List Scalar → List Rule
regular_rules arity conclude sizes scalars = flat_map (λ size. map (rule_for arity conclude size) scalars) sizes
