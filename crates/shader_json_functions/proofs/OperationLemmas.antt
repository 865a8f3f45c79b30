-- What the payload of a variant stands for once its name is known.
use Rattle.std.proofs.Common.{◌≡◌, ◌∙◌, refl, ℕ, List, Option, Some, codes, option_map}
use Rattle.json.specs.Json.{Json}
use Rattle.shader_ir.specs.declared.statement.AtomicFunction.{AtomicFunction}
use Rattle.shader_ir.specs.declared.statement.AtomicFunction.TheVariants as atomic
use Rattle.shader_ir.specs.declared.statement.Direction.{Direction}
use Rattle.shader_ir.specs.declared.statement.GatherMode.{GatherMode}
use Rattle.shader_ir.specs.declared.statement.GatherMode.TheVariants as modes
use Rattle.shader_ir.specs.declared.statement.RayPipelineFunction.{RayPipelineFunction}
use Rattle.shader_ir.specs.declared.statement.RayPipelineFunction.TheVariants as pipeline
use Rattle.shader_ir.specs.declared.statement.RayQueryFunction.{RayQueryFunction}
use Rattle.shader_ir.specs.declared.statement.RayQueryFunction.TheVariants as queries
use Rattle.shader_json_reader.specs.Numbers.{IsHandle}
use Rattle.shader_json_reader.specs.Shapes.{HasField, IsObject, IsVariant, MayHaveField, variant_of}
use Rattle.shader_json_reader.proofs.AnswerLemmas.{of_variant}
use Rattle.shader_json_reader.proofs.ShapeLemmas.{apart}
use Rattle.shader_json_functions.specs.Operations.{IsAtomicOf, IsDirection, IsModeOf, IsPipelineFunctionOf, IsQueryFunctionOf}
use Rattle.shader_json_functions.proofs.DeterminedOperations.{label_atomic, label_mode, label_query_function}

pub of_exchange : {X : Type 0} (j : Json)
    → ((compare : Option ℕ) → IsObject j (λ ms. MayHaveField IsHandle (codes "compare") ms compare) → X)
    → (x : AtomicFunction) → IsAtomicOf (codes "Exchange") (Some j) x → X
of_exchange j f (atomic.Exchange compare) u = f compare u.1
of_exchange j f x u = apart (codes "Exchange") (label_atomic x) refl u.0

pub of_swap : {X : Type 0} (j : Json) → ((direction : Direction) → IsDirection j direction → X)
    → (x : GatherMode) → IsModeOf (codes "QuadSwap") (Some j) x → X
of_swap j f (modes.QuadSwap direction) u = f direction u.1
of_swap j f x u = apart (codes "QuadSwap") (label_mode x) refl u.0

pub of_initialize : {X : Type 0} (j : Json)
    → ((p : ℕ × ℕ) → IsObject j (λ ms. HasField IsHandle (codes "acceleration_structure") ms p.0
    × HasField IsHandle (codes "descriptor") ms p.1) → X)
    → (x : RayQueryFunction) → IsQueryFunctionOf (codes "Initialize") (Some j) x → X
of_initialize j f (queries.Initialize acceleration_structure descriptor) u = f (acceleration_structure, descriptor) u.1
of_initialize j f x u = apart (codes "Initialize") (label_query_function x) refl u.0

pub of_proceed : {X : Type 0} (j : Json)
    → ((result : ℕ) → IsObject j (λ ms. HasField IsHandle (codes "result") ms result) → X)
    → (x : RayQueryFunction) → IsQueryFunctionOf (codes "Proceed") (Some j) x → X
of_proceed j f (queries.Proceed result) u = f result u.1
of_proceed j f x u = apart (codes "Proceed") (label_query_function x) refl u.0

pub of_generate : {X : Type 0} (j : Json)
    → ((hit_t : ℕ) → IsObject j (λ ms. HasField IsHandle (codes "hit_t") ms hit_t) → X)
    → (x : RayQueryFunction) → IsQueryFunctionOf (codes "GenerateIntersection") (Some j) x → X
of_generate j f (queries.GenerateIntersection hit_t) u = f hit_t u.1
of_generate j f x u = apart (codes "GenerateIntersection") (label_query_function x) refl u.0

pub of_trace : {X : Type 0} (j : Json)
    → ((p : ℕ × ℕ × ℕ) → IsObject j (λ ms. HasField IsHandle (codes "acceleration_structure") ms p.0
    × HasField IsHandle (codes "descriptor") ms p.1 × HasField IsHandle (codes "payload") ms p.2) → X)
    → (x : RayPipelineFunction) → IsPipelineFunctionOf (codes "TraceRay") (Some j) x → X
of_trace j f (pipeline.TraceRay acceleration_structure descriptor ray) u = f (acceleration_structure, descriptor, ray) u.1
