-- Statements without blocks are determined by their JSON.
use Rattle.std.proofs.Common.{◌≡◌, ◌∙◌, ap, sym, refl, ℕ, List, false, Option}
use Rattle.std.proofs.Common.{codes}
use Rattle.json.specs.Json.{Json}
use Rattle.shader_json_reader.specs.Numbers.{IsHandle}
use Rattle.shader_json_reader.specs.Shapes.{IsList}
use Rattle.shader_json_reader.proofs.NumberLemmas.{handle_same}
use Rattle.shader_json_reader.proofs.ShapeLemmas.{apart, field, optional, list, newtype}
use Rattle.shader_json_reader.proofs.ShapeLemmas.{same_struct}
use Rattle.shader_ir.specs.Body.{Body, End, Then, Step, Leaf, Nested, Cases, NoCase, Case, Simple}
use Rattle.shader_ir.specs.Body as s
use Rattle.std.specs.Str.{bytes_eq}
use Rattle.shader_json_declarations.specs.Scalars.{IsRange}
use Rattle.shader_json_expressions.specs.Operators.{IsTile}
use Rattle.shader_json_functions.specs.Operations.{IsAtomic, IsBarrier, IsCollective, IsMode, IsOperation, IsPipelineFunction}
use Rattle.shader_json_functions.specs.Operations.{IsQueryFunction}
use Rattle.shader_json_functions.specs.Statements.{IsSimpleOf}
use Rattle.shader_json_declarations.proofs.DeterminedScalars.{range_same}
use Rattle.shader_json_expressions.proofs.DeterminedOperators.{tile_same}
use Rattle.shader_json_functions.proofs.DeterminedOperations.{atomic_same, barrier_same, collective_same, mode_same, operation_same}
use Rattle.shader_json_functions.proofs.DeterminedOperations.{pipeline_function_same, query_function_same}

abbrev pub label_simple : Simple → List ℕ
label_simple (s.Emit start end) = codes "Emit"
label_simple s.Break = codes "Break"
label_simple s.Continue = codes "Continue"
label_simple (s.Return value) = codes "Return"
label_simple s.Kill = codes "Kill"
label_simple (s.ControlBarrier barrier) = codes "ControlBarrier"
label_simple (s.MemoryBarrier barrier) = codes "MemoryBarrier"
label_simple (s.Store pointer value) = codes "Store"
label_simple (s.ImageStore image coordinate array_index value) = codes "ImageStore"
label_simple (s.Atomic pointer fun value result) = codes "Atomic"
label_simple (s.ImageAtomic image coordinate array_index fun value) = codes "ImageAtomic"
label_simple (s.WorkGroupUniformLoad pointer result) = codes "WorkGroupUniformLoad"
label_simple (s.Call function arguments result) = codes "Call"
label_simple (s.RayQuery query fun) = codes "RayQuery"
label_simple (s.RayPipeline fun) = codes "RayPipelineFunction"
label_simple (s.SubgroupBallot result predicate) = codes "SubgroupBallot"
label_simple (s.SubgroupGather mode argument result) = codes "SubgroupGather"
label_simple (s.SubgroupCollectiveOperation op collective_op argument result) = codes "SubgroupCollectiveOperation"
label_simple (s.CooperativeStore target tile) = codes "CooperativeStore"

pub labelled_simple : (name : List ℕ) (payload : Option Json) (x : Simple) → IsSimpleOf name payload x → name ≡ label_simple x
labelled_simple name payload (s.Emit start end) u = u.0
labelled_simple name payload x u = u.0

pub simple_of : (name : List ℕ) (payload : Option Json) (x y : Simple) → IsSimpleOf name payload x → IsSimpleOf name payload y → x ≡ y
simple_of name payload (s.Emit start end) (s.Emit start′ end′) u v =
    let e : (start, end) ≡ (start′, end′) = newtype IsRange range_same payload (start, end) (start′, end′) u.1 v.1 in λ i. s.Emit (e i).0
    (e i).1
simple_of name payload s.Break s.Break u v = refl
simple_of name payload s.Continue s.Continue u v = refl
simple_of name payload (s.Return value) (s.Return value′) u v = same_struct _ _ _ _
    (λ ms p q i. s.Return (optional IsHandle handle_same (codes "value") ms value value′ p q i)) payload u.1 v.1
simple_of name payload s.Kill s.Kill u v = refl
simple_of name payload (s.ControlBarrier barrier) (s.ControlBarrier barrier′) u v = ap s.ControlBarrier
    (newtype IsBarrier barrier_same payload barrier barrier′ u.1 v.1)
simple_of name payload (s.MemoryBarrier barrier) (s.MemoryBarrier barrier′) u v = ap s.MemoryBarrier
    (newtype IsBarrier barrier_same payload barrier barrier′ u.1 v.1)
simple_of name payload (s.Store pointer value) (s.Store pointer′ value′) u v = same_struct _ _ _ _
    (λ ms p q i. s.Store (field IsHandle handle_same (codes "pointer") ms pointer pointer′ p.0 q.0 i)
    (field IsHandle handle_same (codes "value") ms value value′ p.1 q.1 i)) payload u.1 v.1
simple_of name payload (s.ImageStore image coordinate array_index value) (s.ImageStore image′ coordinate′ array_index′ value′) u v =
    same_struct _ _ _ _
    (λ ms p q i. s.ImageStore (field IsHandle handle_same (codes "image") ms image image′ p.0 q.0 i)
    (field IsHandle handle_same (codes "coordinate") ms coordinate coordinate′ p.1 q.1 i)
    (optional IsHandle handle_same (codes "array_index") ms array_index array_index′ p.2 q.2 i)
    (field IsHandle handle_same (codes "value") ms value value′ p.3 q.3 i)) payload u.1 v.1
simple_of name payload (s.Atomic pointer fun value result) (s.Atomic pointer′ fun′ value′ result′) u v = same_struct _ _ _ _
    (λ ms p q i. s.Atomic (field IsHandle handle_same (codes "pointer") ms pointer pointer′ p.0 q.0 i)
    (field IsAtomic atomic_same (codes "fun") ms fun fun′ p.1 q.1 i)
    (field IsHandle handle_same (codes "value") ms value value′ p.2 q.2 i)
    (field IsHandle handle_same (codes "result") ms result result′ p.3 q.3 i)) payload u.1 v.1
simple_of name payload (s.ImageAtomic image coordinate array_index fun value)
    (s.ImageAtomic image′ coordinate′ array_index′ fun′ value′) u v = same_struct _ _ _ _
    (λ ms p q i. s.ImageAtomic (field IsHandle handle_same (codes "image") ms image image′ p.0 q.0 i)
    (field IsHandle handle_same (codes "coordinate") ms coordinate coordinate′ p.1 q.1 i)
    (optional IsHandle handle_same (codes "array_index") ms array_index array_index′ p.2 q.2 i)
    (field IsAtomic atomic_same (codes "fun") ms fun fun′ p.3 q.3 i)
    (field IsHandle handle_same (codes "value") ms value value′ p.4 q.4 i)) payload u.1 v.1
simple_of name payload (s.WorkGroupUniformLoad pointer result) (s.WorkGroupUniformLoad pointer′ result′) u v = same_struct _ _ _ _
    (λ ms p q i. s.WorkGroupUniformLoad (field IsHandle handle_same (codes "pointer") ms pointer pointer′ p.0 q.0 i)
    (field IsHandle handle_same (codes "result") ms result result′ p.1 q.1 i)) payload u.1 v.1
simple_of name payload (s.Call function arguments result) (s.Call function′ arguments′ result′) u v = same_struct _ _ _ _
    (λ ms p q i. s.Call (field IsHandle handle_same (codes "function") ms function function′ p.0 q.0 i)
    (field (IsList IsHandle) (list IsHandle handle_same) (codes "arguments") ms arguments arguments′ p.1 q.1 i)
    (optional IsHandle handle_same (codes "result") ms result result′ p.2 q.2 i)) payload u.1 v.1
simple_of name payload (s.RayQuery query fun) (s.RayQuery query′ fun′) u v = same_struct _ _ _ _
    (λ ms p q i. s.RayQuery (field IsHandle handle_same (codes "query") ms query query′ p.0 q.0 i)
    (field IsQueryFunction query_function_same (codes "fun") ms fun fun′ p.1 q.1 i)) payload u.1 v.1
simple_of name payload (s.RayPipeline fun) (s.RayPipeline fun′) u v = ap s.RayPipeline
    (newtype IsPipelineFunction pipeline_function_same payload fun fun′ u.1 v.1)
simple_of name payload (s.SubgroupBallot result predicate) (s.SubgroupBallot result′ predicate′) u v = same_struct _ _ _ _
    (λ ms p q i. s.SubgroupBallot (field IsHandle handle_same (codes "result") ms result result′ p.0 q.0 i)
    (optional IsHandle handle_same (codes "predicate") ms predicate predicate′ p.1 q.1 i)) payload u.1 v.1
simple_of name payload (s.SubgroupGather mode argument result) (s.SubgroupGather mode′ argument′ result′) u v = same_struct _ _ _ _
    (λ ms p q i. s.SubgroupGather (field IsMode mode_same (codes "mode") ms mode mode′ p.0 q.0 i)
    (field IsHandle handle_same (codes "argument") ms argument argument′ p.1 q.1 i)
    (field IsHandle handle_same (codes "result") ms result result′ p.2 q.2 i)) payload u.1 v.1
simple_of name payload (s.SubgroupCollectiveOperation op collective_op argument result)
    (s.SubgroupCollectiveOperation op′ collective_op′ argument′ result′) u v = same_struct _ _ _ _
    (λ ms p q i. s.SubgroupCollectiveOperation (field IsOperation operation_same (codes "op") ms op op′ p.0 q.0 i)
    (field IsCollective collective_same (codes "collective_op") ms collective_op collective_op′ p.1 q.1 i)
    (field IsHandle handle_same (codes "argument") ms argument argument′ p.2 q.2 i)
    (field IsHandle handle_same (codes "result") ms result result′ p.3 q.3 i)) payload u.1 v.1
simple_of name payload (s.CooperativeStore target tile) (s.CooperativeStore target′ tile′) u v = same_struct _ _ _ _
    (λ ms p q i. s.CooperativeStore (field IsHandle handle_same (codes "target") ms target target′ p.0 q.0 i)
    (field IsTile tile_same (codes "data") ms tile tile′ p.1 q.1 i)) payload u.1 v.1
simple_of name payload x y u v = apart (label_simple x) (label_simple y) refl
    (sym (labelled_simple name payload x u) ∙ labelled_simple name payload y v)

pub not_block : (x : Simple) → bytes_eq (label_simple x) (codes "Block") ≡ false
not_block (s.Emit start end) = refl
not_block x = refl

pub not_if : (x : Simple) → bytes_eq (label_simple x) (codes "If") ≡ false
not_if (s.Emit start end) = refl
not_if x = refl

pub not_switch : (x : Simple) → bytes_eq (label_simple x) (codes "Switch") ≡ false
not_switch (s.Emit start end) = refl
not_switch x = refl

pub not_loop : (x : Simple) → bytes_eq (label_simple x) (codes "Loop") ≡ false
not_loop (s.Emit start end) = refl
not_loop x = refl
