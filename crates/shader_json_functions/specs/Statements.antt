-- Statements, blocks and cases in the JSON of modules.
use Rattle.std.specs.Prelude.{ℕ, List, Bool, Option, codes, ⊤}
use Rattle.json.specs.Json.{Json, Items, no_items, item}
use Rattle.shader_ir.specs.Body.{Body, End, Then, Step, Leaf, Nested, Cases, NoCase, Case, Simple}
use Rattle.shader_ir.specs.Body as s
use Rattle.shader_ir.specs.declared.statement.SwitchValue.{SwitchValue}
use Rattle.shader_json_reader.specs.Numbers.{IsHandle, IsTruth}
use Rattle.shader_json_reader.specs.Shapes.{IsArray, IsObject, IsOnly, IsVariant, IsUnit, IsNewtype, IsStruct, IsList, HasField}
use Rattle.shader_json_reader.specs.Shapes.{MayHaveField, values_of}
use Rattle.shader_json_declarations.specs.Scalars.{IsRange}
use Rattle.shader_json_expressions.specs.Operators.{IsTile}
use Rattle.shader_json_functions.specs.Operations.{IsAtomic, IsBarrier, IsCollective, IsMode, IsOperation, IsPipelineFunction}
use Rattle.shader_json_functions.specs.Operations.{IsQueryFunction, IsSwitchValue}

-- a statement that contains no block
abbrev pub IsSimpleOf : List ℕ → Option Json → Simple → Type 0
IsSimpleOf name payload (s.Emit start end) = IsNewtype (codes "Emit") name payload (λ j. IsRange j (start, end))
IsSimpleOf name payload s.Break = IsUnit (codes "Break") name payload
IsSimpleOf name payload s.Continue = IsUnit (codes "Continue") name payload
IsSimpleOf name payload (s.Return value) = IsStruct (codes "Return") name payload
    (λ ms. MayHaveField IsHandle (codes "value") ms value)
IsSimpleOf name payload s.Kill = IsUnit (codes "Kill") name payload
IsSimpleOf name payload (s.ControlBarrier barrier) = IsNewtype (codes "ControlBarrier") name payload (λ j. IsBarrier j barrier)
IsSimpleOf name payload (s.MemoryBarrier barrier) = IsNewtype (codes "MemoryBarrier") name payload (λ j. IsBarrier j barrier)
IsSimpleOf name payload (s.Store pointer value) = IsStruct (codes "Store") name payload
    (λ ms. HasField IsHandle (codes "pointer") ms pointer × HasField IsHandle (codes "value") ms value)
IsSimpleOf name payload (s.ImageStore image coordinate array_index value) = IsStruct (codes "ImageStore") name payload
    (λ ms. HasField IsHandle (codes "image") ms image × HasField IsHandle (codes "coordinate") ms coordinate
    × MayHaveField IsHandle (codes "array_index") ms array_index × HasField IsHandle (codes "value") ms value)
IsSimpleOf name payload (s.Atomic pointer fun value result) = IsStruct (codes "Atomic") name payload
    (λ ms. HasField IsHandle (codes "pointer") ms pointer × HasField IsAtomic (codes "fun") ms fun
    × HasField IsHandle (codes "value") ms value × HasField IsHandle (codes "result") ms result)
IsSimpleOf name payload (s.ImageAtomic image coordinate array_index fun value) = IsStruct (codes "ImageAtomic") name payload
    (λ ms. HasField IsHandle (codes "image") ms image × HasField IsHandle (codes "coordinate") ms coordinate
    × MayHaveField IsHandle (codes "array_index") ms array_index × HasField IsAtomic (codes "fun") ms fun
    × HasField IsHandle (codes "value") ms value)
IsSimpleOf name payload (s.WorkGroupUniformLoad pointer result) = IsStruct (codes "WorkGroupUniformLoad") name payload
    (λ ms. HasField IsHandle (codes "pointer") ms pointer × HasField IsHandle (codes "result") ms result)
IsSimpleOf name payload (s.Call function arguments result) = IsStruct (codes "Call") name payload
    (λ ms. HasField IsHandle (codes "function") ms function × HasField (IsList IsHandle) (codes "arguments") ms arguments
    × MayHaveField IsHandle (codes "result") ms result)
IsSimpleOf name payload (s.RayQuery query fun) = IsStruct (codes "RayQuery") name payload
    (λ ms. HasField IsHandle (codes "query") ms query × HasField IsQueryFunction (codes "fun") ms fun)
IsSimpleOf name payload (s.RayPipeline fun) = IsNewtype (codes "RayPipelineFunction") name payload (λ j. IsPipelineFunction j fun)
IsSimpleOf name payload (s.SubgroupBallot result predicate) = IsStruct (codes "SubgroupBallot") name payload
    (λ ms. HasField IsHandle (codes "result") ms result × MayHaveField IsHandle (codes "predicate") ms predicate)
IsSimpleOf name payload (s.SubgroupGather mode argument result) = IsStruct (codes "SubgroupGather") name payload
    (λ ms. HasField IsMode (codes "mode") ms mode × HasField IsHandle (codes "argument") ms argument
    × HasField IsHandle (codes "result") ms result)
IsSimpleOf name payload (s.SubgroupCollectiveOperation op collective_op argument result) =
    IsStruct (codes "SubgroupCollectiveOperation") name payload
    (λ ms. HasField IsOperation (codes "op") ms op × HasField IsCollective (codes "collective_op") ms collective_op
    × HasField IsHandle (codes "argument") ms argument × HasField IsHandle (codes "result") ms result)
IsSimpleOf name payload (s.CooperativeStore target tile) = IsStruct (codes "CooperativeStore") name payload
    (λ ms. HasField IsHandle (codes "target") ms target × HasField IsTile (codes "data") ms tile)

abbrev mutual
  -- the items stand for a list of statements
  pub AreStatements : Body → Items → Type 0
  AreStatements End no_items = ⊤
  AreStatements End (item j js) = ⊥
  AreStatements (Then step rest) no_items = ⊥
  AreStatements (Then step rest) (item j js) = IsVariant j (λ name payload. IsStepOf step name payload) × AreStatements rest js

  pub IsStepOf : Step → List ℕ → Option Json → Type 0
  IsStepOf (Leaf simple) name payload = IsSimpleOf name payload simple
  IsStepOf (Nested body) name payload = IsNewtype (codes "Block") name payload (λ j. IsArray j (λ js. AreStatements body js))
  IsStepOf (s.If condition accept reject) name payload = IsStruct (codes "If") name payload
      (λ ms. HasField IsHandle (codes "condition") ms condition
      × IsOnly (λ j. IsArray j (λ js. AreStatements accept js)) (values_of (codes "accept") ms)
      × IsOnly (λ j. IsArray j (λ js. AreStatements reject js)) (values_of (codes "reject") ms))
  IsStepOf (s.Switch selector cases) name payload = IsStruct (codes "Switch") name payload
      (λ ms. HasField IsHandle (codes "selector") ms selector
      × IsOnly (λ j. IsArray j (λ js. AreCases cases js)) (values_of (codes "cases") ms))
  IsStepOf (s.Loop body continuing break_if) name payload = IsStruct (codes "Loop") name payload
      (λ ms. IsOnly (λ j. IsArray j (λ js. AreStatements body js)) (values_of (codes "body") ms)
      × IsOnly (λ j. IsArray j (λ js. AreStatements continuing js)) (values_of (codes "continuing") ms)
      × MayHaveField IsHandle (codes "break_if") ms break_if)

  -- the items stand for the cases of a switch
  pub AreCases : Cases → Items → Type 0
  AreCases NoCase no_items = ⊤
  AreCases NoCase (item j js) = ⊥
  AreCases (Case selected body fall_through rest) no_items = ⊥
  AreCases (Case selected body fall_through rest) (item j js) =
      IsObject j (λ ms. HasField IsSwitchValue (codes "value") ms selected
      × IsOnly (λ k. IsArray k (λ ks. AreStatements body ks)) (values_of (codes "body") ms)
      × HasField IsTruth (codes "fall_through") ms fall_through) × AreCases rest js

abbrev pub IsBlock : Json → Body → Type 0
IsBlock j body = IsArray j (λ js. AreStatements body js)

abbrev pub IsStatement : Json → Step → Type 0
IsStatement j step = IsVariant j (λ name payload. IsStepOf step name payload)

-- one case of a switch
abbrev pub IsCase : Json → SwitchValue → Body → Bool → Type 0
IsCase j selected body fall_through =
    IsObject j (λ ms. HasField IsSwitchValue (codes "value") ms selected × IsOnly (λ k. IsBlock k body) (values_of (codes "body") ms)
    × HasField IsTruth (codes "fall_through") ms fall_through)
