-- The step equations: the info of a function from the function and the infos of the functions that it names.
use Rattle.std.specs.Prelude.{◌≡◌, ℕ, ◌<◌, List, Option, Some, slice_get, slice_index, length, ◌↔◌, IsTrue}
use Rattle.std.specs.List.{Contains}
use Rattle.std.specs.Int.{IsBitSet}
use Rattle.shader_ir.specs.declared.expression.Expression.TheVariants as form
use Rattle.shader_analysis_spec.specs.Program.{Function, Module, Step, Leaf, Call, Kill, Body, Then, statements, Expression, IsExpressionAt}
use Rattle.shader_analysis_spec.specs.Counts.{count_of}
use Rattle.shader_analysis_spec.specs.Derivable.{AreTypes, function_context}
use Rattle.shader_analysis_spec.specs.Flow.{At, Disrupted}
use Rattle.shader_analysis_spec.specs.Infos.{Info, HasTables, Use, Queries, RecordsUse, Resource, IsWitness}
use Rattle.shader_analysis_spec.specs.Needs.{Need, bit_of_need, Emitted, expression_requires, statement_requires}
use Rattle.shader_analysis_spec.specs.Origins.{DependsOn, HasResultValue, IsSource}
use Rattle.shader_analysis_spec.specs.Pairs.{resource, samples, in_caller}
use Rattle.shader_analysis_spec.specs.Uses.{UsesDirectly, Names}

-- the info of a callee of f: of a function that a Call statement of f names
pub record CalleeInfo (infos : List Info) (f : Function) (arguments : List ℕ) (info : Info) : Type 0 where
  pub callee : ℕ
  pub result : Option ℕ
  pub holds : Contains (statements f.body) (Leaf (Call callee arguments result))
  pub stored : slice_get infos callee ≡ Some info

-- f's own uses joined with those of its callees
pub data CalleeUses (infos : List Info) (f : Function) (g : ℕ) (u : Use) : Type 0 where
  own : UsesDirectly f g u → CalleeUses infos f g u
  callee : {arguments : List ℕ} {info : Info} → CalleeInfo infos f arguments info → RecordsUse info g u → CalleeUses infos f g u

-- the joined uses, and Queries of each named global that has none of them
pub data StepUse (infos : List Info) (f : Function) (g : ℕ) : Use → Type 0 where
  joined : {u : Use} → CalleeUses infos f g u → StepUse infos f g u
  patched : Names f g → ((u : Use) → CalleeUses infos f g u → ⊥) → StepUse infos f g Queries

-- f's own pairs, and those of its callees with the arguments replaced
pub data StepPair (infos : List Info) (f : Function) (image sampler : Resource) : Type 0 where
  own : (e : ℕ) {i s : ℕ} → samples f e ≡ Some (i, s) → resource f i ≡ Some image → resource f s ≡ Some sampler →
      StepPair infos f image sampler
  callee : {arguments : List ℕ} {info : Info} {p q : Resource} → CalleeInfo infos f arguments info → Contains info.pairs (p, q) →
      in_caller f arguments p ≡ Some image → in_caller f arguments q ≡ Some sampler → StepPair infos f image sampler

module _ (m : Module) (infos : List Info) where
  -- a source that e depends on, or the one recorded of the result of a function on whose CallResult e depends
  pub data StepOrigin (f : Function) (e h : ℕ) : Type 0 where
    own : DependsOn f e h → IsSource m f h → StepOrigin f e h
    callee : {k c : ℕ} {info : Info} → DependsOn f e k → IsExpressionAt f k (form.CallResult c) → slice_get infos c ≡ Some info →
        info.non_uniform_result ≡ Some h → StepOrigin f e h

  -- a source of a result of f, or the one recorded of the result of a callee
  pub data StepResult (f : Function) (h : ℕ) : Type 0 where
    own : {e : ℕ} → HasResultValue f e → StepOrigin f e h → StepResult f h
    callee : {arguments : List ℕ} {info : Info} → CalleeInfo infos f arguments info → info.non_uniform_result ≡ Some h → StepResult f h

-- the info records that an expression varies; the infos record that the function at position c kills
abbrev pub RecordsVaried : Info → ℕ → Type 0
RecordsVaried info e = (h : ℕ) × (slice_get info.non_uniform e ≡ Some (Some h))

abbrev pub RecordsKills : List Info → ℕ → Type 0
RecordsKills infos c = (info : Info) × (slice_get infos c ≡ Some info) × IsTrue info.may_kill

-- a Kill of f that is disrupted by the recorded infos, or a call of a function that kills
pub data StepKill (infos : List Info) (f : Function) (info : Info) : Type 0 where
  own : {b : Body} (p : At f.body (Then (Leaf Kill) b)) → Disrupted (RecordsVaried info) (RecordsKills infos) f.body _ p →
      StepKill infos f info
  callee : {arguments : List ℕ} {i : Info} → CalleeInfo infos f arguments i → IsTrue i.may_kill → StepKill infos f info

-- a need of an expression, by its own variant or by its callee's info
pub data StepExpressionNeed (infos : List Info) (f : Function) (n : Need) (e : ℕ) : Type 0 where
  own : {x : Expression} → IsExpressionAt f e x → IsTrue (expression_requires x n) → StepExpressionNeed infos f n e
  callee : {c : ℕ} {info : Info} → IsExpressionAt f e (form.CallResult c) → slice_get infos c ≡ Some info →
      IsBitSet info.needs (bit_of_need n) →
      StepExpressionNeed infos f n e

-- a need of a function, by its statements, its emitted expressions or its callees' infos
pub data StepNeed (infos : List Info) (f : Function) (n : Need) : Type 0 where
  statement : {s : Step} → Contains (statements f.body) s → IsTrue (statement_requires s n) → StepNeed infos f n
  expression : (e : ℕ) → Emitted f e → StepExpressionNeed infos f n e → StepNeed infos f n
  callee : {arguments : List ℕ} {info : Info} → CalleeInfo infos f arguments info → IsBitSet info.needs (bit_of_need n) → StepNeed infos f n

-- the info meets the step equations
pub record MeetsSteps (m : Module) (infos : List Info) (f : Function) (info : Info) : Type 0 where
  pub tables : HasTables m f info
  pub types : AreTypes (function_context m f) f.expressions info.types
  pub counts : (e : ℕ) → e < length f.expressions → slice_get info.counts e ≡ Some (count_of f e)
  pub uses : (g : ℕ) (u : Use) → RecordsUse info g u ↔ StepUse infos f g u
  pub pairs : (image sampler : Resource) → Contains info.pairs (image, sampler) ↔ StepPair infos f image sampler
  pub origins : (e : ℕ) (o : Option ℕ) → slice_get info.non_uniform e ≡ Some o → IsWitness (StepOrigin m infos f e) o
  pub result : IsWitness (StepResult m infos f) info.non_uniform_result
  pub kills : IsTrue info.may_kill ↔ StepKill infos f info
  pub expression_needs : (n : Need) (e : ℕ) → e < length f.expressions →
      IsBitSet (slice_index info.expression_needs e) (bit_of_need n) ↔ StepExpressionNeed infos f n e
  pub needs : (n : Need) → IsBitSet info.needs (bit_of_need n) ↔ StepNeed infos f n
