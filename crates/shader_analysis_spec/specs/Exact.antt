-- Infos that record exactly what the interprocedural definitions say.
use Rattle.std.specs.Prelude.{◌≡◌, ℕ, List, [], Option, Some, slice_get, length, ◌↔◌, ◌<◌, IsTrue, slice_index}
use Rattle.std.specs.Int.{IsBitSet}
use Rattle.std.specs.List.{Contains}
use Rattle.shader_ir.specs.declared.function.EntryPoint.{EntryPoint}
use Rattle.shader_ir.specs.declared.proc.type_resolution.TypeResolution.{TypeResolution}
use Rattle.shader_resolve.specs.Context.{context_of}
use Rattle.shader_analysis_spec.specs.Program.{Function, Module}
use Rattle.shader_analysis_spec.specs.Counts.{count_of}
use Rattle.shader_analysis_spec.specs.Derivable.{AreTypes, function_context}
use Rattle.shader_analysis_spec.specs.Infos.{Info, HasTables, Use, RecordsUse, Resource, IsWitness, Pairwise}
use Rattle.shader_analysis_spec.specs.Kills.{Kills}
use Rattle.shader_analysis_spec.specs.Needs.{Need, bit_of_need, Needs, ExpressionNeeds}
use Rattle.shader_analysis_spec.specs.Origins.{Origin, ResultOrigin}
use Rattle.shader_analysis_spec.specs.Pairs.{IsPair}
use Rattle.shader_analysis_spec.specs.Uses.{Uses}

pub record IsExact (m : Module) (f : Function) (info : Info) : Type 0 where
  pub tables : HasTables m f info
  pub types : AreTypes (function_context m f) f.expressions info.types
  pub counts : (e : ℕ) → e < length f.expressions → slice_get info.counts e ≡ Some (count_of f e)
  pub uses : (g : ℕ) (u : Use) → RecordsUse info g u ↔ Uses m f g u
  pub pairs : (image sampler : Resource) → Contains info.pairs (image, sampler) ↔ IsPair m f image sampler
  pub origins : (e : ℕ) (o : Option ℕ) → slice_get info.non_uniform e ≡ Some o →
      IsWitness (λ h. (r : Function) × Origin m f e r h) o
  pub result : IsWitness (λ h. (r : Function) × ResultOrigin m f r h) info.non_uniform_result
  pub kills : IsTrue info.may_kill ↔ Kills m f
  pub expression_needs : (n : Need) (e : ℕ) → e < length f.expressions →
      IsBitSet (slice_index info.expression_needs e) (bit_of_need n) ↔ ExpressionNeeds m n f e
  pub needs : (n : Need) → IsBitSet info.needs (bit_of_need n) ↔ Needs m n f

-- the record of a whole module: the types of its global expressions, and exact infos of its functions and entry points, in order
pub record IsExactModule (m : Module) (global_types : List TypeResolution) (functions entry_points : List Info) : Type 0 where
  pub types : AreTypes (context_of m [] []) m.global_expressions global_types
  pub each_function : length functions ≡ length m.functions
  pub exact_functions : Pairwise (IsExact m) m functions
  pub each_entry_point : length entry_points ≡ length m.entry_points
  pub exact_entry_points : (i : ℕ) (entry : EntryPoint) (info : Info) → slice_get m.entry_points i ≡ Some entry →
      slice_get entry_points i ≡ Some info →
      IsExact m entry.function info
