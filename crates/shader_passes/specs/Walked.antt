-- What the walk over a function counts, and what it finds by the definitions of what is computed of the function.
use Rattle.std.specs.Prelude.{◌≡◌, ◌<◌, ◌≤◌, ◌^◌, ℕ, IfSome, List, None, Option, Some, length, slice_get, slice_index}
use Rattle.std.specs.List.{list_any}
use Rattle.shader_analysis_spec.specs.Counts.{count_of}
use Rattle.shader_analysis_spec.specs.Program.{Function, Module, statements}
use Rattle.shader_info.specs.declared.info.ExpressionInfo.{ExpressionInfo}
use Rattle.shader_info.specs.declared.info.FunctionInfo.{FunctionInfo}
use Rattle.shader_passes.specs.Calling.{is_call}
use Rattle.shader_passes.specs.Counting.{counts_in}
use Rattle.shader_passes.specs.Ends.{block_fault, is_killing}
use Rattle.shader_passes.specs.Facts.{origin_at}
use Rattle.shader_passes.specs.Records.{facts_in, types_in}
use Rattle.shader_passes.specs.Results.{computed_facts, computed_kill, computed_needs, computed_result}
use Rattle.shader_passes.specs.declared.walk.Found.{Found}

-- the records hold the counts of a function's expressions and keep all else, unless the count of an expression overflows
pub record IsCounted (f : Function) (roots : List (Option ℕ)) (old new : List ExpressionInfo) (full : Option ℕ) : Type 0 where
  pub facts : facts_in new roots ≡ facts_in old roots
  pub types : types_in new ≡ types_in old
  pub counts : full ≡ None → (e : ℕ) → e < length f.expressions → slice_get (counts_in new) e ≡ Some (count_of f e)
  pub small : (e : ℕ) → slice_index (counts_in new) e < 2 ^ 64
  pub overflows : IfSome full (λ e. 2 ^ 64 ≤ count_of f e)

-- the violation, whether it kills, its result's origin, its needs and whether it calls
pub record IsFound (m : Module) (infos : List FunctionInfo) (f : Function) (found : Found) : Type 0 where
  pub first : found.first ≡ block_fault (origin_at (computed_facts m infos f)) (is_killing infos) (computed_facts m infos f) None f.body
  pub may_kill : found.may_kill ≡ computed_kill m infos f
  pub origin : found.uniformity.non_uniform_result ≡ computed_result m infos f
  pub needs : found.uniformity.requirements.0 ≡ computed_needs m infos f
  pub calls : found.calls ≡ list_any is_call (statements f.body)
