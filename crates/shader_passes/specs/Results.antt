-- The results of the passes over one function.
use Rattle.std.specs.Prelude.{ℕ, List, [], ◌++◌, Bool, Option, None, map, fold, replicate, length}
use Rattle.std.specs.List.{enumerate_from, flat_map}
use Rattle.std.specs.Map.{keys_of}
use Rattle.shader_analysis_spec.specs.Infos.{Resource}
use Rattle.shader_analysis_spec.specs.Program.{Function, Module, occurrences, statements}
use Rattle.shader_info.specs.declared.info.FunctionInfo.{FunctionInfo}
use Rattle.shader_passes.specs.Facts.{Fact}
use Rattle.shader_passes.specs.Ends.{block_ends, is_killing}
use Rattle.shader_passes.specs.Facts.{origin_at, facts_after}
use Rattle.shader_passes.specs.CalleeUses.{with_needs_of, result_origin_after, named_by}
use Rattle.shader_passes.specs.RecordedPairs.{callee_pairs, sampled_resources}
use Rattle.shader_passes.specs.CountsAndUses.{CountsAndUses, ref_counts_after}

module _ (m : Module) (infos : List FunctionInfo) (f : Function) where
  -- the facts of its expressions
  abbrev pub computed_facts : List Fact
  computed_facts = facts_after m infos f [] (enumerate_from 0 f.expressions)

  abbrev pub computed_origins : List (Option ℕ)
  computed_origins = map (λ fact. fact.origin) computed_facts

  abbrev pub computed_expression_needs : List ℕ
  computed_expression_needs = map (λ fact. fact.requirements.0) computed_facts

  -- the origin of its result; then its needs, and whether it kills
  abbrev pub computed_result : Option ℕ
  computed_result = fold (result_origin_after infos computed_facts) None (statements f.body)

  abbrev pub computed_needs : ℕ
  computed_needs = fold (with_needs_of infos computed_facts) 0 (statements f.body)

  abbrev pub computed_kill : Bool
  computed_kill = (block_ends (origin_at computed_facts) (is_killing infos) None f.body).kills

  -- the reference counts and the uses by its own operands
  abbrev pub own_counts : CountsAndUses
  own_counts = fold (ref_counts_after computed_facts) (replicate (length f.expressions) 0, replicate (length m.global_variables) 0, None)
      (occurrences f)

  abbrev pub own_uses : List ℕ
  own_uses = own_counts.1

  -- the uses after the globals that are only named are added to some uses
  abbrev pub computed_uses : List ℕ → List ℕ
  computed_uses uses = fold (named_by computed_facts) uses (keys_of f.named_expressions)

-- the pairs of its callees and of its own expressions
abbrev pub computed_pairs : List FunctionInfo → Function → List (Resource × Resource)
computed_pairs infos f = flat_map (callee_pairs infos f) (statements f.body) ++ (flat_map (sampled_resources f) f.expressions ++ [])
