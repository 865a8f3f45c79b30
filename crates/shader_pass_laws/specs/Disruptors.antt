-- The disruptor with which the recursion over the blocks comes to each path point.
use Rattle.std.specs.Prelude.{ℕ, Bool, Option, None}
use Rattle.shader_analysis_spec.specs.Flow.{At, start, rest, inside, Child, inner, accept, reject, body, continuing, case_of, CasesIn}
use Rattle.shader_analysis_spec.specs.Flow.{from_first, after}
use Rattle.shader_analysis_spec.specs.Program.{Body, Cases, Step}
use Rattle.shader_info.specs.declared.error.UniformityDisruptor.{UniformityDisruptor}
use Rattle.shader_passes.specs.Ends.{block_ends, case_disruptor, disruptor_after, on_branch, step_ends}

module _ (origin : ℕ → Option ℕ) (is_killing : ℕ → Bool) where
  -- the disruptor in a case of a switch whose branches have a disruptor
  abbrev pub disruptor_in_case : {all cs : Cases} → Option UniformityDisruptor → CasesIn all cs → Option UniformityDisruptor
  disruptor_in_case branch from_first = branch
  disruptor_in_case branch (after {x = x} {fall = fall} k) =
      case_disruptor branch (disruptor_in_case branch k) fall (block_ends origin is_killing (disruptor_in_case branch k) x)

  -- the disruptor in a block of a statement
  abbrev pub disruptor_in_child : {s : Step} {x : Body} → Option UniformityDisruptor → Child s x → Option UniformityDisruptor
  disruptor_in_child o inner = o
  disruptor_in_child o (accept {c = c}) = on_branch origin o c
  disruptor_in_child o (reject {c = c}) = on_branch origin o c
  disruptor_in_child o body = o
  disruptor_in_child o (continuing {x = x}) = disruptor_after o (block_ends origin is_killing o x)
  disruptor_in_child o (case_of {e = e} k) = disruptor_in_case (on_branch origin o e) k

  -- the disruptor with which the recursion comes to a path point
  abbrev pub disruptor_at : {root b : Body} → At root b → Option UniformityDisruptor
  disruptor_at start = None
  disruptor_at (rest {s = s} p) = disruptor_after (disruptor_at p) (step_ends origin is_killing (disruptor_at p) s)
  disruptor_at (inside p child) = disruptor_in_child (disruptor_at p) child
