-- The nesting depth of blocks.
use Rattle.std.specs.Prelude.{ℕ, ◌+◌, ◌≤◌, max, All}
use Rattle.shader_ir.specs.Body.{Body, End, Then, Step, Leaf, Nested, If, Switch, Loop, Cases, NoCase, Case}
use Rattle.shader_ir.specs.declared.function.EntryPoint.{EntryPoint}
use Rattle.shader_ir.specs.declared.function.Function.{Function}
use Rattle.shader_ir.specs.declared.module.Module.{Module}

-- the nesting depth of a body, itself included; for a statement, zero if it contains no block
abbrev mutual
  pub depth : Body → ℕ
  depth End = 1
  depth (Then step rest) = max (step_depth step + 1) (depth rest)

  pub step_depth : Step → ℕ
  step_depth (Leaf simple) = 0
  step_depth (Nested body) = depth body
  step_depth (If condition accept reject) = max (depth accept) (depth reject)
  step_depth (Switch selector cases) = cases_depth cases
  step_depth (Loop body continuing break_if) = max (depth body) (depth continuing)

  pub cases_depth : Cases → ℕ
  cases_depth NoCase = 0
  cases_depth (Case value body fall_through rest) = max (depth body) (cases_depth rest)

-- each body of the module is at most this many levels deep
pub record NestsWithin (levels : ℕ) (nested : Module) : Type 0 where
  pub functions : All (λ (function : Function). depth function.body ≤ levels) nested.functions
  pub entry_points : All (λ (entry : EntryPoint). depth entry.function.body ≤ levels) nested.entry_points
