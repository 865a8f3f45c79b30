-- The depth of a body, and what the tests of a module's bodies decide.
use Rattle.std.proofs.Common.{◌≡◌, ℕ, ◌≤◌, Bool, ◌&&◌, nat_le, arith}
use Rattle.std.specs.Bool.{Decides}
use Rattle.std.specs.List.{list_all}
use Rattle.std.proofs.lemmas.Bool.Decides.{Decides-and, Decides-at, nat_tests}
use Rattle.shader_ir.specs.Body.{Body, End, Then}
use Rattle.shader_ir.specs.declared.function.EntryPoint.{EntryPoint}
use Rattle.shader_ir.specs.declared.function.Function.{Function}
use Rattle.shader_ir.specs.declared.module.Module.{Module}
use Rattle.shader_resolve.specs.ModuleTests.{every}
use Rattle.shader_resolve.specs.Nesting.{NestsWithin, depth}
use Rattle.shader_resolve.proofs.TestLemmas.{all-decides, every-decides, like}

-- a body is the first of its levels
pub depth_positive : (body : Body) → 1 ≤ depth body
depth_positive End = omega arith
depth_positive (Then step rest) = omega (arith, depth_positive rest)

within-decides : (deep levels : ℕ) → Decides (nat_le deep levels) (deep ≤ levels)
within-decides deep levels = (λ e. grind (arith, nat_tests), λ h. grind (arith, nat_tests))

module _ (levels : ℕ) (nested : Module) where
  abbrev pub functions_within : Bool
  functions_within = every (λ position function. nat_le (depth function.body) levels) nested.functions

  abbrev pub entry_points_within : Bool
  entry_points_within = list_all (λ entry. nat_le (depth entry.function.body) levels) nested.entry_points

  -- any answer that conjoins both tests decides the same
  pub nesting-decides : (answer : Bool) → answer ≡ (functions_within && entry_points_within) → Decides answer (NestsWithin levels nested)
  nesting-decides answer joins =
      Decides-at _ _ joins (like _
      (Decides-and _ _
      (every-decides (λ (function : Function). nat_le (depth function.body) levels) (λ (function : Function). depth function.body ≤ levels)
      (λ function. within-decides (depth function.body) levels) nested.functions)
      (all-decides (λ (entry : EntryPoint). nat_le (depth entry.function.body) levels)
      (λ (entry : EntryPoint). depth entry.function.body ≤ levels) (λ entry. within-decides (depth entry.function.body) levels)
      nested.entry_points))
      (λ both. record { functions = both.0; entry_points = both.1 })
      (λ nests. (nests.functions, nests.entry_points)))
