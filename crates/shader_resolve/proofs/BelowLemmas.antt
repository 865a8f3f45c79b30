-- Tests of operands.
use Rattle.std.proofs.Common.{◌≡◌, sym, ◌∙◌, ℕ, min, ◌&&◌, List, [], ◌∷◌, arith, fold, nat_lt}
use Rattle.std.proofs.Math.Bool.{and-true, and_assoc, true-and}
use Rattle.std.proofs.lemmas.Bool.Decides.{Decides-and, same_from_decides}
use Rattle.shader_ir.specs.declared.proc.operands.Label.{Label}
use Rattle.shader_resolve.specs.ModuleTests.{operands_below}
use Rattle.shader_resolve.specs.declared.well_formed.operands.BoundTest.{BoundTest}
use Rattle.shader_resolve.proofs.TestLemmas.{like, operands-decide}

-- operands below the lesser of two bounds
pub below_both : (a b : ℕ) (operands : List (ℕ × Label)) →
    operands_below (min a b) operands ≡ (operands_below a operands && operands_below b operands)
below_both a b operands =
    same_from_decides (operands_below (min a b) operands) (operands_below a operands && operands_below b operands)
    (operands-decide (min a b) operands)
    (like _ (Decides-and _ _ (operands-decide a operands) (operands-decide b operands))
    (λ both k d lt. let left = both.0 k d lt in let right = both.1 k d lt in omega arith)
    (λ all. ((λ k d lt. let both = all k d lt in omega arith), (λ k d lt. let both = all k d lt in omega arith))))

pub ruleset both_bounds = (below_both)

-- a test of all operands, after those before
abbrev next : BoundTest → ℕ × Label → BoundTest
next test operand = record test { passes = test.passes && nat_lt operand.0 test.bound }

pub passes_all : (test : BoundTest) (operands : List (ℕ × Label)) →
    (fold next test operands).passes ≡ (test.passes && operands_below test.bound operands)
passes_all test [] = sym (and-true test.passes)
passes_all test (o ∷ os) = passes_all (next test o) os ∙ and_assoc test.passes (nat_lt o.0 test.bound) (operands_below test.bound os)

pub ruleset tests_all = (passes_all, true-and)
