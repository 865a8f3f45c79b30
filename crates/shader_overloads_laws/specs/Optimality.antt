-- Optimality: no remaining rule beats the preferred one.
use Rattle.std.specs.Prelude.{◌≡◌, ◌↔◌, ℕ, IsSome, IsTrue, List, Some, slice_get}
use Rattle.shader_ir.specs.declared.operators.MathFunction.{MathFunction}
use Rattle.shader_ir.specs.declared.scalar.Scalar.{Scalar}
use Rattle.shader_ir.specs.declared.types.«Type».{«Type»}
use Rattle.shader_ir.specs.Scalars.{is_convertible}
use Rattle.shader_overloads.specs.declared.overload_set.SetCall.{SetCall}
use Rattle.shader_overloads.specs.declared.rule.Rule.{Rule}
use Rattle.shader_overloads.specs.Builtins.{acceptance_of, rules_of}
use Rattle.shader_overloads.specs.Rank.{Beats, HaveEqualRanks, IsSupplied, conversion_rank}
use Rattle.shader_overloads.specs.Remaining.{remaining}

-- the rules of a built-in function that remain after calls
abbrev pub remaining_of : MathFunction → List «Type» → List SetCall → List Rule
remaining_of function types calls = remaining (acceptance_of function) types calls (rules_of function)

-- no remaining rule beats the first one
abbrev pub PreferredIsUnbeaten : Type 0
PreferredIsUnbeaten =
    (function : MathFunction) (types : List «Type») (calls : List SetCall) (first rule : Rule) (position : ℕ)
    → slice_get (remaining_of function types calls) 0 ≡ Some first → slice_get (remaining_of function types calls) position ≡ Some rule
    → Beats types calls rule first → ⊥

-- if all arguments are supplied, a rule with the rank of the first one at each is the same rule
abbrev pub EquallyRankedRulesAreEqual : Type 0
EquallyRankedRulesAreEqual =
    (function : MathFunction) (types : List «Type») (calls : List SetCall) (first rule : Rule) (position : ℕ)
    → slice_get (remaining_of function types calls) 0 ≡ Some first → slice_get (remaining_of function types calls) position ≡ Some rule
    → IsSupplied calls first → HaveEqualRanks types calls rule first
    → (rule.arguments ≡ first.arguments) × (rule.conclusion ≡ first.conclusion)

-- a conversion has a rank exactly if it is automatic
abbrev pub ConversionsHaveRanks : Type 0
ConversionsHaveRanks = (from to : Scalar) → IsTrue (is_convertible from to) ↔ IsSome (conversion_rank from to)
