-- The rule that a call means.
use Rattle.std.proofs.Common.{◌≡◌, ◌≢◌, ◌∙◌, ◌≤◌, ℕ, List, [], ◌∷◌, Result, Ok, Err, IfErr, IsSome, ap, drop, length, refl, slice_get, sym}
use Rattle.std.proofs.lemmas.List.{drop_all}
use Rattle.shader_ir.specs.declared.operators.MathFunction.{MathFunction}
use Rattle.shader_ir.specs.declared.types.«Type».{«Type»}
use Rattle.shader_ir.specs.declared.types.TypeInner.{TypeInner}
use Rattle.shader_overloads.specs.declared.rule.Rule.{Rule}
use Rattle.shader_overloads.specs.Builtins.{acceptance_of, rule_meant, rules_of}
use Rattle.shader_overloads.specs.Remaining.{remaining, supplying}
use Rattle.shader_overloads.proofs.NarrowLemmas.{remaining-nil}

-- once all arguments are supplied, the first rule that is left is the one that the call means
pub first_is_meant : (types : List «Type») (function : MathFunction) (arguments : List TypeInner) (i : ℕ) (left : List Rule) →
    length arguments ≤ i →
    remaining (acceptance_of function) types (supplying i (drop i arguments)) left
    ≡ remaining (acceptance_of function) types (supplying 0 arguments) (rules_of function) →
    slice_get left 0 ≡ rule_meant types function arguments
first_is_meant types function arguments i left past rest =
    let accepting = acceptance_of function in
    ap (λ rules. slice_get rules 0) (sym (remaining-nil accepting types left)
    ∙ sym (ap (λ tys. remaining accepting types (supplying i tys) left) (drop_all i arguments past))
    ∙ rest)

pub some_first : (rules : List Rule) → rules ≢ [] → IsSome (slice_get rules 0)
some_first [] some = absurd (some refl)
some_first (rule ∷ rules) some = refl

pub whatever_error : {A E X : Type 0} (result : Result A E) → X → IfErr result (λ _. X)
whatever_error (Ok x) so = tt
whatever_error (Err e) so = so
