-- The rule of max that takes a u32 and a literal.
use Rattle.std.proofs.Common.{◌≡◌, ◌∙◌, ℕ, Bool, List, [], ◌∷◌, Some, sym, ap, refl, slice_get}
use Rattle.std.specs.List.{filter}
use Rattle.shader_typing.specs.Scalars.{named_scalars, scalar}
use Rattle.shader_typing.specs.MathFunction.TheVariants.{Max}
use Rattle.shader_typing.specs.TypeResolution.TheVariants as resolution
use Rattle.shader_typing.specs.ScalarKind.TheVariants as kinds
use Rattle.shader_typing.specs.«Type».{«Type»}
use Rattle.shader_typing.specs.TypeInner.{TypeInner}
use Rattle.shader_typing.specs.TypeInner.TheVariants.{Scalar}
use Rattle.shader_typing.specs.OverloadsBuiltins.{rules_of}
use Rattle.shader_typing.specs.Remaining.{accepts}
use Rattle.shader_typing.specs.Rules.{regular_rules}
use Rattle.shader_typing.specs.Conclusion.TheVariants.{Value}
use Rattle.shader_typing.specs.Rule.{Rule}

abbrev Acceptance : Type 0
Acceptance = List «Type» → ℕ → TypeInner → Rule → Bool

abbrev u32 : TypeInner
u32 = Scalar (scalar kinds.Uint 4)

abbrev literal : TypeInner
literal = Scalar (scalar kinds.AbstractInt 8)

abbrev pub max_of_u32 : Rule
max_of_u32 = record { arguments = resolution.Value u32 ∷ resolution.Value u32 ∷ []; conclusion = Value u32 }

conclude : (types : List «Type») → filter (accepts types 1 literal) (filter (accepts types 0 u32) (rules_of Max)) ≡ max_of_u32 ∷ []
unfolding regular_rules named_scalars
conclude types = refl

pub max_left : (types : List «Type») (first second : Acceptance) (all one two : List Rule) →
    ◌≡◌ {A = Acceptance} first accepts → ◌≡◌ {A = Acceptance} second first →
    all ≡ rules_of Max → one ≡ filter (first types 0 u32) all → two ≡ filter (second types 1 literal) one → two ≡ max_of_u32 ∷ []
max_left types first second all one two f s a o t =
    t
    ∙ ap (λ (acc : Acceptance). filter (acc types 1 literal) one) (s ∙ f)
    ∙ ap (filter (accepts types 1 literal))
    (o ∙ ap (λ (acc : Acceptance). filter (acc types 0 u32) all) f ∙ ap (filter (accepts types 0 u32)) a)
    ∙ conclude types

pub concluded : (rules : List Rule) (rule : Rule) → rules ≡ max_of_u32 ∷ [] → slice_get rules 0 ≡ Some rule → rule.conclusion ≡ Value u32
concluded rules rule left at =
    let first : Some max_of_u32 ≡ Some rule = sym (ap (λ rs. slice_get rs 0) left) ∙ at in
    let same : max_of_u32 ≡ rule = cc in
    sym (ap (λ (r : Rule). r.conclusion) same)
