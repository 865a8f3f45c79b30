-- What all types outside the arena have that typing rules build, the type of an expression has.
use Rattle.std.proofs.Common.{◌≡◌, subst, ℕ, List}
use Rattle.shader_analysis_spec.specs.Derivable.{Answers, Derives, by_one, by_two, given, plain}
use Rattle.shader_analysis_spec.specs.Program.{Expression}
use Rattle.shader_ir.specs.declared.proc.type_resolution.TypeResolution.{TypeResolution}
use Rattle.shader_ir.specs.declared.types.TypeInner.{TypeInner}
use Rattle.shader_resolve.proofs.FitsLemmas.{Has, IsBuilt, OutcomeHas, RuleKeeps}
use Rattle.shader_resolve.proofs.GivenLemmas.{Any, outside_kept}
use Rattle.shader_resolve.specs.Context.{Context}
use Rattle.shader_resolve.specs.Outcome.{Outcome}
use Rattle.shader_resolve.specs.TypingRules.{TypingRule, typing_rule}

module _ (Outside : TypeInner → Type 0) (built : (inner : TypeInner) → IsBuilt inner → Outside inner) (context : Context)
    (expressions : List Expression) where
  kept : (x : Expression) (rule : TypingRule) → typing_rule context x ≡ rule → RuleKeeps Any Outside rule
  kept x rule is = subst (RuleKeeps Any Outside) is (outside_kept context x Outside built)

  mutual
    answer-has : (e : ℕ) (outcome : Outcome) → Answers context expressions e outcome → OutcomeHas Any Outside outcome
    answer-has e _ (plain {x = x} is rule) = kept x _ rule
    answer-has e _ (by_one {operand = o} {x = x} {reported = t} is rule derives) = kept x _ rule t (derived-has o t derives)
    answer-has e _ (by_two {left = l} {right = r} {x = x} {first = a} {second = b} is rule first second) =
        kept x _ rule a b (derived-has l a first) (derived-has r b second)

    pub derived-has : (e : ℕ) (resolution : TypeResolution) → Derives context expressions e resolution → Has Any Outside resolution
    derived-has e resolution (given {outcome = o} answers is) = subst (OutcomeHas Any Outside) is (answer-has e o answers)
