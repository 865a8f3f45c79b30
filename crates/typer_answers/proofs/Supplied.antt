-- The remaining rules of a built-in function, argument by argument.
use Rattle.std.proofs.Common.{◌≡◌, ℕ, ◌+◌, ◌<◌, Bool, ◌&&◌, List, []}
use Rattle.std.proofs.Common.{◌∷◌, length, map, drop, get_or, refl, sym, ap, ◌∙◌}
use Rattle.std.specs.List.{filter, list_all}
use Rattle.std.proofs.lemmas.List.{drop_more}
use Rattle.shader_ir.specs.declared.operators.MathFunction.{MathFunction}
use Rattle.shader_overloads.specs.declared.rule.Rule.{Rule}
use Rattle.shader_overloads.specs.Builtins.{acceptance_of, rules_of}
use Rattle.shader_overloads.specs.Remaining.{passes}
use Rattle.shader_overloads.proofs.NarrowLemmas.{filter-filter}
use Rattle.shader_type_text.specs.declared.types.PlainType.{PlainType}
use Rattle.shader_type_text.specs.declared.types.SpelledType.{SpelledType}
use Rattle.shader_type_text.specs.declared.types.SpelledType.TheVariants.{Plain}
use Rattle.typer_answers.specs.Calls.{takes_all, takes_argument}
use Rattle.typer_answers.specs.Laws.{RulesLeftRemain, calls_from}

-- no arguments remain
pub none_left : (function : MathFunction) (position : ℕ) (rules : List Rule) → filter (takes_all function position []) rules ≡ rules
none_left function position [] = refl
none_left function position (rule ∷ rules) = ap (λ (rs : List Rule). rule ∷ rs) (none_left function position rules)

-- one more argument: the others leave of the new rules what all leave of the rules before
pub supplied : (function : MathFunction) (arguments : List SpelledType) (k : ℕ) (d argument : SpelledType) (before after all : List Rule)
    → k < length arguments → get_or arguments k d ≡ argument → after ≡ filter (takes_argument function k argument) before
    → filter (takes_all function k (drop k arguments)) before ≡ all →
    filter (takes_all function (k + 1) (drop (k + 1) arguments)) after ≡ all
supplied function arguments k d argument before after all within at step rest =
    ap (filter (takes_all function (k + 1) (drop (k + 1) arguments))) step
    ∙ filter-filter (takes_all function (k + 1) (drop (k + 1) arguments)) (takes_argument function k argument) before
    ∙ ap (λ (t : SpelledType). filter (takes_all function k (t ∷ drop (k + 1) arguments)) before) (sym at)
    ∙ sym (ap (λ (ts : List SpelledType). filter (takes_all function k ts) before) (drop_more arguments k d within))
    ∙ rest

-- ---- the same rules in one arena

filter_same : (p q : Rule → Bool) (rules : List Rule) → ((rule : Rule) → p rule ≡ q rule) → filter p rules ≡ filter q rules
filter_same p q [] same = refl
filter_same p q (rule ∷ rules) same = rw (same rule, filter_same p q rules same) refl

takes_same : (function : MathFunction) (position : ℕ) (arguments : List PlainType) (rule : Rule)
    → takes_all function position (map Plain arguments) rule
    ≡ list_all (passes (acceptance_of function) [] rule) (calls_from position arguments)
takes_same function position [] rule = refl
takes_same function position (argument ∷ arguments) rule =
    ap (λ (b : Bool). takes_argument function position (Plain argument) rule && b) (takes_same function (position + 1) arguments rule)

pub rules_left_remain : RulesLeftRemain
rules_left_remain function arguments = filter_same _ _ (rules_of function) (takes_same function 0 arguments)
