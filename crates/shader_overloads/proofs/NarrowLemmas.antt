-- The remaining rules, call by call.
use Rattle.std.proofs.lemmas.List.{drop_more}
use Rattle.std.proofs.Common.{drop, length, get_or, ◌+◌, ◌<◌, ◌≡◌, ℕ, Bool, true, false}
use Rattle.std.proofs.Common.{cond, ◌&&◌, List, [], ◌∷◌, refl, sym, ◌∙◌, ap, subst}
use Rattle.std.specs.List.{filter}
use Rattle.shader_ir.specs.declared.types.«Type».{«Type»}
use Rattle.shader_ir.specs.declared.types.TypeInner.{TypeInner}
use Rattle.shader_overloads.specs.declared.rule.Rule.{Rule}
use Rattle.shader_overloads.specs.declared.overload_set.SetCall.{SetCall}
use Rattle.shader_overloads.specs.declared.overload_set.SetCall.TheVariants.{Arg}
use Rattle.std.proofs.lemmas.List.Elements.{All-filter}
use Rattle.shader_overloads.specs.Remaining.{remaining, passes, supplying, RuleFits, RulesFit}
use Rattle.shader_overloads.proofs.ListLemmas.{filter_all}

pub filter-filter : {X : Type 0} (p q : X → Bool) (xs : List X) → filter p (filter q xs) ≡ filter (λ x. q x && p x) xs
filter-filter p q [] = refl
filter-filter p q (x ∷ xs) = elim (q x) as (λ b. filter p (cond b (x ∷ filter q xs) (filter q xs))
    ≡ cond (b && p x) (x ∷ filter (λ y. q y && p y) xs) (filter (λ y. q y && p y) xs)) [
      | true ↦ elim (p x) as (λ b. cond b (x ∷ filter p (filter q xs)) (filter p (filter q xs))
          ≡ cond b (x ∷ filter (λ y. q y && p y) xs) (filter (λ y. q y && p y) xs)) [
            | true ↦ ap (λ ys. x ∷ ys) (filter-filter p q xs)
            | false ↦ filter-filter p q xs
          ]
      | false ↦ filter-filter p q xs
    ]

module _ (accepting : List «Type» → ℕ → TypeInner → Rule → Bool) (types : List «Type») where
  remaining-cons : (call : SetCall) (calls : List SetCall) (rules : List Rule) →
      remaining accepting types (call ∷ calls) rules ≡ remaining accepting types calls
      (filter (λ rule. passes accepting types rule call) rules)
  remaining-cons call calls rules = sym (filter-filter _ _ rules)

  pub remaining-nil : (rules : List Rule) → remaining accepting types [] rules ≡ rules
  remaining-nil rules = filter_all rules

  -- one call on a set: the later calls on the set after it leave the same rules as all these calls on the set before it
  pub narrowed : (calls : List SetCall) (k : ℕ) (d call : SetCall) (before after all : List Rule) → k < length calls →
      get_or calls k d ≡ call → after ≡ filter (λ rule. passes accepting types rule call) before →
      remaining accepting types (drop k calls) before ≡ all → remaining accepting types (drop (k + 1) calls) after ≡ all
  narrowed calls k d call before after all within at step rest =
      ap (remaining accepting types (drop (k + 1) calls)) step
      ∙ sym (remaining-cons call (drop (k + 1) calls) before)
      ∙ ap (λ c. remaining accepting types (c ∷ drop (k + 1) calls) before) (sym at)
      ∙ sym (ap (λ cs. remaining accepting types cs before) (drop_more calls k d within))
      ∙ rest

  -- one argument supplied to a set: the later ones leave of the set after it what these leave of the set before it
  pub supplied : (arguments : List TypeInner) (k : ℕ) (d ty : TypeInner) (before after all : List Rule) → k < length arguments →
      get_or arguments k d ≡ ty → after ≡ filter (accepting types k ty) before →
      remaining accepting types (supplying k (drop k arguments)) before ≡ all →
      remaining accepting types (supplying (k + 1) (drop (k + 1) arguments)) after ≡ all
  supplied arguments k d ty before after all within at step rest =
      ap (remaining accepting types (supplying (k + 1) (drop (k + 1) arguments))) step
      ∙ sym (remaining-cons (Arg k ty) (supplying (k + 1) (drop (k + 1) arguments)) before)
      ∙ ap (λ t. remaining accepting types (supplying k (t ∷ drop (k + 1) arguments)) before) (sym at)
      ∙ sym (ap (λ ts. remaining accepting types (supplying k ts) before) (drop_more arguments k d within))
      ∙ rest

-- fewer rules still fit
pub fewer_fit : (types : List «Type») (p : Rule → Bool) (before after : List Rule) → after ≡ filter p before → RulesFit types before →
    RulesFit types after
fewer_fit types p before after step fit = subst (RulesFit types) (sym step)
    (record { each = All-filter p (RuleFits types) before fit.each })
