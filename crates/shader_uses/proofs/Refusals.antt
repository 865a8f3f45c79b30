-- The overloads that accept one argument more.
use Rattle.std.proofs.Common.{◌+◌, ◌<◌, ◌≡◌, ◌∙◌, ℕ, Bool, true, false, cond, ◌&&◌, List, [], ◌∷◌, ◌++◌, ap, refl, sym, arith}
use Rattle.std.proofs.Common.{get_or, length, take}
use Rattle.std.proofs.lemmas.List.{length-take-le, take_more}
use Rattle.std.proofs.lemmas.List.Folds.{list_all-append}
use Rattle.std.specs.List.{filter, list_all}
use Rattle.shader_typing.specs.Remaining.{passes, remaining, supplying}
use Rattle.shader_typing.specs.Rule.{Rule}
use Rattle.shader_typing.specs.SetCall.TheVariants.{Arg}
use Rattle.shader_typing.specs.TypeInner.{TypeInner}
use Rattle.shader_typing.specs.«Type».{«Type»}

filter_two : {X : Type 0} (p q r : X → Bool) → ((x : X) → r x ≡ (q x && p x)) → (xs : List X) → filter p (filter q xs) ≡ filter r xs
filter_two p q r both [] = refl
filter_two p q r both (x ∷ xs) =
    elim (q x) as (λ b. filter p (cond b (x ∷ filter q xs) (filter q xs)) ≡ cond (b && p x) (x ∷ filter r xs) (filter r xs)) [
      | true ↦ elim (p x) as (λ b. cond b (x ∷ filter p (filter q xs)) (filter p (filter q xs))
          ≡ cond b (x ∷ filter r xs) (filter r xs)) [
            | true ↦ ap (λ ys. x ∷ ys) (filter_two p q r both xs)
            | false ↦ filter_two p q r both xs
          ]
      | false ↦ filter_two p q r both xs
    ]
    ∙ ap (λ b. cond b (x ∷ filter r xs) (filter r xs)) (sym (both x))

supplying_more : (k : ℕ) (tys : List TypeInner) (ty : TypeInner) →
    supplying k (tys ++ ty ∷ []) ≡ supplying k tys ++ Arg (k + length tys) ty ∷ []
supplying_more k [] ty = ap (λ n. Arg n ty ∷ []) (omega arith)
supplying_more k (t ∷ tys) ty =
    ap (λ calls. Arg k t ∷ calls) (supplying_more (k + 1) tys ty ∙ ap (λ n. supplying (k + 1) tys ++ Arg n ty ∷ []) (omega arith))

and_true : (b : Bool) → (b && true) ≡ b
and_true true = refl
and_true false = refl

all_pass : {X : Type 0} (xs : List X) → filter (λ x. true) xs ≡ xs
all_pass [] = refl
all_pass (x ∷ xs) = ap (λ ys. x ∷ ys) (all_pass xs)

-- no argument leaves all of them
pub unnarrowed : (accepting : List «Type» → ℕ → TypeInner → Rule → Bool) (types : List «Type») (arguments : List TypeInner)
    (all : List Rule) → all ≡ remaining accepting types (supplying 0 (take 0 arguments)) all
unnarrowed accepting types arguments all = sym (all_pass all)

-- those that accept the first i + 1 arguments are those of the overloads for the first i that accept the next
pub narrowed : (accepting : List «Type» → ℕ → TypeInner → Rule → Bool) (types : List «Type») (arguments : List TypeInner) (i : ℕ)
    (ty : TypeInner) (all before after : List Rule) → i < length arguments → get_or arguments i ty ≡ ty →
    before ≡ remaining accepting types (supplying 0 (take i arguments)) all → after ≡ filter (accepting types i ty) before →
    after ≡ remaining accepting types (supplying 0 (take (i + 1) arguments)) all
narrowed accepting types arguments i ty all before after within at first step =
    let calls = supplying 0 (take i arguments) in
    let more : supplying 0 (take (i + 1) arguments) ≡ calls ++ Arg i ty ∷ [] =
    ap (supplying 0) (take_more arguments i ty within ∙ ap (λ t. take i arguments ++ t ∷ []) at)
    ∙ supplying_more 0 (take i arguments) ty
    ∙ ap (λ n. calls ++ Arg n ty ∷ []) (ap (λ n. 0 + n) (length-take-le i arguments (omega arith)) ∙ omega arith) in
    step
    ∙ ap (filter (accepting types i ty)) first
    ∙ filter_two (accepting types i ty) (λ rule. list_all (passes accepting types rule) calls)
    (λ rule. list_all (passes accepting types rule) (calls ++ Arg i ty ∷ []))
    (λ rule. list_all-append (passes accepting types rule) calls (Arg i ty ∷ [])
    ∙ ap (λ b. list_all (passes accepting types rule) calls && b) (and_true (accepting types i ty rule))) all
    ∙ ap (λ cs. remaining accepting types cs all) (sym more)
