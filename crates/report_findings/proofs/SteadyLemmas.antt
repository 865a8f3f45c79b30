-- What a table has as steady is steady.
use Rattle.std.proofs.Common.{◌≡◌, ◌∙◌, ◌⊎◌, ◌++◌, ◌∷◌, [], ◌&&◌, ℕ, zero, suc, ◌+◌, Bool, true, false, not, List, Some, inl, inr, refl}
use Rattle.std.proofs.Common.{ap, subst, sym, arith, append_assoc, length, length-append, slice_get}
use Rattle.std.specs.List.{Contains, enumerate_from, list_all}
use Rattle.std.proofs.lemmas.Bool.{and_from, and_parts}
use Rattle.std.proofs.lemmas.List.Elements.{Contains-append_cases}
use Rattle.shader_ir.specs.declared.expression.Expression.{Expression}
use Rattle.shader_ir.specs.declared.function.Function.{Function}
use Rattle.shader_ir.specs.declared.module.Module.{Module}
use Rattle.shader_uniformity.proofs.KnownLemmas.{nowhere, one}
use Rattle.shader_uniformity.specs.Places.{place_at, places}
use Rattle.report_findings.specs.Steady.{IsSteady, changes, has_steady_operands, is_let, is_steady_by, is_steady_next}
use Rattle.report_findings.specs.Steady.{operands_of, steady_after, steady_table}
use Rattle.report_findings.specs.Steady.IsSteady.{reads_nothing}

-- what the table has as steady
abbrev AllSteady : Module → Function → List Bool → Type 0
AllSteady m function table = (e : ℕ) → is_steady_by table e ≡ true → IsSteady m function e

-- the last of a table is the new one
pushed : (table : List Bool) (new : Bool) (e : ℕ) → is_steady_by (table ++ new ∷ []) e ≡ true →
    (is_steady_by table e ≡ true) ⊎ ((e ≡ length table) × (new ≡ true))
pushed [] new zero is = inr (refl, is)
pushed [] new (suc e) is = absurd (cc)
pushed (x ∷ table) new zero is = inl is
pushed (x ∷ table) new (suc e) is = elim (pushed table new e is) [
  | inl old ↦ inl old
  | inr last ↦ inr (omega (arith, last.0), last.1)
]

-- the item behind others
seam : {X : Type 0} (done : List X) (x : X) (rest : List X) → slice_get (done ++ x ∷ rest) (length done) ≡ Some x
seam [] x rest = refl
seam (y ∷ done) x rest = seam done x rest

not_true : (b : Bool) → not b ≡ true → b ≡ false
not_true true h = absurd (cc)
not_true false h = refl

-- of two tests that all items meet, they meet the first
first_of : {X : Type 0} (p q : X → Bool) (xs : List X) → list_all (λ x. p x && q x) xs ≡ true → list_all p xs ≡ true
first_of p q [] all = refl
first_of p q (x ∷ xs) all =
    let parts = and_parts (p x && q x) (list_all (λ y. p y && q y) xs) all in
    let here = and_parts (p x) (q x) parts.0 in
    and_from (p x) (list_all p xs) here.0 (first_of p q xs parts.1)

-- and each meets the second
second_of : {X : Type 0} (p q : X → Bool) (xs : List X) → list_all (λ x. p x && q x) xs ≡ true → (y : X) → Contains xs y → q y ≡ true
second_of p q [] all y within = absurd (nowhere y within)
second_of {X} p q (x ∷ xs) all y within =
    let parts = and_parts (p x && q x) (list_all (λ z. p z && q z) xs) all in
    let here = and_parts (p x) (q x) parts.0 in
    let P : X → Type 0 = λ v. q v ≡ true in
    elim (Contains-append_cases (x ∷ []) xs y within) [
      | inl same ↦ subst P (one x y same) here.1
      | inr later ↦ second_of p q xs parts.1 y later
    ]

module _ (m : Module) (function : Function) where
  -- the next expression is steady if the table has its operands as steady
  next : (table : List Bool) (e : ℕ) (expression : Expression) → AllSteady m function table →
      slice_get function.expressions e ≡ Some expression →
      is_steady_next function (places m function.expressions) table e expression ≡ true → IsSteady m function e
  next table e expression all at is =
      let own = changes (place_at (places m function.expressions) e) expression in
      let parts = and_parts (not own) (has_steady_operands function table expression) is in
      let lets = first_of (λ o. not (is_let function o)) (is_steady_by table) (operands_of expression) parts.1 in
      reads_nothing e expression at (not_true own parts.0) lets
      (λ o within. all o (second_of (λ v. not (is_let function v)) (is_steady_by table) (operands_of expression) parts.1 o within))

  -- further expressions
  after : (left done : List Expression) (table : List Bool) → function.expressions ≡ done ++ left → length table ≡ length done →
      AllSteady m function table → AllSteady m function (steady_after m function table (enumerate_from (length table) left))
  after [] done table whole long all = all
  after (x ∷ left) done table whole long all =
      let new = is_steady_next function (places m function.expressions) table (length table) x in
      let longer = table ++ new ∷ [] in
      let at : slice_get function.expressions (length table) ≡ Some x =
      ap (λ v. slice_get v (length table)) whole ∙ ap (λ v. slice_get (done ++ x ∷ left) v) long ∙ seam done x left in
      let more : AllSteady m function longer =
      λ e is. elim (pushed table new e is) [
        | inl old ↦ all e old
        | inr last ↦
            let P : ℕ → Type 0 = λ v. IsSteady m function v in
            subst P (sym last.0) (next table (length table) x all at last.1)
      ] in
      let grown : length longer ≡ length table + 1 = length-append table (new ∷ []) in
      let rest = after left (done ++ x ∷ []) longer (whole ∙ sym (append_assoc done (x ∷ []) left))
      (omega (arith, grown, long, length-append done (x ∷ []))) more in
      let P : ℕ → Type 0 = λ v. AllSteady m function (steady_after m function longer (enumerate_from v left)) in
      subst P grown rest

  -- an expression that the table of all has as steady is steady
  pub found_steady : (table : List Bool) (e : ℕ) (is : Bool) → table ≡ steady_table m function → is ≡ is_steady_by table e →
      is ≡ true → IsSteady m function e
  found_steady table e is all found held =
      let none : AllSteady m function [] = λ k h. absurd (cc) in
      after function.expressions [] [] refl refl none e (sym (ap (λ v. is_steady_by v e) all) ∙ (sym found ∙ held))
