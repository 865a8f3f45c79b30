-- The global recorded of an expression is its root.
use Rattle.std.proofs.Common.{◌≡◌, refl, sym, ap, subst, ◌∙◌, ℕ, zero, suc, ◌<◌, List, [], ◌∷◌, Bool, true}
use Rattle.std.proofs.Common.{false, Option, Some, None, slice_get, length, arith, get_or, nat_lt}
use borrow.Author.Tests.{ltb-true, ltb-false}
use Rattle.std.specs.List.{enumerate_from}
use Rattle.std.specs.Option.{option_and_then}
use Rattle.std.proofs.lemmas.Option.{slice_get-get_or, slice_get_past}
use Rattle.shader_ir.specs.declared.expression.Expression.TheVariants as form
use Rattle.shader_ir.specs.declared.proc.operands.Label.TheVariants.{Part, Read}
use Rattle.shader_ir.specs.Occurs as occurs
use Rattle.shader_analysis_spec.specs.Program.{Function, Module, Expression, Root, IsExpressionAt}
use Rattle.shader_passes.specs.Facts.{Fact}
use Rattle.shader_info.specs.declared.info.FunctionInfo.{FunctionInfo}
use Rattle.shader_passes.specs.Facts.{root_at, own_root, entry, facts_after}
use Rattle.shader_passes.specs.InfoOf.{PointsBackwards}
use Rattle.shader_analysis_spec.proofs.ListLemmas.{here}
use Rattle.shader_passes.proofs.FactLemmas.{is_there_between, facts_after_long, get_seam, get_left}

module _ (m : Module) (infos : List FunctionInfo) (f : Function) (all : List Fact)
    (is : all ≡ facts_after m infos f [] (enumerate_from 0 f.expressions))
    (below : PointsBackwards f) where
  abbrev ag : Fact → Option ℕ
  ag i = i.root

  root_long : length all ≡ length f.expressions
  root_long = ap length is ∙ facts_after_long m infos f f.expressions

  -- the base of an access is earlier
  own_is : (e : ℕ) (x : Expression) → IsExpressionAt f e x → (prior : List Fact) → ((o : ℕ) → o < e → slice_get prior o ≡ slice_get all o) →
      own_root prior x ≡ own_root all x
  own_is e (form.Access base index) s prior same =
      ap (option_and_then ag) (same base (below e (form.Access base index) _ s (here ((base, Part)) ((index, Read) ∷ []))))
  own_is e (form.AccessIndex base index) s prior same =
      ap (option_and_then ag) (same base (below e (form.AccessIndex base index) _ s (here ((base, Part)) [])))
  own_is e x s prior same = refl

  root_is : (e : ℕ) (x : Expression) → IsExpressionAt f e x → root_at all e ≡ own_root all x
  root_is e x s =
      let b = is_there_between m infos f f.expressions e x s in
      let one = entry m infos f b.prior e x in
      let split = is ∙ b.is in
      ap (option_and_then ag) (ap (λ v. slice_get v e) split ∙ get_seam b.prior one b.later e b.long)
      ∙ own_is e x s b.prior (λ o lt. sym (ap (λ v. slice_get v o) split ∙ get_left b.prior (one ∷ b.later) o (omega (arith, b.long))))

  -- by induction on a bound of the position
  to_root : (n e g : ℕ) → e < n → root_at all e ≡ Some g → Root f.expressions e g
  to_root zero e g lt h = absurd (omega arith)
  to_root (suc n) e g lt h = at (nat_lt e (length f.expressions)) refl (λ d r earlier. to_root n d g (omega arith) r) where
    by_form : (x : Expression) → IsExpressionAt f e x → own_root all x ≡ Some g →
        ((d : ℕ) → root_at all d ≡ Some g → d < e → Root f.expressions d g) → Root f.expressions e g
    by_form (form.GlobalVariable d) s r back = let P : ℕ → Type 0 = λ v. Root f.expressions e v in let same : d ≡ g = cc in
        subst P same (occurs.Root.global s)
    by_form (form.Access base index) s r back =
        occurs.Root.access s (back base r (below e (form.Access base index) _ s (here ((base, Part)) ((index, Read) ∷ []))))
    by_form (form.AccessIndex base index) s r back =
        occurs.Root.access_index s (back base r (below e (form.AccessIndex base index) _ s (here ((base, Part)) [])))
    by_form x s r back = absurd (cc)

    at : (b : Bool) → nat_lt e (length f.expressions) ≡ b → ((d : ℕ) → root_at all d ≡ Some g → d < e → Root f.expressions d g) →
        Root f.expressions e g
    at true test back =
        let x = get_or f.expressions e form.RayQueryProceedResult in
        let s : IsExpressionAt f e x = slice_get-get_or f.expressions e form.RayQueryProceedResult (omega (arith, ltb-true, test)) in
        by_form x s (sym (root_is e x s) ∙ h) back
    at false test back =
        let none : root_at all e ≡ None = ap (option_and_then ag) (slice_get_past all e (omega (arith, ltb-false, test, root_long))) in
        absurd (cc)

  pub root_to : (e g : ℕ) → root_at all e ≡ Some g → Root f.expressions e g
  root_to e g h = to_root (suc e) e g (omega arith) h

  pub root_from : (e g : ℕ) → Root f.expressions e g → root_at all e ≡ Some g
  root_from e g (occurs.Root.global s) = root_is e (form.GlobalVariable g) s
  root_from e g (occurs.Root.access {base = base} {index = index} s r) = root_is e (form.Access base index) s ∙ root_from base g r
  root_from e g (occurs.Root.access_index {base = base} {index = index} s r) =
      root_is e (form.AccessIndex base index) s ∙ root_from base g r
